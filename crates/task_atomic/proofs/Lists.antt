-- Each list of calls is a run.
use Rattle.std.proofs.Common.{◌≡◌, ℕ, Bool, true, false, not, ◌&&◌, List, [], ◌∷◌, ◌++◌, Option, Some, None, refl, sym, ap, ◌∙◌, subst, append_assoc, if◌then◌else◌, arith}
use Rattle.std.specs.Prelude.{is_some}
use Rattle.task_core.specs.declared.traits.Poll.TheVariants.{Pending, Ready}
use Rattle.task_core.specs.Local.{Local, Effect, Phase, Queued, Started, IsPolled, IsEnded, IsNotDue, starts, settles, discards, wakes, gains_waker, drops_waker, cancels, detaches, claims, registers, Answered, opening_task, has_room, is_done, is_queued, is_started}
use Rattle.task_laws.specs.Event.{Event, CallEnds}
use Rattle.task_laws.specs.declared.positions.Answer.TheVariants.{Ran, Gained}
use Rattle.task_laws.specs.Abstract.{PlainTask, PlainEffect, AbstractCell, Frame, InPoll, Move, Begin, Go, Abstract, SegmentEnd, begin, go, follow, put, continues, moved, then_moved, all_moved, is_again}
use Rattle.task_laws.specs.Abstract
use Rattle.task_laws.specs.Whole.{one_if}
use Rattle.task_laws.specs.WholeCalls.{to_next, alone}
use Rattle.task_laws.specs.LocalRows.{PlainAnswered, Answers, in_order, made_alone, leaves, cell_of, tells, tells_of_drop, tells_poll, HasItsOutput, polled}
use Rattle.task_laws.proofs.LocalRows.{each_row_agrees}
use Rattle.task_laws.proofs.Scenes.{rules}
use Rattle.local_task.specs.LocalCalls.{Call, Start, DiscardRunnable, Wake, AddWaker, DropWaker, Cancel, Detach, Settle, PollTask, may_be_called, effect_of_start, effect_of_call, then_called, all_called, has_future, IsSound}
use Rattle.local_task.proofs.LocalSound.{calls-sound}
use Rattle.task_atomic.specs.Tokens.{token, number_of, plain_task, plain_effect, plain_answered}
use Rattle.task_atomic.specs.Runs.{tells_start, or_none, tells_call, tells_at, all_told, open_run, IsRun, CallsAreRuns}
use Rattle.task_atomic.proofs.Tokens.{plain_started, same_starts, same_discards, same_wakes, same_gains, same_drops, same_cancels, same_detaches, same_ready, same_pending, same_claims, same_registers}

-- the moves by which a call goes on until it has ended
abbrev continued : SegmentEnd → Option Frame → List Bool → List Move → List Move
continued l None answers moves = moves
continued l (Some f) [] moves = moves
continued l (Some f) (b ∷ bs) moves = continued (to_next l (Some f) b) (to_next l (Some f) b).frame bs (Go b ∷ moves)

ended_alone : (l : SegmentEnd) (answers : List Bool) → l.frame ≡ None → alone l answers ≡ l
ended_alone l [] e = refl
ended_alone l (b ∷ bs) e = ap (λ (f : Option Frame). alone (to_next l f b) bs) e ∙ ended_alone l bs e

goes_one : (limit : ℕ) (l : SegmentEnd) (f : Frame) (b : Bool) (moves : List Move) (frames : List Frame) (told : List Event) → l.frame ≡ Some f
    → all_moved limit moves ≡ Some (follow l frames told) → all_moved limit (Go b ∷ moves) ≡ Some (follow (to_next l (Some f) b) frames told)
goes_one limit l f b moves frames told is e =
    let next = go l.cell f b in
    ap (λ (a : Option Abstract). then_moved limit a (Go b)) e ∙ (ap (λ (g : Option Frame). continues l.cell (put g frames) (l.told ++ told) b) is
    ∙ ap (λ (events : List Event). Some (record { cell = next.cell; frames = put next.frame frames; told = events })) (sym (append_assoc next.told l.told told)))

goes_leads : (limit : ℕ) (l : SegmentEnd) (frame : Option Frame) (answers : List Bool) (moves : List Move) (frames : List Frame) (told : List Event) → l.frame ≡ frame
    → all_moved limit moves ≡ Some (follow l frames told) → all_moved limit (continued l frame answers moves) ≡ Some (follow (alone l answers) frames told)
goes_leads limit l None answers moves frames told is e = e ∙ ap (λ (x : SegmentEnd). Some (follow x frames told)) (sym (ended_alone l answers is))
goes_leads limit l (Some f) [] moves frames told is e = e
goes_leads limit l (Some f) (b ∷ bs) moves frames told is e =
    let next = to_next l (Some f) b in
    goes_leads limit next next.frame bs (Go b ∷ moves) frames told refl (goes_one limit l f b moves frames told is e)
    ∙ ap (λ (g : Option Frame). Some (follow (alone (to_next l g b) bs) frames told)) (sym is)

token_of : {X : Type 0} (o : Option X) (b : Bool) → is_some o ≡ b → token o ≡ one_if b
token_of None true e = cc
token_of None false e = refl
token_of (Some x) true e = refl
token_of (Some x) false e = cc

is_queued_phase : (p : Phase) → is_queued p ≡ true → p ≡ Queued
is_queued_phase p e = grind arith

abbrev answering : Bool → Answers
answering b = record { first = b; second = true; third = true; fourth = true }

module _ {F T A : Type 0} (number : A → ℕ) (limit : ℕ) where
  abbrev plain : Local F T A → PlainTask
  plain t = plain_task number t

  -- a call that is made alone, also where a run is open
  by_alone : (t u : Local F T A) (call : Abstract.Call) (a : Answers) (events told : List Event) → is_started t.phase ≡ is_started u.phase
      → made_alone limit (plain t) call a ≡ leaves (plain u) events → IsRun number limit t told → IsRun number limit u (events ++ told)
  by_alone t u call a events told same row r =
      let first = begin limit (cell_of (plain t)) call in
      let frames = open_run t.phase in
      record {
        moves = continued first first.frame (in_order a) (Begin call ∷ r.moves);
        leads = goes_leads limit first first.frame (in_order a) (Begin call ∷ r.moves) frames told refl (ap (λ (x : Option Abstract). then_moved limit x (Begin call)) r.leads)
            ∙ (ap (λ (l : SegmentEnd). Some (follow l frames told)) row
            ∙ ap (λ (b : Bool). Some (record { cell = cell_of (plain u); frames = (if b then InPoll ∷ [] else []); told = events ++ told })) same);
      }

  -- a run that is open ends
  by_settling : (t u : Local F T A) (b : Bool) (a : Answers) (events told : List Event) → is_started t.phase ≡ true → is_started u.phase ≡ false
      → alone (go (cell_of (plain t)) InPoll b) (in_order a) ≡ leaves (plain u) events → IsRun number limit t told → IsRun number limit u (events ++ told)
  by_settling t u b a events told started ended row r =
      let first = go (cell_of (plain t)) InPoll b in
      let there : all_moved limit r.moves ≡ Some (record { cell = cell_of (plain t); frames = InPoll ∷ []; told = told }) =
      r.leads ∙ ap (λ (s : Bool). Some (record { cell = cell_of (plain t); frames = (if s then InPoll ∷ [] else []); told = told })) started in
      record {
        moves = continued first first.frame (in_order a) (Go b ∷ r.moves);
        leads = goes_leads limit first first.frame (in_order a) (Go b ∷ r.moves) [] told refl (ap (λ (x : Option Abstract). then_moved limit x (Go b)) there)
            ∙ (ap (λ (l : SegmentEnd). Some (follow l [] told)) row
            ∙ ap (λ (s : Bool). Some (record { cell = cell_of (plain u); frames = (if s then InPoll ∷ [] else []); told = events ++ told })) (sym ended));
      }

  has_its_future : (t : Local F T A) → IsSound F T A limit t → is_queued t.phase ≡ true → (plain t).future ≡ Some tt
  has_its_future t s q = token_of t.future true (s.future ∙ queued t.phase q)
    where
      queued : (p : Phase) → is_queued p ≡ true → has_future p ≡ true
      queued p e = grind arith

  has_its_output : (t : Local F T A) → IsSound F T A limit t → HasItsOutput (plain t)
  has_its_output t s = token_of t.output (is_done t.phase && not t.closed) s.output

  -- what stays open
  kept_discard : (t : Local F T A) → is_queued t.phase ≡ true → is_started t.phase ≡ is_started ((discards t).task).phase
  kept_discard t e = grind rules

  kept_wake : (t : Local F T A) → is_started t.phase ≡ is_started ((wakes t).task).phase
  kept_wake t = grind rules

  kept_gain : (t : Local F T A) → is_started t.phase ≡ is_started ((gains_waker limit t).task).phase
  kept_gain t = grind rules

  kept_drop : (t : Local F T A) → is_started t.phase ≡ is_started ((drops_waker t).task).phase
  kept_drop t = grind rules

  kept_cancel : (t : Local F T A) → is_started t.phase ≡ is_started ((cancels t).task).phase
  kept_cancel t = grind rules

  kept_detach : (t : Local F T A) → is_started t.phase ≡ is_started ((detaches t).task).phase
  kept_detach t = grind rules

  ready_ends : (f : F) (output : T) (t : Local F T A) → (is_started ((settles f (Ready output) t).task).phase ≡ false) × (is_again (settles f (Ready output) t).queue ≡ false)
  ready_ends f output t = (grind rules, grind rules)

  pending_ends : (f : F) (t : Local F T A) → is_started ((settles f Pending t).task).phase ≡ false
  pending_ends f t = grind rules

  abbrev Leads : Local F T A → List Event → Started F T A → Type 0
  Leads t told s = IsRun number limit ((effect_of_start s).task) (tells_start number s ++ told)

  starts_polled : (t : Local F T A) (e : Effect F T A) → starts t ≡ IsPolled e → (is_started t.phase ≡ false) × (is_started e.task.phase ≡ true)
  starts_polled t e is = (grind rules, grind rules)

  starts_ended : (t : Local F T A) (e : Effect F T A) → starts t ≡ IsEnded e → (is_queued t.phase ≡ true) × (is_started t.phase ≡ is_started e.task.phase)
  starts_ended t e is = (grind rules, grind rules)

  starts_not : (t : Local F T A) (e : Effect F T A) → starts t ≡ IsNotDue e → t ≡ e.task
  starts_not t e is = grind rules

  start_run : (t : Local F T A) (told : List Event) (s : Started F T A) → starts t ≡ s → IsSound F T A limit t → IsRun number limit t told → Leads t told s
  start_run t told (IsPolled e) is sound r =
      let same : starts (plain t) ≡ IsPolled (plain_effect number e) = same_starts number t ∙ ap (plain_started number) is in
      let phases = starts_polled t e is in
      record {
        moves = Begin Abstract.Run ∷ r.moves;
        leads = ap (λ (x : Option Abstract). then_moved limit x (Begin Abstract.Run)) r.leads
            ∙ (ap (λ (l : SegmentEnd). Some (follow l (open_run t.phase) told)) ((each_row_agrees limit (plain t) (answering true)).run_starts (plain_effect number e) same)
            ∙ (ap (λ (b : Bool). Some (record { cell = cell_of (plain e.task); frames = InPoll ∷ (if b then InPoll ∷ [] else []); told = told })) phases.0
            ∙ ap (λ (b : Bool). Some (record { cell = cell_of (plain e.task); frames = (if b then InPoll ∷ [] else []); told = told })) (sym phases.1)));
      }
  start_run t told (IsEnded e) is sound r =
      let same : starts (plain t) ≡ IsEnded (plain_effect number e) = same_starts number t ∙ ap (plain_started number) is in
      let phases = starts_ended t e is in
      by_alone t e.task Abstract.Run (answering true) (CallEnds (Ran false) ∷ tells (plain_effect number e)) told phases.1
      ((each_row_agrees limit (plain t) (answering true)).run_closed (plain_effect number e) same (has_its_future t sound phases.0)) r
  start_run t told (IsNotDue e) is sound r = subst (λ (u : Local F T A). IsRun number limit u told) (starts_not t e is) r

  -- a poll, by what `will_wake` or the clone answers
  poll_by : (t : Local F T A) (told : List Event) (i : ℕ) (wanted : Bool) (answered : Answered F T A) → is_started t.phase ≡ is_started answered.effect.task.phase
      → polled wanted i (plain t) ≡ plain_answered number answered → IsSound F T A limit t → IsRun number limit t told
      → IsRun number limit answered.effect.task (tells_poll i (plain_answered number answered) ++ told)
  poll_by t told i wanted answered phases same sound r =
      by_alone t answered.effect.task (Abstract.Poll i) (answering wanted) (tells_poll i (plain_answered number answered)) told phases
      (subst (λ (e : PlainAnswered). made_alone limit (plain t) (Abstract.Poll i) (answering wanted) ≡ leaves e.effect.task (tells_poll i e)) same
      ((each_row_agrees limit (plain t) (answering wanted)).poll i (has_its_output t sound))) r

  polled_as : (t : Local F T A) (done wanted : Bool) (i : ℕ) → is_done t.phase ≡ done
      → polled wanted i (plain t) ≡ (if done then claims (not wanted) (plain t) else registers (if wanted then Some i else None) (plain t))
  polled_as t done wanted i e = ap (λ (d : Bool). if d then claims (not wanted) (plain t) else registers (if wanted then Some i else None) (plain t)) e

  poll_run : (t : Local F T A) (told : List Event) (clone : Option A) (same done : Bool) → is_done t.phase ≡ done → IsSound F T A limit t → IsRun number limit t told
      → let answered = (if done then claims same t else registers clone t) in
      IsRun number limit answered.effect.task (tells_poll (or_none (number_of number clone)) (plain_answered number answered) ++ told)
  poll_run t told clone true true is sound r =
      let i = or_none (number_of number clone) in poll_by t told i false (claims true t) refl (polled_as t true false i is ∙ same_claims number true t) sound r
  poll_run t told clone false true is sound r =
      let i = or_none (number_of number clone) in poll_by t told i true (claims false t) refl (polled_as t true true i is ∙ same_claims number false t) sound r
  poll_run t told None same false is sound r = poll_by t told 0 false (registers None t) refl (polled_as t false false 0 is ∙ same_registers number None t) sound r
  poll_run t told (Some clone) same false is sound r =
      poll_by t told (number clone) true (registers (Some clone) t) refl (polled_as t false true (number clone) is ∙ same_registers number (Some clone) t) sound r

  -- each call goes on with the run
  abbrev Tells : Local F T A → Abstract.Call → PlainEffect → Type 0
  Tells t call e = made_alone limit (plain t) call (answering true) ≡ leaves e.task (tells e)

  call_run : (call : Call F T A) (t : Local F T A) (told : List Event) → IsSound F T A limit t → may_be_called call t ≡ true → IsRun number limit t told
      → IsRun number limit ((effect_of_call limit call t).task) (tells_call number limit call t ++ told)
  call_run Start t told sound may r = start_run t told (starts t) refl sound r
  call_run DiscardRunnable t told sound may r =
      let e = plain_effect number (discards t) in
      by_alone t (discards t).task Abstract.DropRunnable (answering true) (tells_of_drop e) told (kept_discard t may)
      (subst (λ (x : PlainEffect). made_alone limit (plain t) Abstract.DropRunnable (answering true) ≡ leaves x.task (tells_of_drop x)) (same_discards number t)
      ((each_row_agrees limit (plain t) (answering true)).drop_runnable (is_queued_phase t.phase may) (has_its_future t sound may))) r
  call_run Wake t told sound may r =
      by_alone t (wakes t).task Abstract.Wake (answering true) (tells (plain_effect number (wakes t))) told (kept_wake t)
      (subst (Tells t Abstract.Wake) (same_wakes number t) (each_row_agrees limit (plain t) (answering true)).wake) r
  call_run AddWaker t told sound may r =
      by_alone t (gains_waker limit t).task (Abstract.Gain false) (answering true) (CallEnds (Gained (has_room limit t)) ∷ []) told (kept_gain t)
      (subst (λ (x : PlainEffect). made_alone limit (plain t) (Abstract.Gain false) (answering true) ≡ leaves x.task (CallEnds (Gained (has_room limit t)) ∷ []))
      (same_gains number limit t) (each_row_agrees limit (plain t) (answering true)).gain) r
  call_run DropWaker t told sound may r =
      by_alone t (drops_waker t).task Abstract.DropWaker (answering true) (tells (plain_effect number (drops_waker t))) told (kept_drop t)
      (subst (Tells t Abstract.DropWaker) (same_drops number t) (each_row_agrees limit (plain t) (answering true)).drop_waker) r
  call_run Cancel t told sound may r =
      by_alone t (cancels t).task Abstract.Cancel (answering true) (tells (plain_effect number (cancels t))) told (kept_cancel t)
      (subst (Tells t Abstract.Cancel) (same_cancels number t) (each_row_agrees limit (plain t) (answering true)).cancel) r
  call_run Detach t told sound may r =
      by_alone t (detaches t).task Abstract.Detach (answering true) (tells (plain_effect number (detaches t))) told (kept_detach t)
      (subst (Tells t Abstract.Detach) (same_detaches number t) ((each_row_agrees limit (plain t) (answering true)).detach (has_its_output t sound))) r
  call_run (Settle f (Ready output)) t told sound may r =
      let e = settles f (Ready output) t in
      let last = ready_ends f output t in
      by_settling t e.task true (answering true) (CallEnds (Ran (is_again e.queue)) ∷ tells (plain_effect number e)) told may last.0
      (subst (λ (again : Bool). alone (go (cell_of (plain t)) InPoll true) (in_order (answering true)) ≡ leaves (plain e.task) (CallEnds (Ran again) ∷ tells (plain_effect number e))) (sym last.1)
      (subst (λ (x : PlainEffect). alone (go (cell_of (plain t)) InPoll true) (in_order (answering true)) ≡ leaves x.task (CallEnds (Ran false) ∷ tells x)) (same_ready number f output t)
      ((each_row_agrees limit (plain t) (answering true)).run_ready may))) r
  call_run (Settle f Pending) t told sound may r =
      let e = settles f Pending t in
      by_settling t e.task false (answering true) (CallEnds (Ran (is_again e.queue)) ∷ tells (plain_effect number e)) told may (pending_ends f t)
      (subst (λ (x : PlainEffect). alone (go (cell_of (plain t)) InPoll false) (in_order (answering true)) ≡ leaves x.task (CallEnds (Ran (is_again x.queue)) ∷ tells x)) (same_pending number f t)
      ((each_row_agrees limit (plain t) (answering true)).run_pending may)) r
  call_run (PollTask clone same) t told sound may r = poll_run t told clone same (is_done t.phase) refl sound r

  abbrev Reached : Call F T A → Local F T A → List Event → Local F T A → Type 0
  Reached call u told t = IsRun number limit t (tells_call number limit call u ++ told)

  if_run : (call : Call F T A) (allowed : Bool) (u t : Local F T A) (told : List Event)
      → (allowed ≡ true → Reached call u told ((effect_of_call limit call u).task))
      → (if allowed then Some ((effect_of_call limit call u).task) else None) ≡ Some t → Reached call u told t
  if_run call true u t told r e = let same : (effect_of_call limit call u).task ≡ t = cc in subst (Reached call u told) same (r refl)
  if_run call false u t told r e = absurd (cc)

  then_run : (call : Call F T A) (before : Option (Local F T A)) (t : Local F T A) (told : List Event)
      → ((u : Local F T A) → before ≡ Some u → IsSound F T A limit u × IsRun number limit u told)
      → then_called limit call before ≡ Some t → IsRun number limit t (tells_at number limit call before ++ told)
  then_run call None t told r e = absurd (cc)
  then_run call (Some u) t told r e = let both = r u refl in if_run call (may_be_called call u) u t told (λ may. call_run call u told both.0 may both.1) e

  opens : (f : F) (t : Local F T A) → all_called limit f [] ≡ Some t → IsRun number limit t []
  opens f t e = let same : opening_task f ≡ t = cc in subst (λ (u : Local F T A). IsRun number limit u []) same (record { moves = []; leads = refl })

  list_run : (f : F) (calls : List (Call F T A)) (t : Local F T A) → all_called limit f calls ≡ Some t → IsRun number limit t (all_told number limit f calls)
  list_run f [] t e = opens f t e
  list_run f (call ∷ earlier) t e =
      then_run call (all_called limit f earlier) t (all_told number limit f earlier) (λ u is. (calls-sound limit f earlier u is, list_run f earlier u is)) e

pub calls_are_runs : {F T A : Type 0} → CallsAreRuns F T A
calls_are_runs number limit f calls t e = list_run number limit f calls t e
