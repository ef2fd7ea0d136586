-- What the looks of a poll come to, and what follows them.
use Rattle.task_cell.proofs.Vocabulary.{work_first, awaiter_first}
use Rattle.std.proofs.Common.{◌≡◌, ℕ, Bool, true, false, List, [], ◌∷◌, sym, subst}
use Rattle.task_core.specs.Word.{State}
use Rattle.task_core.specs.declared.acts.Act.TheVariants.{BeginNotify, EndCall, Look, MissNotify, TakeAwaiter}
use Rattle.task_cell.proofs.Moved.{did_then, stands}
use Rattle.task_cell.proofs.PollWays.{ends as poll_end, then_goes}
use Rattle.task_cell.specs.Calls.{Did, DidWith, Fits, Stands, StandsWith, position}
use Rattle.task_cell.specs.Calls.{BeginsNotify}
use Rattle.task_cell.specs.PollPaths.{ClaimsOutput}
use Rattle.task_cell.specs.declared.cell.Party.{Party}
use Rattle.task_exports.proofs.Notices.{at_rest, passes_after, takes_after}
use Rattle.task_exports.specs.TaskAnswers.{Answers, ClaimGoesOn, EndGoesOn, PassesBy, claim_takes, end_takes, ends, ends_and_takes, ends_now, finds_other, has_it, has_it_and_takes, has_it_now, none_due}
use Rattle.task_laws.specs.Table.{notifies}
use Rattle.task_laws.specs.declared.positions.NotifyingCall.TheVariants.{OfClaim, OfPoll}
use Rattle.task_laws.specs.declared.positions.PollAnswer.TheVariants.{IsClosed}
use Rattle.task_laws.specs.declared.positions.Position.TheVariants.{Answering, Notifier, Releaser, TookOutput}
use Rattle.task_steps.specs.Deeds.{act, row}
use Rattle.task_steps.specs.PollScripts.{has_ended, has_output}
use Rattle.task_exports.proofs.Unknown.{output_unknown}
use Rattle.task_steps.specs.Values.{Values}
use Rattle.task_steps.specs.Rule.{IsOutput}
use Rattle.task_steps.specs.Standing.{as_task, poll_number}
use Rattle.task_steps.specs.declared.table.Deed.{Deed}
use Rattle.task_steps.specs.declared.table.Slot.{Slot}

module _ {F T A : Type 0} where
  -- an output was claimed
  pub due_claim : (due : Bool) (i : ℕ) (z : Slot F T) (p : Party F T A) → due ≡ true → StandsWith (notifies due (OfClaim i)) (work_first z []) p → StandsWith (Notifier (OfClaim i)) (work_first z []) p
  due_claim due i z p e s = subst (λ (b : Bool). StandsWith (notifies b (OfClaim i)) (work_first z []) p) e s

  pub claim_alone : (due : Bool) (i : ℕ) (z : Slot F T) (p : Party F T A) → due ≡ false → StandsWith (notifies due (OfClaim i)) (work_first z []) p → ClaimGoesOn due i z p p 16
  claim_alone due i z p e s = subst (λ (b : Bool). ClaimGoesOn b i z p p 16) (sym e)
      (has_it_now [] none_due (at_rest (TookOutput i) (work_first z []) p (subst (λ (b : Bool). StandsWith (notifies b (OfClaim i)) (work_first z []) p) e s)))

  pub claim_takes_it : (due : Bool) (i : ℕ) (z : Slot F T) (p q : Party F T A) (b : Bool) → due ≡ true → StandsWith (notifies due (OfClaim i)) (work_first z []) p → BeginsNotify p q b → b ≡ true → ClaimGoesOn due i z p q 24
  claim_takes_it due i z p q b e s n f = let held = work_first z [] in claim_takes e (takes_after (OfClaim i) held [] p p q b (at_rest (Notifier (OfClaim i)) held p (due_claim due i z p e s)) n f)

  pub claim_passes : (due : Bool) (i : ℕ) (z : Slot F T) (p q : Party F T A) (b : Bool) → due ≡ true → StandsWith (notifies due (OfClaim i)) (work_first z []) p → BeginsNotify p q b → b ≡ false → ClaimGoesOn due i z p q 16
  claim_passes due i z p q b e s n f = let held = work_first z [] in let x = passes_after (OfClaim i) held [] p p q b (at_rest (Notifier (OfClaim i)) held p (due_claim due i z p e s)) n f in
      has_it_now (row MissNotify x.0 ∷ []) (subst (λ (b : Bool). PassesBy b (row MissNotify x.0 ∷ [])) (sym e) (finds_other x.0 x.1)) x.2

  -- the task was found ended
  pub end_takes_it : (i : ℕ) (p q : Party F T A) (b : Bool) → Stands (Notifier (OfPoll i)) p → BeginsNotify p q b → b ≡ true → EndGoesOn i p q 7
  end_takes_it i p q b s n f = end_takes (takes_after (OfPoll i) [] [] p p q b (at_rest (Notifier (OfPoll i)) [] p s) n f)

  pub end_answers : (i : ℕ) (p q : Party F T A) (b : Bool) → Stands (Notifier (OfPoll i)) p → BeginsNotify p q b → b ≡ false → (v : State) × Fits MissNotify v × Did (row MissNotify v ∷ []) (Answering i IsClosed) p q
  end_answers i p q b s n f = passes_after (OfPoll i) [] [] p p q b (at_rest (Notifier (OfPoll i)) [] p s) n f

  pub end_passes : (i : ℕ) (p q r : Party F T A) (b : Bool) → Stands (Notifier (OfPoll i)) p → BeginsNotify p q b → b ≡ false → Did (act EndCall ∷ []) (poll_end (position q)) q r → EndGoesOn i p r 17
  end_passes i p q r b s n f e = let x = end_answers i p q b s n f in
      ends_now x.0 x.1 (then_goes p q r (row MissNotify x.0 ∷ []) (act EndCall ∷ []) (Answering i IsClosed) [] [] poll_end x.2 e)

  -- a look that has claimed the output, and what followed
  pub claimed_stands : {values : Values F T} (w : State) (path : List Deed) (p q : Party F T A) (due : Bool) → ClaimsOutput values w path p q → due ≡ w.awaiter → (i : ℕ) × (z : Slot F T) × StandsWith (notifies due (OfClaim i)) (work_first z []) q
  claimed_stands w path p q due c e = let i = poll_number (position p) in
      (i, c.output, subst (λ (b : Bool). StandsWith (notifies b (OfClaim i)) (work_first c.output []) q) (sym e) (stands p q path (notifies w.awaiter (OfClaim i)) (work_first c.output []) c.did))

  claimed_goes : (values : Values F T) (claims : State → List Deed) (i : ℕ) (w : State) (z : Slot F T) (p q r : Party F T A) (a : ℕ) → has_output w ≡ true → IsOutput values z → DidWith (claims w) (notifies w.awaiter (OfClaim i)) (work_first z []) p q → ClaimGoesOn w.awaiter i z q r a → Answers i claims p r a
  claimed_goes values claims i w z p q r _ there o g (has_it_now notice passes d) = has_it w z notice there (output_unknown values z o) passes (did_then p q r (claims w) notice (notifies w.awaiter (OfClaim i)) (TookOutput i) (work_first z []) (work_first z []) g d)
  claimed_goes values claims i w z p q r _ there o g (claim_takes due t) = has_it_and_takes w z there (output_unknown values z o) due (
    t.0,
    t.1,
    t.2,
    t.3,
    t.4,
    did_then p q r (claims w) (row BeginNotify t.0 ∷ act TakeAwaiter ∷ []) (notifies w.awaiter (OfClaim i)) (Releaser t.1 (OfClaim i)) (work_first z []) (awaiter_first t.2 (work_first z [])) g t.5,
  )

  pub answers_claimed : {values : Values F T} (claims : State → List Deed) (w : State) (p q r : Party F T A) (due : Bool) (a : ℕ) → ClaimsOutput values w (claims w) p q → due ≡ w.awaiter
      → ((i : ℕ) (z : Slot F T) → StandsWith (notifies due (OfClaim i)) (work_first z []) q → ClaimGoesOn due i z q r a) → Answers (poll_number (position p)) claims p r a
  answers_claimed {values = values} claims w p q r due a c e f = let i = poll_number (position p) in let held = work_first c.output [] in
      let s = subst (λ (b : Bool). StandsWith (notifies b (OfClaim i)) held q) (sym e) (stands p q (claims w) (notifies w.awaiter (OfClaim i)) held c.did) in
      claimed_goes values claims i w c.output p q r a c.there c.is_output c.did (subst (λ (b : Bool). ClaimGoesOn b i c.output q r a) e (f i c.output s))

  -- a look that has found the task ended, and what followed
  ended_goes : (claims : State → List Deed) (i : ℕ) (w : State) (p q r : Party F T A) (a : ℕ) → has_ended w ≡ true → Did (row Look w ∷ []) (Notifier (OfPoll i)) p q → EndGoesOn i q r a → Answers i claims p r a
  ended_goes claims i w p q r _ e g (ends_now v f d) = ends w v e f (did_then p q r (row Look w ∷ []) (row MissNotify v ∷ act EndCall ∷ []) (Notifier (OfPoll i)) (as_task i) [] [] g d)
  ended_goes claims i w p q r _ e g (end_takes t) = ends_and_takes w e (
    t.0,
    t.1,
    t.2,
    t.3,
    t.4,
    did_then p q r (row Look w ∷ []) (row BeginNotify t.0 ∷ act TakeAwaiter ∷ []) (Notifier (OfPoll i)) (Releaser t.1 (OfPoll i)) [] (awaiter_first t.2 []) g t.5,
  )

  pub answers_ended : (claims : State → List Deed) (i : ℕ) (w : State) (p q r : Party F T A) (a : ℕ) → has_ended w ≡ true → Did (row Look w ∷ []) (Notifier (OfPoll i)) p q → ((j : ℕ) → Stands (Notifier (OfPoll j)) q → EndGoesOn j q r a) → Answers i claims p r a
  answers_ended claims i w p q r a e g f = ended_goes claims i w p q r a e g (f i (stands p q (row Look w ∷ []) (Notifier (OfPoll i)) [] g))
