-- What the parts of a poll come to, put together from its exports; and the question whether a task is over.
use Rattle.std.proofs.Common.{◌≡◌, ℕ, Bool, true, false, List, [], ◌∷◌, ◌++◌, Option, Some, None, is_some, if◌then◌else◌, not, refl, sym, ap, ◌∙◌, subst}
use Rattle.std.specs.Prelude.{◌||◌, Result, Ok, nat_eq}
use Rattle.task_core.specs.Word.{State, is_open}
use Rattle.task_core.specs.declared.acts.Act.{Act}
use Rattle.task_core.specs.declared.acts.Act.TheVariants.{BeginNotify, BeginRegister, CloneAwaiter, DropAwaiter, EndCall, EndRegister, EndRegisterNotified, FindNotify, HandOutOutput, Look, LookFinished, MissNotify, StoreAwaiter, TakeAwaiter, WakeAwaiter}
use Rattle.task_core.specs.declared.traits.TaskPoll.{TaskPoll}
use Rattle.task_core.specs.declared.traits.TaskPoll.TheVariants.{Ready}
use Rattle.task_cell.proofs.Moved.{did_then, limit_is}
use Rattle.task_cell.specs.Calls.{Did, DidWith, Fits}
use Rattle.task_cell.specs.PollPaths.{AnswerPath, PollPath, RegisterPath, TakePath, TakePathIf, dropped_if}
use Rattle.task_cell.specs.PollPaths as paths
use Rattle.task_cell.specs.declared.cell.Party.{Party}
use Rattle.task_exports.proofs.Numbers.{differs, joined}
use Rattle.task_exports.proofs.RunCall.{done_then}
use Rattle.task_exports.specs.Answers.{IsFull}
use Rattle.task_exports.specs.CallPaths.{Done, EndsLook, EndsRegister, GoesOnPolling, LooksBy, TakesOut, claims_by, drops_same, found_end, found_output, is_look, is_taken_back, nothing_there, refuses, registers_first, stays_there, wakes_other}
use Rattle.task_exports.specs.Parties.{CellParty, IsAt, Keeps}
use Rattle.task_exports.specs.TaskAnswers.{Answers, EndsStore, Looks, LooksAfter, LooksOn, PassesBy, Polls, Stores, TakesPlace, alone, answers, answers_now, end_missed, ends, ends_and_takes, finds_notifier, finds_other, has_it, has_it_and_takes, has_to_take_back, is_not, is_over, look_missed, looks, none_due, over, poll_missed, registers, store_missed, stores, taking, waits}
use Rattle.task_exports.specs.Unknown.{unknown}
use Rattle.task_exports.specs.declared.handle.Handle.{Handle}
use Rattle.task_laws.specs.Table.{after_storing}
use Rattle.task_laws.specs.declared.positions.NotifyingCall.TheVariants.{OfClaim, OfPoll}
use Rattle.task_laws.specs.declared.positions.Position.{Position}
use Rattle.task_laws.specs.declared.positions.Position.TheVariants.{Looking, Registrar, Releaser, TookBack, TookOutput, UnusedClone}
use Rattle.task_steps.specs.Stored.{stored_by}
use Rattle.task_steps.specs.declared.kept.StoredAwaiter.{StoredAwaiter}
use Rattle.task_steps.proofs.Bools.{never}
use Rattle.task_steps.specs.Deeds.{act, row}
use Rattle.task_steps.specs.PollScripts.{has_ended, has_output, has_to_wait}
use Rattle.task_steps.specs.Rule.{IsOutput}
use Rattle.task_steps.specs.Standing.{as_task}
use Rattle.task_steps.specs.Steps.{awaiter_first, work_first}
use Rattle.task_steps.specs.declared.table.Deed.{Deed}
use Rattle.task_steps.specs.declared.table.Slot.{Slot}

-- whether the task is over
pub finished : {F T A : Type 0} (n : ℕ) (p q : Party F T A) (a : ℕ) → Looks n p q a → (w : State) × (nat_eq a 1 ≡ not (is_open w)) × Did (row LookFinished w ∷ act EndCall ∷ []) (as_task n) p q
finished n p q _ (is_over w e d) = (w, ap not (sym e), d)
finished n p q _ (is_not w e d) = (w, ap not (sym e), d)

-- a party is one of the cell at its place after an export, and after what it did
pub at_after : (h k : Handle) → IsFull h → Keeps h k → IsAt h.hand.party k
at_after h k f s = (s.0, s.1, f.1.1 ∙ sym s.2, f.1.2 ∙ sym s.4)

pub at_then : (p q : CellParty) (k : Handle) (path : List Deed) (at : Position) (held : _) → IsAt p k → DidWith path at held p q → IsAt q k
at_then p q k path at held x g = (x.0, x.1, g.cell ∙ x.2, limit_is p q path at held g ∙ x.3)

-- the place is full after such an export
pub full_there : (p : CellParty) (k : Handle) (path : List Deed) (at : Position) (held : _) → IsAt p k → DidWith path at held p k.hand.party → IsFull k
full_there p k path at held x g = let y = at_then p k.hand.party k path at held x g in (y.0, (y.1, y.2, y.3))

pub keeps_at : (p : CellParty) (k : Handle) → IsAt p k → Keeps k k
keeps_at p k x = (x.0, x.1, refl, refl, refl)

-- what an option holds
abbrev held_or : {X : Type 0} → X → Option X → X
held_or x None = x
held_or x (Some y) = y

pub same_held : {X : Type 0} (x y : X) → Some x ≡ Some y → x ≡ y
same_held x y e = ap (held_or x) e

-- the output is handed out
abbrev out : List Deed
out = act HandOutOutput ∷ act EndCall ∷ []

module _ {W K : Type 0} (woken : W → K → Type 0) (compared : W → W → Bool → Type 0) (awaiter : W) where
  -- nobody is to be woken
  passes : (due : Bool) (notice : List Deed) → PassesBy due notice → TakePathIf woken compared awaiter due notice
  passes _ _ none_due = refl
  passes _ _ (finds_other w f) = paths.misses w f

  -- what lay in the place was taken out by a poll that has taken the place
  takes_out : (v : State) (k : List Deed) → Fits BeginNotify v → TakesOut woken compared awaiter k → TakePath woken compared awaiter (taking v ++ k)
  takes_out v _ f (nothing_there u) = paths.finds_none v u f
  takes_out v _ f (wakes_other u taken told c t) = paths.wakes v u taken told f c t
  takes_out v _ f (drops_same u taken c) = paths.drops v u taken f c

module _ (did : Act → Type 0) where
  pub claims_done : (first : Bool) (w : State) → Done did (claims_by first w)
  claims_done true w = (tt, tt)
  claims_done false w = (tt, (tt, tt))

  passes_done : (due : Bool) (notice : List Deed) → PassesBy due notice → Done did notice
  passes_done _ _ none_due = tt
  passes_done _ _ (finds_other w f) = (tt, tt)

  takes_done : {W K : Type 0} (woken : W → K → Type 0) (compared : W → W → Bool → Type 0) (awaiter : W) (k : List Deed) → TakesOut woken compared awaiter k → Done did k
  takes_done woken compared awaiter _ (nothing_there u) = (tt, tt)
  takes_done woken compared awaiter _ (wakes_other u taken told c t) = (tt, (tt, tt))
  takes_done woken compared awaiter _ (drops_same u taken c) = (tt, (tt, tt))

  dropped_done : (stood : Bool) (rest : List Deed) → Done did rest → Done did (dropped_if stood ++ rest)
  dropped_done false rest x = x
  dropped_done true rest x = (tt, x)

  registers_done : {W K : Type 0} (woken : W → K → Type 0) (clone : W) (stood : Bool) (path : List Deed) → EndsRegister woken clone stood path → Done did path
  registers_done woken clone stood _ (stays_there v e) = dropped_done stood (row EndRegister v ∷ []) (tt, tt)
  registers_done woken clone stood _ (is_taken_back v told e t) = dropped_done stood (act TakeAwaiter ∷ row EndRegisterNotified v ∷ act WakeAwaiter ∷ []) (tt, (tt, (tt, tt)))

module _ {F T A : Type 0} (i : ℕ) (claims : State → List Deed) (p q : Party F T A) where
  -- what a look has found, by its answer: the output is claimed
  abbrev pub Claimed : Type 0
  Claimed = (w : State) × (z : Slot F T) × (notice : List Deed) × (has_output w ≡ true) × IsOutput unknown z × PassesBy w.awaiter notice × DidWith (claims w ++ notice) (TookOutput i) (work_first z []) p q

  claimed : (a : ℕ) → Answers i claims p q a → a ≡ 16 → Claimed
  claimed _ (has_it w z notice e o b d) h = (w, z, notice, e, o, b, d)
  claimed _ (has_it_and_takes w z e o b t) h = differs 24 16 refl refl h
  claimed _ (ends w v e f d) h = differs 17 16 refl refl h
  claimed _ (ends_and_takes w e t) h = differs 7 16 refl refl h

  -- the output is claimed, and the awaiter's place is this party's
  abbrev pub ClaimedTaking : Type 0
  ClaimedTaking = (w : State) × (z : Slot F T) × (has_output w ≡ true) × IsOutput unknown z × (w.awaiter ≡ true) × TakesPlace (OfClaim i) (λ v. claims w ++ taking v) (work_first z []) p q

  claimed_taking : (a : ℕ) → Answers i claims p q a → a ≡ 24 → ClaimedTaking
  claimed_taking _ (has_it w z notice e o b d) h = differs 16 24 refl refl h
  claimed_taking _ (has_it_and_takes w z e o b t) h = (w, z, e, o, b, t)
  claimed_taking _ (ends w v e f d) h = differs 17 24 refl refl h
  claimed_taking _ (ends_and_takes w e t) h = differs 7 24 refl refl h

  -- the task has ended
  abbrev pub Ended : Type 0
  Ended = (w : State) × (v : State) × (has_ended w ≡ true) × Fits MissNotify v × Did (row Look w ∷ row MissNotify v ∷ act EndCall ∷ []) (as_task i) p q

  ended : (a : ℕ) → Answers i claims p q a → a ≡ 17 → Ended
  ended _ (has_it w z notice e o b d) h = differs 16 17 refl refl h
  ended _ (has_it_and_takes w z e o b t) h = differs 24 17 refl refl h
  ended _ (ends w v e f d) h = (w, v, e, f, d)
  ended _ (ends_and_takes w e t) h = differs 7 17 refl refl h

  -- the task has ended, and the awaiter's place is this party's
  abbrev pub EndedTaking : Type 0
  EndedTaking = (w : State) × (has_ended w ≡ true) × TakesPlace (OfPoll i) (λ v. row Look w ∷ taking v) [] p q

  ended_taking : (a : ℕ) → Answers i claims p q a → a ≡ 7 → EndedTaking
  ended_taking _ (has_it w z notice e o b d) h = differs 16 7 refl refl h
  ended_taking _ (has_it_and_takes w z e o b t) h = differs 24 7 refl refl h
  ended_taking _ (ends w v e f d) h = differs 17 7 refl refl h
  ended_taking _ (ends_and_takes w e t) h = (w, e, t)

-- these answers end a poll
abbrev ends_by : ℕ → Bool
ends_by a = nat_eq a 7 || (nat_eq a 16 || (nat_eq a 17 || nat_eq a 24))

module _ (first : Bool) (i : ℕ) (p q : CellParty) where
  by_end : (b : Bool) (a : ℕ) → LooksBy b i p q a → ends_by a ≡ true → Answers i (claims_by b) p q a
  by_end true _ (poll_missed _) k = never k
  by_end true a (answers _ x) k = x
  by_end true _ (registers w e f d) k = never k
  by_end false _ (look_missed _) k = never k
  by_end false a (answers_now _ x) k = x
  by_end false _ (waits w e d) k = never k

  -- by the answer it is known that the look has claimed the output
  pub look_claims : (a : ℕ) → LooksBy first i p q a → a ≡ 16 → Claimed i (claims_by first) p q
  look_claims a x e = claimed i (claims_by first) p q a (by_end first a x (ap ends_by e)) e

  pub look_claims_taking : (a : ℕ) → LooksBy first i p q a → a ≡ 24 → ClaimedTaking i (claims_by first) p q
  look_claims_taking a x e = claimed_taking i (claims_by first) p q a (by_end first a x (ap ends_by e)) e

  pub look_ends : (a : ℕ) → LooksBy first i p q a → a ≡ 17 → Ended i (claims_by first) p q
  look_ends a x e = ended i (claims_by first) p q a (by_end first a x (ap ends_by e)) e

  pub look_ends_taking : (a : ℕ) → LooksBy first i p q a → a ≡ 7 → EndedTaking i (claims_by first) p q
  look_ends_taking a x e = ended_taking i (claims_by first) p q a (by_end first a x (ap ends_by e)) e

-- a first look that has found neither, by its answer
pub found_nothing : {F T A : Type 0} (i : ℕ) (p q : Party F T A) (a : ℕ) → Polls i p q a → a ≡ 19 → (w : State) × (has_output w ≡ false) × (has_ended w ≡ false) × Did (row Look w ∷ []) (Registrar i) p q
found_nothing i p q _ (poll_missed _) h = differs 0 19 refl refl h
found_nothing i p q _ (answers _ (has_it w z notice e o b d)) h = differs 16 19 refl refl h
found_nothing i p q _ (answers _ (has_it_and_takes w z e o b t)) h = differs 24 19 refl refl h
found_nothing i p q _ (answers _ (ends w v e f d)) h = differs 17 19 refl refl h
found_nothing i p q _ (answers _ (ends_and_takes w e t)) h = differs 7 19 refl refl h
found_nothing i p q _ (registers w e f d) h = (w, e, f, d)

module _ {F T A W K X : Type 0} (woken : W → K → Type 0) (compared : W → W → Bool → Type 0) (awaiter : W) (did : Act → Type 0) (i : ℕ) (claims : State → List Deed) where
  -- a look, and the end of its poll
  abbrev pub EndsPoll : Option X → Party F T A → Party F T A → Type 0
  EndsPoll found p r = (path : List Deed) × EndsLook woken compared awaiter claims path found × Done did path × Did path (as_task i) p r

  -- the output is handed out at once
  pub hands_out : (x : X) (p q r : Party F T A) → ((w : State) → Done did (claims w)) → Claimed i claims p q → did HandOutOutput → Did out (as_task i) q r → EndsPoll (Some x) p r
  hands_out x p q r done c fact d = let w = c.0 in let notice = c.2 in (
    claims w ++ (notice ++ out),
    found_output w notice x c.3 (passes woken compared awaiter w.awaiter notice c.5),
    done_then did (claims w) (notice ++ out) (done w) (done_then did notice out (passes_done did w.awaiter notice c.5) (fact, (tt, tt))),
    subst (λ (l : List Deed). Did l (as_task i) p r) (sym (joined (claims w) notice out)) (did_then p q r (claims w ++ notice) out (TookOutput i) (as_task i) (work_first c.1 []) [] c.6 d),
  )

  -- the output is handed out once the awaiter was taken out
  pub takes_and_hands_out : (x : X) (p q r s : Party F T A) → ((w : State) → Done did (claims w)) → (c : ClaimedTaking i claims p q)
      → ((k : List Deed) × TakesOut woken compared awaiter k × DidWith k (TookOutput i) (work_first c.1 []) q r) → did HandOutOutput → Did out (as_task i) r s → EndsPoll (Some x) p s
  takes_and_hands_out x p q r s done c o fact d = let w = c.0 in let t = c.5 in let k : List Deed = o.0 in (
    claims w ++ (taking t.0 ++ (k ++ out)),
    found_output w (taking t.0 ++ k) x c.2 (subst (λ b. TakePathIf woken compared awaiter b (taking t.0 ++ k)) (sym c.4) (takes_out woken compared awaiter t.0 k t.3 o.1)),
    done_then did (claims w) (taking t.0 ++ (k ++ out)) (done w) (tt, (tt, done_then did k out (takes_done did woken compared awaiter k o.1) (fact, (tt, tt)))),
    subst (λ (l : List Deed). Did l (as_task i) p s) (sym (joined (claims w) (taking t.0) (k ++ out)))
        (did_then p q s (claims w ++ taking t.0) (k ++ out) (Releaser t.1 (OfClaim i)) (as_task i) (awaiter_first t.2 (work_first c.1 [])) [] t.5
        (did_then q r s k out (TookOutput i) (as_task i) (work_first c.1 []) [] o.2 d)),
  )

  -- the task has ended, and somebody else is at the awaiter
  pub ends_at_once : (p q : Party F T A) → Ended i claims p q → EndsPoll None p q
  ends_at_once p q e = (
    row Look e.0 ∷ row MissNotify e.1 ∷ act EndCall ∷ [],
    found_end e.0 (row MissNotify e.1 ∷ []) e.2 (paths.misses e.1 e.3),
    (tt, (tt, (tt, tt))),
    e.4,
  )

  -- the task has ended, and the awaiter was taken out
  pub takes_and_ends : (p q r : Party F T A) → EndedTaking i claims p q → ((k : List Deed) × TakesOut woken compared awaiter k × Did (k ++ act EndCall ∷ []) (as_task i) q r) → EndsPoll None p r
  takes_and_ends p q r e o = let w = e.0 in let t = e.2 in let k : List Deed = o.0 in (
    row Look w ∷ taking t.0 ++ (k ++ act EndCall ∷ []),
    found_end w (taking t.0 ++ k) e.1 (takes_out woken compared awaiter t.0 k t.3 o.1),
    (tt, (tt, (tt, done_then did k (act EndCall ∷ []) (takes_done did woken compared awaiter k o.1) (tt, tt)))),
    did_then p q r (row Look w ∷ taking t.0) (k ++ act EndCall ∷ []) (Releaser t.1 (OfPoll i)) (as_task i) (awaiter_first t.2 []) [] t.5 o.2,
  )

module _ {X W K : Type 0} (cloned : W → Result W K → Type 0) (woken woken_by_ref : W → K → Type 0) (compared : W → W → Bool → Type 0) (awaiter : W) where
  -- what the second look has found
  pub answers_found : (path : List Deed) (found : Option X) → EndsLook woken compared awaiter (claims_by false) path found → AnswerPath woken compared awaiter path (Ready found)
  answers_found _ _ (found_output w taken x h t) = paths.has_output_since w _ x (paths.claims taken h t)
  answers_found _ _ (found_end w taken e t) = paths.has_ended_since w taken e t

  -- what the first look has found
  pub polls_found : (path : List Deed) (found : Option X) → EndsLook woken compared awaiter (claims_by true) path found → PollPath cloned woken woken_by_ref compared awaiter path (Ready found)
  polls_found _ _ (found_output w taken x h t) = paths.finds_output w _ x (paths.claims taken h t)
  polls_found _ _ (found_end w taken e t) = paths.finds_ended w taken e t

  -- which goes on where it has found nothing
  pub polls_on : (w : State) (path : List Deed) (told : TaskPoll (Option X)) → has_output w ≡ false → has_ended w ≡ false → GoesOnPolling cloned woken woken_by_ref compared awaiter path told → PollPath cloned woken woken_by_ref compared awaiter (row Look w ∷ path) told
  polls_on w _ _ h e (refuses told f) = paths.is_refused w told h e f
  polls_on w _ _ h e (registers_first registered path told r a) = paths.looks_again w registered path told h e r a

module _ {F T A : Type 0} (i : ℕ) (p q : Party F T A) where
  -- the clone is to be put into the place, where nothing lies, or over an older awaiter
  abbrev pub Storing : Bool → Type 0
  Storing stood = (old : Option ℕ) × (clone : StoredAwaiter A) × (is_some old ≡ stood) × (w : State) × (w.notifying ≡ false) × (stored_by clone ≡ i)
      × DidWith (act CloneAwaiter ∷ row BeginRegister w ∷ act StoreAwaiter ∷ []) (after_storing i old) (awaiter_first (Some clone) []) p q

  pub storing : (stood : Bool) (a : ℕ) → Stores i p q a → a ≡ (if stood then 21 else 20) → Storing stood
  storing false _ (store_missed _) h = differs 0 20 refl refl h
  storing true _ (store_missed _) h = differs 0 21 refl refl h
  storing false _ (stores w _ clone _ e alone by d) h = (None, clone, refl, w, e, by, d)
  storing true _ (stores w _ clone _ e alone by d) h = differs 20 21 refl refl h
  storing false _ (stores w _ clone _ e (over old) by d) h = differs 21 20 refl refl h
  storing true _ (stores w _ clone _ e (over old) by d) h = (Some old, clone, refl, w, e, by, d)
  storing false _ (finds_notifier w e d) h = differs 22 20 refl refl h
  storing true _ (finds_notifier w e d) h = differs 22 21 refl refl h

  -- a notifier is there
  abbrev pub FoundNotifier : Type 0
  FoundNotifier = (w : State) × (w.notifying ≡ true) × Did (act CloneAwaiter ∷ row FindNotify w ∷ []) (UnusedClone i) p q

  pub found_notifier : (a : ℕ) → Stores i p q a → a ≡ 22 → FoundNotifier
  found_notifier _ (store_missed _) h = differs 0 22 refl refl h
  found_notifier _ (stores w _ clone _ e alone by d) h = differs 20 22 refl refl h
  found_notifier _ (stores w _ clone _ e (over old) by d) h = differs 21 22 refl refl h
  found_notifier _ (finds_notifier w e d) h = (w, e, d)

  -- the clone is taken back, since a notifier came meanwhile
  abbrev pub TakingBack : Bool → Type 0
  TakingBack stood = (clone : StoredAwaiter A) × DidWith (dropped_if stood ++ act TakeAwaiter ∷ []) (TookBack i) (awaiter_first (Some clone) []) p q

  not_back : {Y : Type 0} (b : Party F T A) (a : ℕ) → LooksOn i b q a → a ≡ 23 → Y
  not_back b _ (look_missed _) h = differs 0 23 refl refl h
  not_back b _ (answers_now _ (has_it w z notice e o x d)) h = differs 16 23 refl refl h
  not_back b _ (answers_now _ (has_it_and_takes w z e o x t)) h = differs 24 23 refl refl h
  not_back b _ (answers_now _ (ends w v e f d)) h = differs 17 23 refl refl h
  not_back b _ (answers_now _ (ends_and_takes w e t)) h = differs 7 23 refl refl h
  not_back b _ (waits w e d) h = differs 18 23 refl refl h

  pub taking_back : (stood : Bool) (a : ℕ) → EndsStore i stood p q a → a ≡ 23 → TakingBack stood
  taking_back stood _ (end_missed _) h = differs 0 23 refl refl h
  taking_back stood a (looks v _ e l) h = not_back l.0 a l.2 h
  taking_back stood _ (has_to_take_back clone d) h = (clone, d)

  module _ {W K : Type 0} (woken : W → K → Type 0) (clone : W) where
    -- the clone stays in the place, or was taken back
    abbrev pub Stored : Bool → ℕ → Type 0
    Stored stood a = (path : List Deed) × EndsRegister woken clone stood path × LooksAfter i path p q a

    stays : (stood : Bool) (a : ℕ) → EndsStore i stood p q a → is_look a ≡ true → Stored stood a
    stays stood _ (end_missed _) k = never k
    stays stood a (looks v _ e l) k = (dropped_if stood ++ row EndRegister v ∷ [], stays_there v e, l)
    stays stood _ (has_to_take_back clone d) k = never k

    pub looked_so : (stood : Bool) (a r : ℕ) → EndsStore i stood p q a → (r ≡ a) × (is_look r ≡ true) → Stored stood r
    looked_so stood a r x k = subst (λ n. Stored stood n) (sym k.0) (stays stood a x (ap is_look (sym k.0) ∙ k.1))

module _ {F T A W K : Type 0} (i : ℕ) (woken : W → K → Type 0) (clone : W) where
  pub took_back : (stood : Bool) (p q r : Party F T A) (a : ℕ) → TakingBack i p q stood → ((v : State) × (v.notifying ≡ true) × ((told : K) × woken clone told) × LooksAfter i (row EndRegisterNotified v ∷ act WakeAwaiter ∷ []) q r a) → Stored i p r woken clone stood a
  took_back stood p q r a t y = let rest : List Deed = row EndRegisterNotified y.0 ∷ act WakeAwaiter ∷ [] in let l = y.3 in (
    dropped_if stood ++ (act TakeAwaiter ∷ rest),
    is_taken_back y.0 y.2.0 y.1 y.2.1,
    (
      l.0,
      subst (λ (path : List Deed). Did path (Looking i) p l.0) (sym (joined (dropped_if stood) (act TakeAwaiter ∷ []) rest))
          (did_then p q l.0 (dropped_if stood ++ act TakeAwaiter ∷ []) rest (TookBack i) (Looking i) (awaiter_first (Some t.0) []) [] t.1 l.1),
      l.2,
    ),
  )

module _ {W K : Type 0} (cloned : W → Result W K → Type 0) (woken woken_by_ref : W → K → Type 0) (awaiter : W) where
  register_path : (w : State) (clone : W) (stood : Bool) (path : List Deed) → w.notifying ≡ false → cloned awaiter (Ok clone) → EndsRegister woken clone stood path → RegisterPath cloned woken woken_by_ref awaiter (act CloneAwaiter ∷ row BeginRegister w ∷ act StoreAwaiter ∷ path)
  register_path w clone stood _ e c (stays_there v f) = paths.registers w v stood clone e f c
  register_path w clone stood _ e c (is_taken_back v told f t) = paths.was_notified w v stood clone told e f c t

module _ {F T A W K : Type 0} (cloned : W → Result W K → Type 0) (woken woken_by_ref : W → K → Type 0) (awaiter : W) (did : Act → Type 0) (i : ℕ) where
  -- the caller's awaiter is registered, or a wake made up for, and the poll looks again
  abbrev pub Registers : Party F T A → Party F T A → ℕ → Type 0
  Registers p r a = (path : List Deed) × RegisterPath cloned woken woken_by_ref awaiter path × Done did path × LooksAfter i path p r a

  pub stored : (clone : W) (stood : Bool) (p q r : Party F T A) (a : ℕ) → cloned awaiter (Ok clone) → Storing i p q stood → did StoreAwaiter → Stored i q r woken clone stood a → Registers p r a
  stored clone stood p q r a c s fact y = let w = s.3 in let l = y.2 in (
    act CloneAwaiter ∷ row BeginRegister w ∷ act StoreAwaiter ∷ y.0,
    register_path cloned woken woken_by_ref awaiter w clone stood y.0 s.4 c y.1,
    (tt, (tt, (fact, registers_done did woken clone stood y.0 y.1))),
    (l.0, did_then p q l.0 (act CloneAwaiter ∷ row BeginRegister w ∷ act StoreAwaiter ∷ []) y.0 (after_storing i s.0) (Looking i) (awaiter_first (Some s.1) []) [] s.6 l.1, l.2),
  )

  pub woke_caller : (clone : W) (told : K) (p q r : Party F T A) (a : ℕ) → cloned awaiter (Ok clone) → FoundNotifier i p q → woken_by_ref awaiter told → LooksAfter i (act DropAwaiter ∷ []) q r a → Registers p r a
  woke_caller clone told p q r a c n t l = (
    act CloneAwaiter ∷ row FindNotify n.0 ∷ act DropAwaiter ∷ [],
    paths.finds_notifier n.0 clone told n.1 c t,
    (tt, (tt, (tt, tt))),
    (l.0, did_then p q l.0 (act CloneAwaiter ∷ row FindNotify n.0 ∷ []) (act DropAwaiter ∷ []) (UnusedClone i) (Looking i) [] [] n.2 l.1, l.2),
  )

-- the poll waits
pub has_to : {F T A : Type 0} (i : ℕ) (p q : Party F T A) (a : ℕ) → LooksOn i p q a → a ≡ 18 → (w : State) × (has_to_wait w ≡ true) × Did (row Look w ∷ act EndCall ∷ []) (as_task i) p q
has_to i p q _ (look_missed _) h = differs 0 18 refl refl h
has_to i p q _ (answers_now _ (has_it w z notice e o x d)) h = differs 16 18 refl refl h
has_to i p q _ (answers_now _ (has_it_and_takes w z e o x t)) h = differs 24 18 refl refl h
has_to i p q _ (answers_now _ (ends w v e f d)) h = differs 17 18 refl refl h
has_to i p q _ (answers_now _ (ends_and_takes w e t)) h = differs 7 18 refl refl h
has_to i p q _ (waits w e d) h = (w, e, d)
