-- What the steps come to by which a poll that is ready deals with the stored awaiter.
use Rattle.task_cell.proofs.Vocabulary.{work_first}
use Rattle.std.proofs.Common.{◌≡◌, ℕ, Bool, true, false, not, List, [], ◌∷◌, ◌++◌, Option, Some, None, refl, sym, ◌∙◌, subst}
use Rattle.task_core.specs.Word.{State, is_open}
use Rattle.task_cell.proofs.Moved.{position_is}
use Rattle.task_core.specs.declared.acts.Act.TheVariants.{EndCall, EndNotify, LookFinished}
use Rattle.task_cell.specs.Calls.{Did, DidWith, Stands, StandsWith, places_of, position}
use Rattle.task_cell.specs.Calls.{EndsNotify}
use Rattle.task_cell.specs.declared.cell.Party.{Party}
use Rattle.task_exports.proofs.Notices.{dealt, in_hand as taken_hand, none_there as taken_none, poll_ends_after}
use Rattle.task_exports.specs.TaskAnswers.{Looks, Releases, in_hand, is_not, is_over, none_there}
use Rattle.task_laws.specs.Table.{after_waking}
use Rattle.task_laws.specs.declared.positions.NotifyingCall.TheVariants.{OfClaim, OfPoll}
use Rattle.task_laws.specs.declared.positions.PollAnswer.TheVariants.{IsClosed}
use Rattle.task_laws.specs.declared.positions.Position.TheVariants.{Answering, AwaiterInHand, TookOutput}
use Rattle.task_steps.specs.declared.kept.StoredAwaiter.{StoredAwaiter}
use Rattle.task_steps.specs.Deeds.{act, row}
use Rattle.task_steps.specs.Standing.{as_task, poll_number, way_of}
use Rattle.task_steps.specs.declared.places.Held.{Held}
use Rattle.task_steps.specs.declared.table.Deed.{Deed}
use Rattle.task_steps.specs.declared.table.Slot.{Slot}

is_shut : (b : Bool) → not b ≡ true → b ≡ false
is_shut false e = refl
is_shut true e = absurd (cc)

is_there : (b : Bool) → not b ≡ false → b ≡ true
is_there true e = refl
is_there false e = absurd (cc)

module _ {F T A : Type 0} where
  -- a closed task: what lay in the place
  pub poll_has_hand : (i : ℕ) (hand : Option ℕ) (p q : Party F T A) (found : Option (Held (StoredAwaiter A))) (a : Held (StoredAwaiter A)) → EndsNotify hand (OfPoll i) [] p q found → found ≡ Some a → Releases (OfPoll i) [] (act EndCall ∷ []) (as_task i) 17 p q 14
  poll_has_hand i hand p q found a x e = let y = taken_hand (OfPoll i) [] hand p q found a x e (λ j. refl) in in_hand y.0 y.1 y.2

  pub poll_has_none : (i : ℕ) (hand : Option ℕ) (p q : Party F T A) (found : Option (Held (StoredAwaiter A))) → EndsNotify hand (OfPoll i) [] p q found → found ≡ None → (v : State) × Did (row EndNotify v ∷ []) (Answering i IsClosed) p q
  poll_has_none i hand p q found x e = taken_none (OfPoll i) [] hand p q found x e

  pub poll_ends_alone : (i : ℕ) (hand : Option ℕ) (p q r : Party F T A) (found : Option (Held (StoredAwaiter A))) → EndsNotify hand (OfPoll i) [] p q found → found ≡ None → Did (act EndCall ∷ []) (as_task (poll_number (position q))) q r → Releases (OfPoll i) [] (act EndCall ∷ []) (as_task i) 17 p r 17
  poll_ends_alone i hand p q r found x e g = let y = poll_has_none i hand p q found x e in none_there y.0 (poll_ends_after i IsClosed (row EndNotify y.0 ∷ []) p q r y.1 g)

  -- a poll of a closed task ends, once what lay in the place was dealt with
  pub poll_dealt : (i k : ℕ) (path : List Deed) (p q : Party F T A) → Stands (AwaiterInHand k (OfPoll i)) p → DidWith path (after_waking (way_of (position p))) (places_of p) p q → Did path (Answering i IsClosed) p q
  poll_dealt i k path p q s g = dealt (OfPoll i) k [] path p q s g

  pub poll_ends_dealt : (i k : ℕ) (path : List Deed) (p q r : Party F T A) → Stands (AwaiterInHand k (OfPoll i)) p → DidWith path (after_waking (way_of (position p))) (places_of p) p q → Did (act EndCall ∷ []) (as_task (poll_number (position q))) q r → Did (path ++ act EndCall ∷ []) (as_task i) p r
  poll_ends_dealt i k path p q r s g e = poll_ends_after i IsClosed path p q r (poll_dealt i k path p q s g) e

  -- a claimed output
  pub claim_has_hand : (i : ℕ) (z : Slot F T) (hand : Option ℕ) (p q : Party F T A) (found : Option (Held (StoredAwaiter A))) (a : Held (StoredAwaiter A)) → EndsNotify hand (OfClaim i) (work_first z []) p q found → found ≡ Some a → Releases (OfClaim i) (work_first z []) [] (TookOutput i) 16 p q 14
  claim_has_hand i z hand p q found a x e = let y = taken_hand (OfClaim i) (work_first z []) hand p q found a x e (λ j. refl) in in_hand y.0 y.1 y.2

  pub claim_has_none : (i : ℕ) (z : Slot F T) (hand : Option ℕ) (p q : Party F T A) (found : Option (Held (StoredAwaiter A))) → EndsNotify hand (OfClaim i) (work_first z []) p q found → found ≡ None → Releases (OfClaim i) (work_first z []) [] (TookOutput i) 16 p q 16
  claim_has_none i z hand p q found x e = let y = taken_none (OfClaim i) (work_first z []) hand p q found x e in none_there y.0 y.1

  pub claim_dealt : (i k : ℕ) (z : Slot F T) (path : List Deed) (p q : Party F T A) → StandsWith (AwaiterInHand k (OfClaim i)) (work_first z []) p → DidWith path (after_waking (way_of (position p))) (places_of p) p q → DidWith path (TookOutput i) (work_first z []) p q
  claim_dealt i k z path p q s g = dealt (OfClaim i) k (work_first z []) path p q s g

  -- whether the task is over
  pub finished : (n : ℕ) (p q : Party F T A) (b : Bool) → Stands (as_task n) p → (w : State) × Did (row LookFinished w ∷ act EndCall ∷ []) (position p) p q × (b ≡ not (is_open w)) → b ≡ true → Looks n p q 1
  finished n p q b s e f = is_over e.0 (is_shut (is_open e.0) (sym e.2 ∙ f)) (subst (λ at. Did (row LookFinished e.0 ∷ act EndCall ∷ []) at p q) (position_is p (as_task n) [] s) e.1)

  pub unfinished : (n : ℕ) (p q : Party F T A) (b : Bool) → Stands (as_task n) p → (w : State) × Did (row LookFinished w ∷ act EndCall ∷ []) (position p) p q × (b ≡ not (is_open w)) → b ≡ false → Looks n p q 0
  unfinished n p q b s e f = is_not e.0 (is_there (is_open e.0) (sym e.2 ∙ f)) (subst (λ at. Did (row LookFinished e.0 ∷ act EndCall ∷ []) at p q) (position_is p (as_task n) [] s) e.1)
