-- What the steps of a cancel come to.
use Rattle.task_cell.proofs.Vocabulary.{awaiter_first}
use Rattle.std.proofs.Common.{◌≡◌, ℕ, Bool, true, false, [], ◌∷◌, ◌++◌, Option, Some, None, refl, sym, ◌∙◌, subst}
use Rattle.task_core.specs.Word.{State}
use Rattle.task_core.specs.declared.acts.Act.TheVariants.{CancelBusy, CancelIdle, EndCall, EndNotify, HandOver, MissNotify, WakeAwaiter}
use Rattle.task_cell.proofs.Moved.{did_then, limit_is, stands}
use Rattle.task_cell.proofs.TaskCalls.{delivered}
use Rattle.task_cell.specs.Calls.{Did, DidWith, Fits, Stands, limit_of, places_of, position}
use Rattle.task_cell.specs.Calls.{BeginsNotify, EndsNotify}
use Rattle.task_cell.specs.TaskPaths.{Cancels as CancelsRow}
use Rattle.task_cell.specs.declared.cell.Party.{Party}
use Rattle.task_exports.proofs.Notices.{at_rest, dealt, ends_after, in_hand as taken_hand, none_there as taken_none, passes_after, takes_after}
use Rattle.task_exports.specs.TaskAnswers.{CancelGoesOn, Cancels, PassesBy, Releases, closes, closes_and_takes, finds_other, in_hand, none_due, none_there, passes_by, schedules, schedules_due, schedules_now, takes, taking, was_over}
use Rattle.task_laws.specs.Table.{after_cancelling, after_waking, notifies}
use Rattle.task_laws.specs.declared.positions.Answer.TheVariants.{Nothing}
use Rattle.task_laws.specs.declared.positions.NotifyingCall.TheVariants.{OfCancel}
use Rattle.task_laws.specs.declared.positions.Position.TheVariants.{AwaiterInHand, CallEnding, Deliverer, Notifier, Releaser}
use Rattle.task_laws.specs.declared.positions.Rest.TheVariants.{Task}
use Rattle.task_steps.specs.declared.kept.StoredAwaiter.{StoredAwaiter}
use Rattle.task_steps.specs.Deeds.{act, row}
use Rattle.task_steps.specs.Standing.{as_task, handed_over, rest_of, way_of}
use Rattle.task_steps.specs.declared.places.Held.{Held}
use Rattle.task_steps.specs.declared.found.Cancelled.{Cancelled}
use Rattle.task_steps.specs.declared.found.Cancelled.TheVariants.{Busy, Idle}

module _ {F T A : Type 0} where
  -- where no awaiter is due, the call is about to end; else it is to be taken
  pub about_to_end : (due : Bool) (n : ℕ) (p : Party F T A) → due ≡ false → Stands (notifies due (OfCancel n)) p → Stands (CallEnding Nothing (Task n)) p
  about_to_end due n p e s = subst (λ (b : Bool). Stands (notifies b (OfCancel n)) p) e s

  pub to_notify : (due : Bool) (n : ℕ) (p : Party F T A) → due ≡ true → Stands (notifies due (OfCancel n)) p → Stands (Notifier (OfCancel n)) p
  to_notify due n p e s = subst (λ (b : Bool). Stands (notifies b (OfCancel n)) p) e s

  pub ends_at_once : (due : Bool) (n : ℕ) (p q : Party F T A) → due ≡ false → Stands (notifies due (OfCancel n)) p → Did (act EndCall ∷ []) (rest_of (position p)) p q → CancelGoesOn due n p q 12
  ends_at_once due n p q e s g = subst (λ (b : Bool). CancelGoesOn b n p q 12) (sym e)
      (passes_by [] none_due (ends_after Nothing (Task n) [] p p q (at_rest (CallEnding Nothing (Task n)) [] p (about_to_end due n p e s)) g))

  pub takes_it : (due : Bool) (n : ℕ) (p q : Party F T A) (b : Bool) → due ≡ true → Stands (notifies due (OfCancel n)) p → BeginsNotify p q b → b ≡ true → CancelGoesOn due n p q 7
  takes_it due n p q b e s x f = takes e (takes_after (OfCancel n) [] [] p p q b (at_rest (Notifier (OfCancel n)) [] p (to_notify due n p e s)) x f)

  pub passed : (due : Bool) (n : ℕ) (p q : Party F T A) (b : Bool) → due ≡ true → Stands (notifies due (OfCancel n)) p → BeginsNotify p q b → b ≡ false → (w : State) × Fits MissNotify w × Did (row MissNotify w ∷ []) (CallEnding Nothing (Task n)) p q
  passed due n p q b e s x f = passes_after (OfCancel n) [] [] p p q b (at_rest (Notifier (OfCancel n)) [] p (to_notify due n p e s)) x f

  pub ends_passed : (due : Bool) (n : ℕ) (p q r : Party F T A) (b : Bool) → due ≡ true → Stands (notifies due (OfCancel n)) p → BeginsNotify p q b → b ≡ false → Did (act EndCall ∷ []) (rest_of (position q)) q r → CancelGoesOn due n p r 12
  ends_passed due n p q r b e s x f g = let y = passed due n p q b e s x f in
      subst (λ (b : Bool). CancelGoesOn b n p r 12) (sym e) (passes_by (row MissNotify y.0 ∷ []) (finds_other y.0 y.1) (ends_after Nothing (Task n) (row MissNotify y.0 ∷ []) p q r y.2 g))

  -- the row of a cancel, and what followed
  pub closed_so : (n : ℕ) (p q r : Party F T A) (due : Bool) (a : ℕ) → CancelsRow n p q (Some (Busy due)) → CancelGoesOn due n q r a → Cancels n p r a
  closed_so n p q r due _ x (passes_by notice passes g) = closes x.0 notice x.2 (subst (λ (b : Bool). PassesBy b notice) (sym x.1) passes)
      (did_then p q r (row CancelBusy x.0 ∷ []) (notice ++ act EndCall ∷ []) (notifies due (OfCancel n)) (as_task n) [] [] x.3 g)
  closed_so n p q r due _ x (takes e t) = closes_and_takes x.0 x.2 (x.1 ∙ e) (
    t.0,
    t.1,
    t.2,
    t.3,
    t.4,
    did_then p q r (row CancelBusy x.0 ∷ []) (taking t.0) (notifies due (OfCancel n)) (Releaser t.1 (OfCancel n)) [] (awaiter_first t.2 []) x.3 t.5,
  )

  pub nobody_scheduled : (n : ℕ) (q r : Party F T A) (due : Bool) (a : ℕ) → CancelGoesOn due n q r a → schedules a ≡ false
  nobody_scheduled n q r due _ (passes_by notice passes g) = refl
  nobody_scheduled n q r due _ (takes e t) = refl

  pub handed_due : (n : ℕ) (p q r : Party F T A) (due : Bool) → due ≡ true → CancelsRow n p q (Some (Idle due)) → Did (act HandOver ∷ []) (handed_over (position q)) q r → Cancels n p r 25
  handed_due n p q r due e x g = schedules_due x.0 x.2 (x.1 ∙ e) (subst (λ (b : Bool). Did (row CancelIdle x.0 ∷ act HandOver ∷ []) (notifies b (OfCancel n)) p r) e (delivered p q r n due (row CancelIdle x.0 ∷ []) x.3 g))

  pub handed_alone : (n : ℕ) (p q r : Party F T A) (due : Bool) → due ≡ false → CancelsRow n p q (Some (Idle due)) → Did (act HandOver ∷ []) (handed_over (position q)) q r → Cancels n p r 10
  handed_alone n p q r due e x g = schedules_now x.0 x.2 (x.1 ∙ e) (subst (λ (b : Bool). Did (row CancelIdle x.0 ∷ act HandOver ∷ []) (notifies b (OfCancel n)) p r) e (delivered p q r n due (row CancelIdle x.0 ∷ []) x.3 g))

  -- the awaiter was moved out
  pub is_in_hand : (n : ℕ) (hand : Option ℕ) (p q : Party F T A) (found : Option (Held (StoredAwaiter A))) (a : Held (StoredAwaiter A)) → EndsNotify hand (OfCancel n) [] p q found → found ≡ Some a → Releases (OfCancel n) [] (act EndCall ∷ []) (as_task n) 12 p q 14
  is_in_hand n hand p q found a x e = let y = taken_hand (OfCancel n) [] hand p q found a x e (λ i. refl) in in_hand y.0 y.1 y.2

  pub is_not_there : (n : ℕ) (hand : Option ℕ) (p q : Party F T A) (found : Option (Held (StoredAwaiter A))) → EndsNotify hand (OfCancel n) [] p q found → found ≡ None → (v : State) × Did (row EndNotify v ∷ []) (CallEnding Nothing (Task n)) p q
  is_not_there n hand p q found x e = taken_none (OfCancel n) [] hand p q found x e

  pub ends_not_there : (n : ℕ) (hand : Option ℕ) (p q r : Party F T A) (found : Option (Held (StoredAwaiter A))) → EndsNotify hand (OfCancel n) [] p q found → found ≡ None → Did (act EndCall ∷ []) (rest_of (position q)) q r → Releases (OfCancel n) [] (act EndCall ∷ []) (as_task n) 12 p r 12
  ends_not_there n hand p q r found x e g = let y = is_not_there n hand p q found x e in none_there y.0 (ends_after Nothing (Task n) (row EndNotify y.0 ∷ []) p q r y.1 g)

  -- the awaiter was woken
  pub woke : (n i : ℕ) (p q : Party F T A) → Stands (AwaiterInHand i (OfCancel n)) p → DidWith (act WakeAwaiter ∷ []) (after_waking (way_of (position p))) (places_of p) p q → Did (act WakeAwaiter ∷ []) (CallEnding Nothing (Task n)) p q
  woke n i p q s g = dealt (OfCancel n) i [] (act WakeAwaiter ∷ []) p q s g

  pub woke_and_ends : (n i : ℕ) (p q r : Party F T A) → Stands (AwaiterInHand i (OfCancel n)) p → DidWith (act WakeAwaiter ∷ []) (after_waking (way_of (position p))) (places_of p) p q → Did (act EndCall ∷ []) (rest_of (position q)) q r → Did (act WakeAwaiter ∷ act EndCall ∷ []) (as_task n) p r
  woke_and_ends n i p q r s g e = ends_after Nothing (Task n) (act WakeAwaiter ∷ []) p q r (woke n i p q s g) e

  -- the row of a cancel, by what it found
  pub row_over : (n : ℕ) (p q : Party F T A) (found : Option Cancelled) → found ≡ None → CancelsRow n p q found → Cancels n p q 12
  row_over n p q found e x = let y = subst (CancelsRow n p q) e x in was_over y.0 y.1 y.2

  pub deliverer_stands : (n : ℕ) (p q : Party F T A) (due : Bool) → CancelsRow n p q (Some (Idle due)) → Stands (Deliverer false (after_cancelling due n)) q
  deliverer_stands n p q due x = stands p q (row CancelIdle x.0 ∷ []) (Deliverer false (after_cancelling due n)) [] x.3

  -- the party of a cancel's row is one of the cell still
  pub row_cell : (n : ℕ) (p q : Party F T A) (due : Bool) → CancelsRow n p q (Some (Idle due)) → q.seat.block ≡ p.seat.block
  row_cell n p q due x = x.3.cell

  pub row_limit : (n : ℕ) (p q : Party F T A) (due : Bool) → CancelsRow n p q (Some (Idle due)) → limit_of q ≡ limit_of p
  row_limit n p q due x = limit_is p q _ _ _ x.3

  pub busy_cell : (n : ℕ) (p q : Party F T A) (due : Bool) → CancelsRow n p q (Some (Busy due)) → q.seat.block ≡ p.seat.block
  busy_cell n p q due x = x.3.cell

  pub busy_stands : (n : ℕ) (p q : Party F T A) (due : Bool) → CancelsRow n p q (Some (Busy due)) → Stands (notifies due (OfCancel n)) q
  busy_stands n p q due x = stands p q _ _ _ x.3
