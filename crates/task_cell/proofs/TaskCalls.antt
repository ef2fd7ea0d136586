-- A cancel and a detach, put together from their steps.
use Rattle.task_steps.specs.Values.{Values}
use Rattle.task_steps.specs.declared.kept.StoredAwaiter.{StoredAwaiter}
use Rattle.task_cell.proofs.Vocabulary.{◌≡◌, ℕ, Bool, true, false, List, [], ◌∷◌, ◌++◌, Option, Some, None, refl, sym, subst, State, Nothing, Deliverer, Emptier, OutputCloser}
use Rattle.task_cell.proofs.Vocabulary.{OfCancel, ThenEnds, CancelOver, CancelBusy, CancelIdle, GiveUpOutput, DropOutput, DetachOrphan, DetachLast, Detach, EmptySlots, EndCall, HandOver, notifies}
use Rattle.task_cell.proofs.Vocabulary.{after_cancelling, after_handing_over, Deed, Party, Busy, Unclaimed, Fits, position, StandsWith, Stands, DidWith}
use Rattle.task_cell.proofs.Vocabulary.{Did, row, act, as_task, as_ended, handed_over, Notice, CancelPath, is_busy, DetachPath, drops_output_last, is_shared, is_last, Cancels, Detaches}
use Rattle.task_cell.proofs.Vocabulary.{GivesTaskUp, work_first, awaiter_first}
use Rattle.task_laws.specs.declared.positions.OnceDelivered.{OnceDelivered}
use Rattle.task_steps.specs.declared.found.Cancelled.{Cancelled}
use Rattle.task_steps.specs.declared.found.Cancelled.TheVariants.{Idle}
use Rattle.task_steps.specs.declared.found.Detached.TheVariants.{Shared, Last, Orphaned}
use Rattle.task_cell.specs.TaskPaths.{UnclaimedPath, leaves_others, leaves_none, is_over, is_idle, drops_output, is_orphaned}
use Rattle.task_cell.proofs.Moved.{did_then, stands, position_is}
use Rattle.task_cell.proofs.TaskMoves.{Ends}

-- a cancel goes on where its Runnable was handed over
cancel_goes_on : (due : Bool) (n : ℕ) → after_handing_over (after_cancelling due n) ≡ notifies due (OfCancel n)
cancel_goes_on true n = refl
cancel_goes_on false n = refl

unclaimed_path : (Scheduled : Type 0) (w : State) (path : List Deed) → Fits GiveUpOutput w → UnclaimedPath path → DetachPath Scheduled (row GiveUpOutput w ∷ path)
unclaimed_path Scheduled w _ f (leaves_others v g) = drops_output w v f g
unclaimed_path Scheduled w _ f (leaves_none v g) = drops_output_last w v f g

module _ {F T A : Type 0} where
  -- the Runnable of a deliverer is handed over
  pub hands_over : (p q r : Party F T A) (path : List Deed) (next : OnceDelivered) → Did path (Deliverer false next) p q → Did (act HandOver ∷ []) (handed_over (position q)) q r → Did (path ++ act HandOver ∷ []) (after_handing_over next) p r
  hands_over p q r path next g h = did_then p q r path (act HandOver ∷ []) (Deliverer false next) (after_handing_over next) [] [] g
      (subst (λ at. Did (act HandOver ∷ []) (handed_over at) q r) (position_is q (Deliverer false next) [] (stands p q path (Deliverer false next) [] g)) h)

  pub delivered : (p q r : Party F T A) (n : ℕ) (due : Bool) (path : List Deed) → Did path (Deliverer false (after_cancelling due n)) p q → Did (act HandOver ∷ []) (handed_over (position q)) q r → Did (path ++ act HandOver ∷ []) (notifies due (OfCancel n)) p r
  delivered p q r n due path g h = subst (λ at. Did (path ++ act HandOver ∷ []) at p r) (cancel_goes_on due n) (hands_over p q r path (after_cancelling due n) g h)

  -- a cancel goes such a path
  abbrev pub Cancelling : Type 0 → Type 0 → Party F T A → Party F T A → Type 0
  Cancelling Scheduled Woken p q = (path : List Deed) × CancelPath Scheduled Woken path × Did path (position p) p q

  -- the row of a cancel, by what it found
  abbrev pub Closes : Party F T A → Party F T A → Option Cancelled → Type 0
  Closes p q found = (n : ℕ) → Stands (as_task n) p → Cancels n p q found

  -- a cancel that has closed a busy task; an idle one, whose Runnable was handed over
  pub closed_busy : (p q : Party F T A) (due : Bool) (s : (n : ℕ) × Stands (as_task n) p) → Closes p q (Some (Busy due)) → (path : List Deed) × Did path (notifies due (OfCancel s.0)) p q
  closed_busy p q due s f = let x = f s.0 s.1 in (row CancelBusy x.0 ∷ [], x.3)

  pub closed_idle : (p q r : Party F T A) (due : Bool) (s : (n : ℕ) × Stands (as_task n) p) → Closes p q (Some (Idle due)) → Did (act HandOver ∷ []) (handed_over (position q)) q r → (path : List Deed) × Did path (notifies due (OfCancel s.0)) p r
  closed_idle p q r due s f h = let x = f s.0 s.1 in (row CancelIdle x.0 ∷ act HandOver ∷ [], delivered p q r s.0 due (row CancelIdle x.0 ∷ []) x.3 h)

  as_was : (p q : Party F T A) (n : ℕ) (path : List Deed) → Stands (as_task n) p → Did path (as_task n) p q → Did path (position p) p q
  as_was p q n path s g = subst (λ at. Did path at p q) (sym (position_is p (as_task n) [] s)) g

  pub cancels_over : (Scheduled Woken : Type 0) (p q : Party F T A) (n : ℕ) → Stands (as_task n) p → Cancels n p q None → Cancelling Scheduled Woken p q
  cancels_over Scheduled Woken p q n s x = let path : List Deed = row CancelOver x.0 ∷ act EndCall ∷ [] in (path, is_over x.0 x.1, as_was p q n path s x.2)

  pub cancels_busy : (Scheduled Woken : Type 0) (p q r : Party F T A) (n : ℕ) (due : Bool) → Stands (as_task n) p → Cancels n p q (Some (Busy due)) → Ends Woken due n q r → Cancelling Scheduled Woken p r
  cancels_busy Scheduled Woken p q r n due s x y = let path : List Deed = row CancelBusy x.0 ∷ [] in let more : List Deed = y.0 ++ act EndCall ∷ [] in
      (path ++ more, is_busy x.0 y.0 x.2 (subst (λ b. Notice Woken b y.0) (sym x.1) y.1), as_was p r n (path ++ more) s (did_then p q r path more (notifies due (OfCancel n)) (as_task n) [] [] x.3 y.2))

  pub cancels_idle : (Scheduled Woken : Type 0) (p q r t : Party F T A) (n : ℕ) (due : Bool) → Stands (as_task n) p → Cancels n p q (Some (Idle due)) → Scheduled → Did (act HandOver ∷ []) (handed_over (position q)) q r → Ends Woken due n r t
      → Cancelling Scheduled Woken p t
  cancels_idle Scheduled Woken p q r t n due s x fact h y = let path : List Deed = row CancelIdle x.0 ∷ act HandOver ∷ [] in let more : List Deed = y.0 ++ act EndCall ∷ [] in (
    path ++ more,
    is_idle x.0 y.0 x.2 fact (subst (λ b. Notice Woken b y.0) (sym x.1) y.1),
    as_was p t n (path ++ more) s (did_then p r t path more (notifies due (OfCancel n)) (as_task n) [] [] (delivered p q r n due (row CancelIdle x.0 ∷ []) x.3 h) y.2),
  )

  -- a detach goes such a path
  abbrev pub Detaching : Type 0 → Party F T A → Party F T A → Type 0
  Detaching Scheduled p q = (path : List Deed) × DetachPath Scheduled path × Did path as_ended p q

  -- the emptier of the slots, and the end of its call
  abbrev pub Empties : Party F T A → Party F T A → Type 0
  Empties p q = Did (act EmptySlots ∷ act EndCall ∷ []) as_ended p q

  pub empties : (p q r : Party F T A) (path : List Deed) (y : Option (StoredAwaiter A)) → DidWith path (Emptier None Nothing) (awaiter_first y []) p q → Empties q r → Did (path ++ act EmptySlots ∷ act EndCall ∷ []) as_ended p r
  empties p q r path y g e = did_then p q r path (act EmptySlots ∷ act EndCall ∷ []) (Emptier None Nothing) as_ended (awaiter_first y []) [] g e

  -- the rest of a detach that has dropped the output: the Task was the last handle, or was not
  abbrev pub LeavesUnclaimed : Party F T A → Party F T A → Type 0
  LeavesUnclaimed p q = (path : List Deed) × UnclaimedPath path × Did path as_ended p q

  pub unclaimed_empties : (p q : Party F T A) (b : Bool) → b ≡ true → GivesTaskUp p q b → (y : Option (StoredAwaiter A)) × StandsWith (Emptier None Nothing) (awaiter_first y []) q
  unclaimed_empties p q false is x = absurd (cc)
  unclaimed_empties p q true is x = (x.1, stands p q _ _ _ x.3)

  pub unclaimed_cell : (p q : Party F T A) (b : Bool) → GivesTaskUp p q b → q.seat.block ≡ p.seat.block
  unclaimed_cell p q false x = x.2.cell
  unclaimed_cell p q true x = x.3.cell

  pub unclaimed_last : (p q r : Party F T A) (b : Bool) → b ≡ true → GivesTaskUp p q b → Empties q r → LeavesUnclaimed p r
  unclaimed_last p q r false is x e = absurd (cc)
  unclaimed_last p q r true is x e = let path : List Deed = act DropOutput ∷ row DetachLast x.0 ∷ [] in
      (path ++ act EmptySlots ∷ act EndCall ∷ [], leaves_none x.0 x.2, empties p q r path x.1 x.3 e)

  pub unclaimed_shared : (p q : Party F T A) (b : Bool) → b ≡ false → GivesTaskUp p q b → LeavesUnclaimed p q
  unclaimed_shared p q true is x = absurd (cc)
  unclaimed_shared p q false is x = (act DropOutput ∷ row Detach x.0 ∷ act EndCall ∷ [], leaves_others x.0 x.1, x.2)

  pub detaches_unclaimed : (values : Values F T) (Scheduled : Type 0) (p q r : Party F T A) → Detaches values p q Unclaimed → LeavesUnclaimed q r → Detaching Scheduled p r
  detaches_unclaimed values Scheduled p q r x y = (row GiveUpOutput x.0 ∷ y.0, unclaimed_path Scheduled x.0 y.0 x.2 y.1, did_then p q r (row GiveUpOutput x.0 ∷ []) y.0 OutputCloser as_ended (work_first x.1 []) [] x.4 y.2)

  pub detaches_shared : (values : Values F T) (Scheduled : Type 0) (p q : Party F T A) → Detaches values p q Shared → Detaching Scheduled p q
  detaches_shared values Scheduled p q x = (row Detach x.0 ∷ act EndCall ∷ [], is_shared x.0 x.1, x.2)

  -- a closed task has no other handle
  pub detaches_last : (values : Values F T) (Scheduled : Type 0) (p q r : Party F T A) → Detaches values p q Last → Empties q r → Detaching Scheduled p r
  detaches_last values Scheduled p q r x e = (row DetachLast x.0 ∷ act EmptySlots ∷ act EndCall ∷ [], is_last x.0 x.2, empties p q r (row DetachLast x.0 ∷ []) x.1 x.3 e)

  -- an open task has no other handle
  pub detaches_orphaned : (values : Values F T) (Scheduled : Type 0) (p q r : Party F T A) → Detaches values p q Orphaned → Scheduled → Did (act HandOver ∷ act EndCall ∷ []) as_ended q r → Detaching Scheduled p r
  detaches_orphaned values Scheduled p q r x fact h = (row DetachOrphan x.0 ∷ act HandOver ∷ act EndCall ∷ [], is_orphaned x.0 x.1 fact, did_then p q r (row DetachOrphan x.0 ∷ []) (act HandOver ∷ act EndCall ∷ []) (Deliverer false (ThenEnds Nothing)) as_ended [] [] x.2 h)
