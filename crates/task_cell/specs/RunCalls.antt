-- What the steps of a run and of a Runnable's drop come to.
use Rattle.std.specs.Prelude.{◌≡◌, ℕ, ◌||◌, nat_lt, Bool, true, false, List, [], ◌∷◌, Option, Some, None, Result, Ok, Err, is_some}
use Rattle.task_core.specs.Word.{HasRoom, State}
use Rattle.task_laws.specs.declared.positions.Answer.{Answer}
use Rattle.task_laws.specs.declared.positions.Position.TheVariants.{At, AwaiterInHand, Deliverer, Emptier, Pending, PendingFutureDropped}
use Rattle.task_laws.specs.declared.positions.Position.TheVariants.{OutputInHand, ReadyFutureDropped}
use Rattle.task_core.specs.declared.acts.Act.TheVariants.{GiveUpReference, GiveUpLastReference, DropFuture, StoreOutput, Complete}
use Rattle.task_core.specs.declared.acts.Act.TheVariants.{CompleteDetached, AnswerPending, Reschedule, EndIdle, EndCall, EndOrphaned}
use Rattle.task_core.specs.declared.acts.Act.TheVariants.{AnswerReady, EndClosed}
use Rattle.task_core.specs.declared.traits.Poll.{Poll}
use Rattle.task_core.specs.declared.traits.Poll.TheVariants.{Pending as Unready, Ready as Answered}
use Rattle.task_laws.specs.declared.positions.Answer.TheVariants.{Ran}
use Rattle.task_laws.specs.declared.positions.Rest.TheVariants.{Ended}
use Rattle.task_laws.specs.declared.positions.OnceDelivered.TheVariants.{ThenEnds}
use Rattle.task_laws.specs.declared.positions.NotifyingCall.TheVariants.{OfRun}
use Rattle.task_laws.specs.declared.positions.NotifyingCall.{NotifyingCall}
use Rattle.task_laws.specs.Table.{after_giving_up, notifies, after_taking, after_waking}
use Rattle.task_steps.specs.declared.table.Slot.{Slot}
use Rattle.task_steps.specs.declared.kept.StoredAwaiter.{StoredAwaiter}
use Rattle.task_steps.specs.Stored.{stored_by}
use Rattle.task_steps.specs.declared.table.Deed.{Deed}
use Rattle.task_cell.specs.declared.cell.Party.{Party}
use Rattle.task_steps.specs.declared.found.PendingEnd.{PendingEnd}
use Rattle.task_steps.specs.declared.found.PendingEnd.TheVariants.{Rescheduled, Idle, Orphaned}
use Rattle.task_steps.specs.Steps.{work_first, awaiter_first}
use Rattle.task_cell.specs.Calls.{Fits, Stands, Did, DidWith}
use Rattle.task_steps.specs.Deeds.{row, act}
use Rattle.task_cell.specs.RunPaths.{ReleasePath, NotifyPath, WakePath, RestPath, StorePath, ClosedRunPath, ReadyPath, PendingPath}
use Rattle.task_cell.specs.RunPaths.{DiscardPath}
use Rattle.task_steps.specs.Rule.{TaskPlace}

-- how a run has ended, if it has
abbrev pub end_of : {X Y Z : Type 0} → Result (X × Y) Z → Option X
end_of (Ok x) = Some x.0
end_of (Err z) = None

module _ {F T A : Type 0} where
  -- a reference was given up, and whether it was the last handle
  pub data GivesUp (hand : Option ℕ) (answer : Answer) (p q : Party F T A) : Bool → Type 0 where
    not_last : (w : State) → Fits GiveUpReference w → Did (row GiveUpReference w ∷ []) (after_giving_up hand answer) p q
        → GivesUp hand answer p q false
    last : (w : State) (y : Option (StoredAwaiter A)) → Fits GiveUpLastReference w
        → DidWith (row GiveUpLastReference w ∷ []) (Emptier hand answer) (awaiter_first y []) p q → GivesUp hand answer p q true

  -- a reference was given up, and the places were emptied where it was the last handle
  abbrev pub Releases : Option ℕ → Answer → Party F T A → Party F T A → Type 0
  Releases hand answer p q = (path : List Deed) × ReleasePath path × Did path (after_giving_up hand answer) p q

  -- a run has ended with its output, which stays where somebody may claim it
  pub data Completes (p q : Party F T A) (w : State) : Type 0 where
    keeps : w.task ≡ true → w.closed ≡ false → Did (act StoreOutput ∷ row Complete w ∷ []) (notifies w.awaiter OfRun) p q → Completes p q w
    finds_closed : (z : Slot F T) → w.task ≡ true → w.closed ≡ true
        → DidWith (act StoreOutput ∷ row Complete w ∷ []) (OutputInHand w.awaiter) (work_first z []) p q
        → Completes p q w
    finds_detached : (z : Slot F T) → w.task ≡ false
        → DidWith (act StoreOutput ∷ row CompleteDetached w ∷ []) (OutputInHand w.awaiter) (work_first z []) p q
        → Completes p q w

  -- the poll has answered Pending, and whether the task was found closed
  pub data AnswersPending (held : List (ℕ × TaskPlace F T A)) (p q : Party F T A) : Bool → Type 0 where
    stays_pending : DidWith (act AnswerPending ∷ []) Pending held p q → AnswersPending held p q false
    clears : DidWith (act AnswerPending ∷ act DropFuture ∷ []) PendingFutureDropped held p q → AnswersPending held p q true

  -- what a poll answered was written down, on this word; where it is Ready, the future is dropped next
  pub data NotesAnswer {O : Type 0} (held : List (ℕ × TaskPlace F T A)) (p q : Party F T A) (w : State) : Poll O → Type 0 where
    notes_ready : (x : O) → DidWith (act AnswerReady ∷ act DropFuture ∷ []) ReadyFutureDropped held p q → NotesAnswer held p q w (Answered x)
    notes_pending : HasRoom w → AnswersPending held p q w.closed → NotesAnswer held p q w Unready

  -- a run has ended without an output, or has found the task closed
  pub data EndsPending (held : List (ℕ × TaskPlace F T A)) (p q : Party F T A) : Option PendingEnd → Type 0 where
    is_closed : DidWith (act DropFuture ∷ []) PendingFutureDropped held p q → EndsPending held p q None
    is_rescheduled : (w : State) → w.closed ≡ false → w.scheduled ≡ true
        → Did (row Reschedule w ∷ []) (Deliverer true (ThenEnds (Ran true))) p q → EndsPending held p q (Some Rescheduled)
    is_idle : (w : State) → w.closed ≡ false → w.scheduled ≡ false → (nat_lt 1 w.references || w.task) ≡ true
        → Did (row EndIdle w ∷ act EndCall ∷ []) (At Ended) p q → EndsPending held p q (Some Idle)
    is_orphaned : (w : State) → w.closed ≡ false → w.scheduled ≡ false → (nat_lt 1 w.references || w.task) ≡ false
        → Did (row EndOrphaned w ∷ []) (Deliverer false (ThenEnds (Ran false))) p q → EndsPending held p q (Some Orphaned)

  -- the awaiter was taken that was due: the one that the poll of this number has stored
  pub data TakesDue (way : NotifyingCall) (due : Bool) (p q : Party F T A) : Option (StoredAwaiter A) → Type 0 where
    takes_none : (path : List Deed) → NotifyPath due false path → Did path (after_taking None way) p q → TakesDue way due p q None
    takes_one : (i : ℕ) (a : StoredAwaiter A) (path : List Deed) → stored_by a ≡ i → NotifyPath due true path → Did path (after_taking (Some i) way) p q
        → TakesDue way due p q (Some a)

  -- a party that has what was taken, to be woken
  pub data HasTaken (way : NotifyingCall) (p : Party F T A) : Option (StoredAwaiter A) → Type 0 where
    has_none : Stands (after_waking way) p → HasTaken way p None
    has_one : (i : ℕ) (a : StoredAwaiter A) → stored_by a ≡ i → Stands (AwaiterInHand i way) p → HasTaken way p (Some a)

  -- the awaiter that was taken, if one was, is woken
  abbrev pub Wakes : Type 0 → NotifyingCall → Option (StoredAwaiter A) → Party F T A → Party F T A → Type 0
  Wakes Woken way awaiter p q = (path : List Deed) × WakePath Woken (is_some awaiter) path × Did path (after_waking way) p q

  -- a run has gone from its end step to the end of its call
  abbrev pub Rests : Type 0 → Bool → Party F T A → Party F T A → Type 0
  Rests Woken due p q = (path : List Deed) × RestPath Woken due path × Did path (At Ended) p q

  -- a run whose future was dropped has ended with its output, which was dropped too where nobody will claim it
  abbrev pub Stores : State → Party F T A → Party F T A → Type 0
  Stores w p q = (path : List Deed) × StorePath w (act DropFuture ∷ path) × Did path (notifies w.awaiter OfRun) p q

  -- the rest of a run of a closed task whose poll answered Pending
  abbrev pub ClosesPending : Type 0 → Party F T A → Party F T A → Type 0
  ClosesPending Woken p q =
      (w : State) × (path : List Deed) × (w.closed ≡ true) × RestPath Woken w.awaiter path × Did (row EndClosed w ∷ path) (At Ended) p q

  -- a whole run of a closed task, after its first step, which has written down that the future is dropped
  abbrev pub Closes : Type 0 → Party F T A → Party F T A → Type 0
  Closes Woken p q = (path : List Deed) × ClosedRunPath Woken (act DropFuture ∷ path) × Did path (At Ended) p q

  -- a whole run after a poll that answered Ready
  abbrev pub EndsReady : Type 0 → Party F T A → Party F T A → Type 0
  EndsReady Woken p q = (path : List Deed) × ReadyPath Woken path × Did path (At Ended) p q

  -- a whole run after a poll that answered Pending
  abbrev pub EndsUnready : Type 0 → (Bool → Type 0) → Bool → Party F T A → Party F T A → Type 0
  EndsUnready Woken Scheduled answer p q = (path : List Deed) × PendingPath Woken Scheduled answer path × Did path (At Ended) p q

  -- a whole drop of a Runnable
  abbrev pub Discards : Type 0 → Party F T A → Party F T A → Type 0
  Discards Woken p q = (path : List Deed) × DiscardPath Woken path × Did path (At Ended) p q
