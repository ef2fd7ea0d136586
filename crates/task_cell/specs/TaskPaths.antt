-- The paths of a cancel and of a detach, each with the words that its rows found and with what the foreign calls on it did.
use Rattle.std.specs.Prelude.{◌≡◌, ℕ, Bool, true, false, List, [], ◌∷◌, ◌++◌, Option, Some, None}
use Rattle.task_core.specs.Word.{State}
use Rattle.task_laws.specs.Table.{after_cancelling, notifies}
use Rattle.task_laws.specs.declared.positions.Answer.TheVariants.{Nothing}
use Rattle.task_laws.specs.declared.positions.NotifyingCall.TheVariants.{OfCancel}
use Rattle.task_laws.specs.declared.positions.OnceDelivered.TheVariants.{ThenEnds}
use Rattle.task_laws.specs.declared.positions.Position.TheVariants.{Deliverer, Emptier, OutputCloser}
use Rattle.task_core.specs.declared.acts.Act.TheVariants.{CancelOver, CancelBusy, CancelIdle, GiveUpOutput, DropOutput, DetachOrphan}
use Rattle.task_core.specs.declared.acts.Act.TheVariants.{DetachLast, Detach, EmptySlots, EndCall, HandOver, BeginNotify, MissNotify}
use Rattle.task_core.specs.declared.acts.Act.TheVariants.{TakeAwaiter, EndNotify, WakeAwaiter}
use Rattle.task_steps.specs.declared.table.Slot.{Slot}
use Rattle.task_steps.specs.declared.kept.StoredAwaiter.{StoredAwaiter}
use Rattle.task_steps.specs.declared.table.Deed.{Deed}
use Rattle.task_cell.specs.declared.cell.Party.{Party}
use Rattle.task_steps.specs.declared.found.Cancelled.{Cancelled}
use Rattle.task_steps.specs.declared.found.Cancelled.TheVariants.{Busy, Idle}
use Rattle.task_steps.specs.declared.found.Detached.{Detached}
use Rattle.task_steps.specs.declared.found.Detached.TheVariants.{Unclaimed, Shared, Last, Orphaned}
use Rattle.task_steps.specs.Values.{Values}
use Rattle.task_steps.specs.Rule.{IsOutput}
use Rattle.task_steps.specs.Steps.{work_first, awaiter_first}
use Rattle.task_cell.specs.Calls.{Fits, DidWith, Did}
use Rattle.task_steps.specs.Deeds.{row, act}
use Rattle.task_steps.specs.Standing.{as_ended, as_task}

-- an awaiter is taken where one was due, and woken where there is one
pub data Notice (Woken : Type 0) : Bool → List Deed → Type 0 where
  not_due : Notice Woken false []
  missed : (w : State) → Fits MissNotify w → Notice Woken true (row MissNotify w ∷ [])
  found_none : (w v : State) → Fits BeginNotify w → Notice Woken true (row BeginNotify w ∷ act TakeAwaiter ∷ row EndNotify v ∷ [])
  woke : (w v : State) → Fits BeginNotify w → Woken
      → Notice Woken true (row BeginNotify w ∷ act TakeAwaiter ∷ row EndNotify v ∷ act WakeAwaiter ∷ [])

-- a cancel: the task is over; or it is closed, and its Runnable or run will see it; or it is closed, and a Runnable is handed over that
-- will see it
pub data CancelPath (Scheduled Woken : Type 0) : List Deed → Type 0 where
  is_over : (w : State) → Fits CancelOver w → CancelPath Scheduled Woken (row CancelOver w ∷ act EndCall ∷ [])
  is_busy : (w : State) (notice : List Deed) → Fits CancelBusy w → Notice Woken w.awaiter notice
      → CancelPath Scheduled Woken (row CancelBusy w ∷ (notice ++ act EndCall ∷ []))
  is_idle : (w : State) (notice : List Deed) → Fits CancelIdle w → Scheduled → Notice Woken w.awaiter notice
      → CancelPath Scheduled Woken (row CancelIdle w ∷ act HandOver ∷ (notice ++ act EndCall ∷ []))

-- the rest of a detach that drops an output
pub data UnclaimedPath : List Deed → Type 0 where
  leaves_others : (v : State) → Fits Detach v → UnclaimedPath (act DropOutput ∷ row Detach v ∷ act EndCall ∷ [])
  leaves_none : (v : State) → Fits DetachLast v
      → UnclaimedPath (act DropOutput ∷ row DetachLast v ∷ act EmptySlots ∷ act EndCall ∷ [])

-- a detach: an output that nobody has claimed is dropped before; the last handle of a closed task empties the slots, and that of an open
-- one hands a Runnable over
pub data DetachPath (Scheduled : Type 0) : List Deed → Type 0 where
  drops_output : (w v : State) → Fits GiveUpOutput w → Fits Detach v
      → DetachPath Scheduled (row GiveUpOutput w ∷ act DropOutput ∷ row Detach v ∷ act EndCall ∷ [])
  drops_output_last : (w v : State) → Fits GiveUpOutput w → Fits DetachLast v
      → DetachPath Scheduled (row GiveUpOutput w ∷ act DropOutput ∷ row DetachLast v ∷ act EmptySlots ∷ act EndCall ∷ [])
  is_shared : (w : State) → Fits Detach w → DetachPath Scheduled (row Detach w ∷ act EndCall ∷ [])
  is_last : (w : State) → Fits DetachLast w → DetachPath Scheduled (row DetachLast w ∷ act EmptySlots ∷ act EndCall ∷ [])
  is_orphaned : (w : State) → Fits DetachOrphan w → Scheduled → DetachPath Scheduled (row DetachOrphan w ∷ act HandOver ∷ act EndCall ∷ [])

module _ {F T A : Type 0} where
  -- the row of a cancel, by a Task that has begun n polls
  abbrev pub Cancels : ℕ → Party F T A → Party F T A → Option Cancelled → Type 0
  Cancels n p q None = (w : State) × Fits CancelOver w × Did (row CancelOver w ∷ act EndCall ∷ []) (as_task n) p q
  Cancels n p q (Some (Busy due)) =
      (w : State) × (w.awaiter ≡ due) × Fits CancelBusy w × Did (row CancelBusy w ∷ []) (notifies due (OfCancel n)) p q
  Cancels n p q (Some (Idle due)) =
      (w : State) × (w.awaiter ≡ due) × Fits CancelIdle w × Did (row CancelIdle w ∷ []) (Deliverer false (after_cancelling due n)) p q

  -- the row by which a Task is given up
  abbrev pub Detaches : Values F T → Party F T A → Party F T A → Detached → Type 0
  Detaches values p q Unclaimed =
      (w : State) × (z : Slot F T) × Fits GiveUpOutput w × IsOutput values z
      × DidWith (row GiveUpOutput w ∷ []) OutputCloser (work_first z []) p q
  Detaches values p q Shared = (w : State) × Fits Detach w × Did (row Detach w ∷ act EndCall ∷ []) as_ended p q
  Detaches values p q Last =
      (w : State) × (y : Option (StoredAwaiter A)) × Fits DetachLast w × DidWith (row DetachLast w ∷ []) (Emptier None Nothing) (awaiter_first y []) p q
  Detaches values p q Orphaned = (w : State) × Fits DetachOrphan w × Did (row DetachOrphan w ∷ []) (Deliverer false (ThenEnds Nothing)) p q

  -- the output that nobody claimed was dropped, and the Task given up; whether the slots are to be emptied
  abbrev pub GivesTaskUp : Party F T A → Party F T A → Bool → Type 0
  GivesTaskUp p q false = (w : State) × Fits Detach w × Did (act DropOutput ∷ row Detach w ∷ act EndCall ∷ []) as_ended p q
  GivesTaskUp p q true =
      (w : State) × (y : Option (StoredAwaiter A)) × Fits DetachLast w
      × DidWith (act DropOutput ∷ row DetachLast w ∷ []) (Emptier None Nothing) (awaiter_first y []) p q
