-- The paths by which a waker is gained, wakes and is dropped, each with the words that its rows found and with what the foreign calls on it
-- did.
use Rattle.std.specs.Prelude.{◌≡◌, ℕ, nat_lt, Bool, true, false, List, [], ◌∷◌, Option, Some, None}
use Rattle.task_core.specs.Word.{State, is_open}
use Rattle.task_laws.specs.declared.positions.Answer.TheVariants.{Nothing}
use Rattle.task_laws.specs.declared.positions.Position.TheVariants.{Emptier, OrphanHolder}
use Rattle.task_core.specs.declared.acts.Act.TheVariants.{GainReference, FindLimit, DropWaker, DropLastWaker, OrphanTask}
use Rattle.task_core.specs.declared.acts.Act.TheVariants.{CloseOrphan, WakeOver, WakeScheduled, WakeRunning, WakeIdle, EmptySlots, HandOver}
use Rattle.task_core.specs.declared.acts.Act.TheVariants.{EndCall}
use Rattle.task_steps.specs.declared.table.Deed.{Deed}
use Rattle.task_cell.specs.declared.cell.Party.{Party}
use Rattle.task_steps.specs.declared.found.Dropped.{Dropped}
use Rattle.task_steps.specs.declared.found.Dropped.TheVariants.{Shared, Last, Orphaned}
use Rattle.task_cell.specs.Calls.{Fits, IsNew, Did, DidWith}
use Rattle.task_steps.specs.Deeds.{row, act}
use Rattle.task_steps.specs.Standing.{as_waker, as_lent, as_ended, as_deliverer}
use Rattle.task_steps.specs.WakerScripts.{others_left}
use Rattle.task_steps.specs.declared.kept.StoredAwaiter.{StoredAwaiter}
use Rattle.task_steps.specs.Steps.{awaiter_first}

-- a gain, and whether there is a new waker: the count was below the limit, or at it
pub data GainPath (limit : ℕ) : Bool → List Deed → Type 0 where
  is_gained : (w : State) → nat_lt w.references limit ≡ true → GainPath limit true (row GainReference w ∷ act EndCall ∷ [])
  finds_limit : (w : State) → nat_lt w.references limit ≡ false → GainPath limit false (row FindLimit w ∷ act EndCall ∷ [])

-- a wake of the task, and whether a Runnable is to be handed over
pub data TaskWakePath : Bool → List Deed → Type 0 where
  is_over : (w : State) → Fits WakeOver w → TaskWakePath false (row WakeOver w ∷ act EndCall ∷ [])
  is_scheduled : (w : State) → Fits WakeScheduled w → TaskWakePath false (row WakeScheduled w ∷ act EndCall ∷ [])
  is_running : (w : State) → Fits WakeRunning w → TaskWakePath false (row WakeRunning w ∷ act EndCall ∷ [])
  is_idle : (w : State) → Fits WakeIdle w → TaskWakePath true (row WakeIdle w ∷ act EndCall ∷ [])

-- a wake by a waker: the Runnable of a task that was idle was handed over
pub data WakeCallPath (Scheduled : Type 0) : List Deed → Type 0 where
  hands_none : (path : List Deed) → TaskWakePath false path → WakeCallPath Scheduled path
  hands_one : (path : List Deed) → TaskWakePath true path → Scheduled → WakeCallPath Scheduled path

-- a waker's drop: the last one of a task that is over empties the slots, and that of an open task closes it and hands a Runnable over
pub data WakerDropPath (Scheduled : Type 0) : List Deed → Type 0 where
  leaves_others : (w : State) → others_left w ≡ true → WakerDropPath Scheduled (row DropWaker w ∷ act EndCall ∷ [])
  leaves_none : (w : State) → others_left w ≡ false → is_open w ≡ false
      → WakerDropPath Scheduled (row DropLastWaker w ∷ act EmptySlots ∷ act EndCall ∷ [])
  leaves_orphan : (w v : State) → others_left w ≡ false → is_open w ≡ true → Scheduled
      → WakerDropPath Scheduled (row OrphanTask w ∷ row CloseOrphan v ∷ act HandOver ∷ act EndCall ∷ [])

module _ {F T A : Type 0} where
  -- a gain, and the new waker
  pub data Gains (limit : ℕ) (p q : Party F T A) : Option (Party F T A) → Type 0 where
    gains_none : (path : List Deed) → GainPath limit false path → Did path as_lent p q → Gains limit p q None
    gains_one : (path : List Deed) (waker : Party F T A) → GainPath limit true path → Did path as_lent p q → IsNew as_waker p waker
        → Gains limit p q (Some waker)

  -- a wake, and the deliverer that is to hand the Runnable over
  pub data WakesTask (p q : Party F T A) : Option (Party F T A) → Type 0 where
    makes_none : (path : List Deed) → TaskWakePath false path → Did path as_lent p q → WakesTask p q None
    makes_one : (path : List Deed) (deliverer : Party F T A) → TaskWakePath true path → Did path as_lent p q
        → IsNew as_deliverer p deliverer → WakesTask p q (Some deliverer)

  -- the row of a waker's drop
  abbrev pub DropsWaker : Party F T A → Party F T A → Dropped → Type 0
  DropsWaker p q Shared = (w : State) × (others_left w ≡ true) × Did (row DropWaker w ∷ act EndCall ∷ []) as_ended p q
  DropsWaker p q Last =
      (w : State) × (y : Option (StoredAwaiter A)) × (others_left w ≡ false) × (is_open w ≡ false)
      × DidWith (row DropLastWaker w ∷ []) (Emptier None Nothing) (awaiter_first y []) p q
  DropsWaker p q Orphaned = (w : State) × (others_left w ≡ false) × (is_open w ≡ true) × Did (row OrphanTask w ∷ []) OrphanHolder p q
