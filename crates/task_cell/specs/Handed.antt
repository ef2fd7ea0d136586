-- What foreign code was given: a Runnable, and a waker, of this cell and with these surroundings.
use Rattle.std.specs.Prelude.{◌≡◌, Bool}
use Rattle.task_core.specs.declared.traits.Poll.{Poll}
use Rattle.task_core.specs.declared.traits.Yields.{Ghosts}
use Rattle.task_core.specs.Yielded.{Continued}
use Rattle.task_core.specs.declared.traits.ScheduleInfo.{ScheduleInfo}
use Rattle.counted_block.specs.Blocks.{BlockId}
use Rattle.task_cell.specs.declared.cell.Cell.{Cell}
use Rattle.task_cell.specs.Belongs.{cell_of}
use Rattle.task_cell.specs.declared.runnable.Runnable.{Runnable}
use Rattle.task_cell.specs.declared.waker.TaskWaker.{TaskWaker}

-- K is the type of the records that the awaiter's calls answer
module _ {R F Q M A X B O K : Type 0} {G : Ghosts F O} where
  -- a Runnable of this cell was handed to its schedule value, which was told whether the task was woken while it ran
  abbrev pub HandedOver : (Q → Runnable R F Q M A X B O K G → ScheduleInfo → Type 0) → BlockId × Cell R Q M B → X → Bool → Type 0
  HandedOver scheduled cell around woken =
      (n : Runnable R F Q M A X B O K G) × (cell_of n.inner.share ≡ cell) × (n.around ≡ around)
      × scheduled cell.1.schedule n (record { woken_while_running = woken })

  -- the future was polled, from f to g, with a waker of this cell
  abbrev pub LentTo : (F → TaskWaker R F Q M A X B O K G → Poll O → F → Type 0) → BlockId × Cell R Q M B → X → F → Poll O → F → Type 0
  LentTo polled cell around f answer g =
      (w : TaskWaker R F Q M A X B O K G) × (cell_of w.inner.share ≡ cell) × (w.around ≡ around) × polled f w answer g

  -- a run has polled the future: f is what polls that answered Pending have made of the future that was spawned, and its type states this poll
  abbrev pub PolledOnce : (F → TaskWaker R F Q M A X B O K G → Poll O → F → Type 0) → F → BlockId × Cell R Q M B → X → Poll O → Type 0
  PolledOnce polled spawned cell around answer =
      (f : F) × (g : F) × Continued G.moves spawned f × G.moves f answer g × LentTo polled cell around f answer g
