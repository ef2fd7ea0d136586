-- What a wake, a drop and a clone of a waker say.
use Rattle.std.specs.Prelude.{◌≡◌, true, false, List}
use Rattle.task_core.specs.declared.traits.Yields.{Ghosts}
use Rattle.task_core.specs.declared.traits.ScheduleInfo.{ScheduleInfo}
use Rattle.task_steps.specs.declared.table.Deed.{Deed}
use Rattle.task_steps.specs.Standing.{as_ended}
use Rattle.task_cell.specs.declared.cell.Party.{Party}
use Rattle.task_cell.specs.declared.runnable.Runnable.{Runnable}
use Rattle.task_cell.specs.declared.waker.TaskWaker.{TaskWaker}
use Rattle.task_cell.specs.Belongs.{HasMade, cell_of, limit_in}
use Rattle.task_cell.specs.Gained.{HasGained}
use Rattle.task_cell.specs.Handed.{HandedOver}
use Rattle.task_cell.specs.WakerPaths.{WakeCallPath, WakerDropPath}
use Rattle.task_cell.specs.Wakers.{is_owned}
use Rattle.task_cell.specs.Witnessed.{WasMade}

module _ {R F Q M A X B O K : Type 0} {G : Ghosts F O} where
  -- the party was lent for a wake by this waker, and has made it
  abbrev pub WokeBy : {T : Type 0} → (Q → Runnable R F Q M A X B O K G → ScheduleInfo → Type 0) → TaskWaker R F Q M A X B O K G → Party F T A → Type 0
  WokeBy scheduled waker party =
      (path : List Deed) × WakeCallPath (HandedOver scheduled (cell_of waker.inner.share) waker.around false) path
      × HasMade waker.inner.share path party

  -- the reference of this waker was given up, if it holds one, in an interleaving
  abbrev pub WasGivenUp : (Q → Runnable R F Q M A X B O K G → ScheduleInfo → Type 0) → TaskWaker R F Q M A X B O K G → Type 0
  WasGivenUp scheduled waker =
      is_owned waker.inner.hold ≡ true → (path : List Deed)
      × WakerDropPath (HandedOver scheduled (cell_of waker.inner.share) waker.around false) path
      × WasMade (limit_in waker.inner.share) as_ended path

  -- the clone is a waker of the same cell, which holds a reference and carries the same
  abbrev pub IsClone : TaskWaker R F Q M A X B O K G → TaskWaker R F Q M A X B O K G → Type 0
  IsClone waker clone =
      (cell_of clone.inner.share ≡ cell_of waker.inner.share) × (clone.around ≡ waker.around) × (is_owned clone.inner.hold ≡ true)
      × HasGained waker.inner.share
