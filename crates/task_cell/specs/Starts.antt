-- How a Runnable is taken up by a run.
use Rattle.std.specs.Prelude.{◌≡◌, Bool, true, false, [], ◌∷◌}
use Rattle.task_core.specs.Word.{State}
use Rattle.task_laws.specs.declared.positions.Position.TheVariants.{FutureGone, Polling}
use Rattle.task_laws.specs.declared.positions.WithoutPoll.TheVariants.{ClosedRun}
use Rattle.task_core.specs.declared.acts.Act.TheVariants.{TakeUpClosed, DropFuture, StartRun, StartPoll}
use Rattle.task_steps.specs.declared.table.Slot.{Slot}
use Rattle.task_cell.specs.declared.cell.Party.{Party}
use Rattle.task_steps.specs.Values.{Values}
use Rattle.task_steps.specs.Rule.{IsFuture}
use Rattle.task_steps.specs.Steps.{work_first}
use Rattle.task_cell.specs.Calls.{DidWith}
use Rattle.task_steps.specs.Deeds.{row, act}

module _ {F T A : Type 0} where
  -- the task was closed, and its future is dropped next; or the run has started
  pub data TakesUp (values : Values F T) (p q : Party F T A) : Bool → Type 0 where
    finds_closed : (w : State) (y : Slot F T) → w.closed ≡ true → IsFuture values y
        → DidWith (row TakeUpClosed w ∷ act DropFuture ∷ []) (FutureGone ClosedRun) (work_first y []) p q → TakesUp values p q false
    starts : (w : State) (y : Slot F T) → w.closed ≡ false → IsFuture values y
        → DidWith (row StartRun w ∷ act StartPoll ∷ []) Polling (work_first y []) p q → TakesUp values p q true
