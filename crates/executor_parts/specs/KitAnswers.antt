-- What a poll of an Awaits does, and answers by it.
use Rattle.std.specs.Prelude.{◌≡◌, false, Option, Some, None, Result, Ok, Err, IfOk, ⊤}
use Rattle.std.specs.Arc.{arc_value}
use Rattle.futures.specs.declared.task.Poll.{Poll}
use Rattle.futures.specs.declared.task.Poll.TheVariants.{Ready, Pending}
use Rattle.task_core.specs.declared.traits.TaskPoll.{TaskPoll}
use Rattle.task_core.specs.declared.traits.TaskPoll.TheVariants.{Pending as Waits, Ready as Ends, Refused as Refuses}
use Rattle.task_cell.specs.declared.cell.Party.{Party}
use Rattle.async_task.specs.HandlePaths.{PollsOnce}
use Rattle.executor_parts.specs.declared.kit.awaiter.KitAwaiter.{KitAwaiter}
use Rattle.executor_parts.specs.declared.kit.awaits.AwaitError.{AwaitError}
use Rattle.executor_parts.specs.declared.kit.awaits.AwaitError.TheVariants.{Closed, Refused}

-- a clone of an awaiter has its slot
abbrev pub SharesSlot : {B E : Type 0} → KitAwaiter B → Result (KitAwaiter B) E → Type 0
SharesSlot awaiter clone = IfOk clone (λ other. arc_value other.slot ≡ arc_value awaiter.slot)

-- the answer to the kit, by that of the Task, which is None where it is closed
abbrev pub answered : {U : Type 0} → TaskPoll (Option U) → Poll (Result U AwaitError)
answered (Ends (Some output)) = Ready (Ok output)
answered (Ends None) = Ready (Err Closed)
answered Refuses = Ready (Err Refused)
answered Waits = Pending

-- the Task is polled once with this awaiter, its party is p before and q after, and the kit is told the answer
abbrev pub PollsTask : {F T U B : Type 0} → KitAwaiter B → (p q : Party F T (KitAwaiter B)) → Poll (Result U AwaitError) → Type 0
PollsTask {U = U} awaiter p q answer =
    (polled : TaskPoll (Option U)) × PollsOnce {K = ⊤} SharesSlot (λ _ _. ⊤) (λ _ _. ⊤) (λ _ _ same. same ≡ false) awaiter p q polled
    × (answer ≡ answered polled)
