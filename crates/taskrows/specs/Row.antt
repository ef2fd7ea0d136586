use Rattle.std.specs.Prelude.{◌≡◌, ℕ, IsTrue}
use Rattle.rows_fixtures.specs.declared.counters.Counts.{Counts}
use Rattle.rows_fixtures.specs.declared.outcome.Outcome.{Outcome}
use Rattle.rows_fixtures.specs.declared.row.Row.{Row}
use Rattle.rows_fixtures.specs.declared.row.Row.TheVariants.{DropAndDetach, DetachAndDrop, DetachAndRun, RunAndDetach}
use Rattle.rows_fixtures.specs.declared.row.Row.TheVariants.{CancelAndRun, CancelJoin, LastRun, RefusedClone}
use Rattle.rows_fixtures.specs.declared.row.Row.TheVariants.{AwaiterCompletes, AwaiterOrphan, ScheduleCounter, Sum}
use Rattle.rows_fixtures.specs.declared.row.Row.TheVariants.{Waker, WakerClone, WakerWake, WakeDropped, DropLastWaker}
use Rattle.rows_fixtures.specs.declared.row.Row.TheVariants.{WakeDuringRun, CancelDuringRun}
use Rattle.rows_fixtures.specs.declared.row.Row.TheVariants.{Limit, ClosedPoll, CancelFuture, Priorities, Local, RunAndCancel, DropInSchedule}
use Rattle.rows_fixtures.specs.declared.row.Row.TheVariants.{WakeAndCancel, CancelAndWake, DetachDuringRun, DropDuringRun, PollDuringRun}
use Rattle.rows_fixtures.specs.declared.row.Row.TheVariants.{CancelRefused, ClearQueue, WakeIntoDrop, DropInPoll, Priority, PriorityYield}
use Rattle.rows_fixtures.specs.declared.row.Row.TheVariants.{PriorityFull}

-- these polls, schedule calls, drops of the future and drops of the schedule value
abbrev pub counts : ℕ → ℕ → ℕ → ℕ → Counts
counts polls schedules futures schedulers =
    record { 0 = polls; 1 = schedules; 2 = futures; 3 = schedulers }

-- the numbers that the table of the rows has for a row
abbrev pub counts_of : Row → Counts
counts_of DropAndDetach = counts 0 0 1 1
counts_of DetachAndDrop = counts 0 0 1 1
counts_of DetachAndRun = counts 1 0 1 1
counts_of RunAndDetach = counts 1 0 1 1
counts_of CancelAndRun = counts 0 0 1 1
counts_of CancelJoin = counts 1 0 1 1
counts_of Waker = counts 2 2 0 0
counts_of WakerClone = counts 2 1 1 1
counts_of WakerWake = counts 2 1 1 1
counts_of WakeDropped = counts 1 1 1 1
counts_of DropLastWaker = counts 1 1 1 1
counts_of Limit = counts 1 1 0 0
counts_of LastRun = counts 1 1 1 1
counts_of ClosedPoll = counts 0 0 1 0
counts_of RefusedClone = counts 1 0 1 0
counts_of WakeDuringRun = counts 1 1 0 0
counts_of CancelFuture = counts 0 0 1 0
counts_of Priorities = counts 3 3 3 0
counts_of Local = counts 1 1 1 0
counts_of AwaiterCompletes = counts 1 0 1 1
counts_of AwaiterOrphan = counts 1 1 1 1
counts_of ScheduleCounter = counts 0 3 0 0
counts_of Sum = counts 1 0 1 0
counts_of RunAndCancel = counts 1 0 1 1
counts_of DropInSchedule = counts 0 1 1 0
counts_of CancelDuringRun = counts 2 1 1 1
counts_of WakeAndCancel = counts 2 1 1 1
counts_of CancelAndWake = counts 2 1 1 1
counts_of DetachDuringRun = counts 1 0 1 1
counts_of DropDuringRun = counts 1 0 1 1
counts_of PollDuringRun = counts 1 0 1 0
counts_of CancelRefused = counts 0 0 1 0
counts_of ClearQueue = counts 0 3 3 0
counts_of WakeIntoDrop = counts 1 1 1 1
counts_of DropInPoll = counts 1 0 1 1
counts_of Priority = counts 4 4 4 0
counts_of PriorityYield = counts 3 3 2 0
counts_of PriorityFull = counts 1 2 2 0

-- a row that agrees ends with these numbers
abbrev pub AgreesAt : Counts → Outcome → Type 0
AgreesAt expected outcome = IsTrue outcome.agrees → outcome.counts ≡ expected

-- a row that agrees ends with the numbers that the table of the rows has for it
abbrev pub AgreesAs : Row → Outcome → Type 0
AgreesAs row = AgreesAt (counts_of row)
