-- How the types of the module `task` are read: as the task of one thread, and as what a call makes of it.
use Rattle.std.specs.Prelude.{◌≡◌, Bool, true, false, Option, Some, None, Result, IfSome}
use Rattle.std.specs.Result.{result_ok}
use Rattle.task_core.specs.declared.traits.ScheduleInfo.{ScheduleInfo}
use Rattle.task_core.specs.declared.traits.TaskPoll.{TaskPoll}
use Rattle.local_task.specs.declared.task.Status.{Status}
use Rattle.local_task.specs.declared.task.Status.TheVariants as status
use Rattle.local_task.specs.declared.task.Stage.{Stage}
use Rattle.local_task.specs.declared.task.Stage.TheVariants as stage
use Rattle.local_task.specs.declared.task.Settled.{Settled}
use Rattle.local_task.specs.declared.task.Start.{Start}
use Rattle.local_task.specs.declared.task.Start.TheVariants as start
use Rattle.task_core.specs.Local.{Phase, Idle, Queued, Polled, PolledAndWoken, Done, Awaiter, NoAwaiter, Due, Forgotten, Local, Effect}
use Rattle.task_core.specs.Local.{becomes, stored, Started, IsPolled, IsEnded, IsNotDue, Answered, claims, registers}

-- where the future stands, by the stage that the code keeps
abbrev pub phase_of : {F T : Type 0} → Stage F T → Phase
phase_of (stage.Idle future) = Idle
phase_of (stage.Queued future s) = Queued
phase_of (stage.Polling s) = Polled
phase_of (stage.Woken s) = PolledAndWoken
phase_of (stage.Completed output) = Done
phase_of stage.Ended = Done

-- the status of a closed task
abbrev pub closes : Status → Bool
closes status.Open = false
closes status.Closed = true

-- whether the task is closed, by its stage
abbrev pub is_closed : {F T : Type 0} → Stage F T → Bool
is_closed (stage.Idle future) = false
is_closed (stage.Queued future s) = closes s
is_closed (stage.Polling s) = closes s
is_closed (stage.Woken s) = closes s
is_closed (stage.Completed output) = false
is_closed stage.Ended = true

-- the future, where it is at home
abbrev pub future_of : {F T : Type 0} → Stage F T → Option F
future_of (stage.Idle future) = Some future
future_of (stage.Queued future s) = Some future
future_of _ = None

-- the output that waits for the Task
abbrev pub output_of : {F T : Type 0} → Stage F T → Option T
output_of (stage.Completed output) = Some output
output_of _ = None

-- the stored awaiter: forgotten, or due to be woken
abbrev pub awaiter_of : {A : Type 0} → Bool → Option A → Awaiter A
awaiter_of forgotten None = NoAwaiter
awaiter_of true (Some a) = Forgotten a
awaiter_of false (Some a) = Due a

-- the task, and the metadata beside it
pub record Owned (F T M A : Type 0) : Type 0 where
  pub task : Local F T A
  pub metadata : M

-- whether the Runnable that is handed out says that the task was woken while it was polled
abbrev pub info_of : Option ScheduleInfo → Option Bool
info_of (Some info) = Some (info.woken_while_running)
info_of None = None

-- the task after a call, and what the call answered
abbrev pub effect_of : {F T A : Type 0} → Local F T A → Settled F T A → Effect F T A
effect_of t s = record {
  task = t;
  future = s.future;
  output = s.output;
  queue = info_of s.queue;
  wake = s.wake;
  dropped = s.dropped;
  emptied = s.emptied;
}

-- the same of a call that hands out a Runnable at most
abbrev pub queued_of : {F T A : Type 0} → Local F T A → Option ScheduleInfo → Effect F T A
queued_of t info = record (becomes t) { queue = info_of info }

-- what a poll of the Task answered, and the task after it
abbrev pub answered_of : {F T A : Type 0} → Local F T A → TaskPoll (Option T) × Settled F T A → Answered F T A
answered_of t r = record { answer = r.0; effect = effect_of t r.1 }

-- what `start` answered, and the task after it
abbrev pub started_of : {F T A : Type 0} → Local F T A → Start F T A → Started F T A
started_of t (start.Poll future) = IsPolled (record (becomes t) { future = Some future })
started_of t (start.Ended settled) = IsEnded (effect_of t settled)
started_of t start.NotDue = IsNotDue (becomes t)

-- a poll of a task that is done, with what `will_wake` of its stored awaiter answered
abbrev pub Claims : {F T A : Type 0} → (A → Bool → Type 0) → Local F T A → Answered F T A → Type 0
Claims {A = A} compared t polled = (same : Bool) × IfSome (stored t.awaiter) (λ a. compared a same) × (polled ≡ claims same t)

-- a poll of another task, with what `try_clone` of the caller's awaiter answered
abbrev pub Registers : {F T A E : Type 0} → (Result A E → Type 0) → Local F T A → Answered F T A → Type 0
Registers {A = A} {E = E} cloned t polled = (clone : Result A E) × cloned clone × (polled ≡ registers (result_ok clone) t)
