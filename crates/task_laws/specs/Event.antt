-- 1 of 16: what happens to a task, as an outsider could write it down. A trace has the newest event first.
use Rattle.std.specs.Prelude.{ℕ, nat_eq, Bool, true, false}
pub use Rattle.task_laws.specs.declared.positions.PollAnswer.{PollAnswer}
pub use Rattle.task_laws.specs.declared.positions.PollAnswer.TheVariants.{IsPending, IsClosed, HasOutput, IsRefused}
pub use Rattle.task_laws.specs.declared.positions.Answer.{Answer}
pub use Rattle.task_laws.specs.declared.positions.Answer.TheVariants.{Nothing, Ran, Gained, Finished}

-- why a Runnable was made
pub data Maker : Type 0 where
  BySpawn ByWake ByClosing : Maker

-- what may happen to a task
pub data Event : Type 0 where
  -- polls of the future
  FuturePollBegins FuturePending FutureReady : Event
  -- future and output
  FutureDropped OutputTaken OutputDropped : Event
  -- a Runnable: made, taken up by a run or a drop, which ends; handed to the schedule value
  Made : Maker → Event
  TakenUp RunEnded : Event
  HandedOver : Bool → Event
  -- the step of a wake
  WakeStep : Event
  -- the task
  Completes Closes Empties : Event
  -- poll number i of the Task begins, and answers, by which its call ends
  TaskPollBegins : ℕ → Event
  TaskPollEnds : ℕ → PollAnswer → Event
  -- the awaiter of poll number i: cloned, woken; its clone ended
  Cloned Woken CloneEnded : ℕ → Event
  -- handles and calls
  WakerGained WakerGivenUp TaskGivenUp : Event
  CallBegins : Event
  CallEnds : Answer → Event

-- whether an event is the wanted one
abbrev pub is_event : Event → Event → Bool
is_event FuturePollBegins FuturePollBegins = true
is_event FuturePending FuturePending = true
is_event FutureReady FutureReady = true
is_event FutureDropped FutureDropped = true
is_event OutputTaken OutputTaken = true
is_event OutputDropped OutputDropped = true
is_event (Made BySpawn) (Made BySpawn) = true
is_event (Made ByWake) (Made ByWake) = true
is_event (Made ByClosing) (Made ByClosing) = true
is_event TakenUp TakenUp = true
is_event RunEnded RunEnded = true
is_event WakeStep WakeStep = true
is_event Completes Completes = true
is_event Closes Closes = true
is_event Empties Empties = true
is_event (TaskPollBegins i) (TaskPollBegins j) = nat_eq i j
is_event (Cloned i) (Cloned j) = nat_eq i j
is_event (Woken i) (Woken j) = nat_eq i j
is_event (CloneEnded i) (CloneEnded j) = nat_eq i j
is_event WakerGained WakerGained = true
is_event WakerGivenUp WakerGivenUp = true
is_event TaskGivenUp TaskGivenUp = true
is_event CallBegins CallBegins = true
-- two that differ; no law asks for one HandedOver, TaskPollEnds or CallEnds
is_event _ _ = false
