use Rattle.std.specs.Prelude.{◌≡◌, Bool, true, Option, Some, None, Result, Ok, Err, ⊤}
use Rattle.task_core.specs.declared.traits.TaskPoll.{TaskPoll}
use Rattle.task_core.specs.declared.traits.TaskPoll.TheVariants.{Pending as Waits, Ready, Refused}
use Rattle.async_task.specs.declared.task.TaskClosed.{TaskClosed}
use Rattle.async_task.specs.HandlePaths.{IfSomeOutput}
use Rattle.executor_parts.specs.declared.blocking.BlockOnError.{BlockOnError}
use Rattle.executor_parts.specs.declared.blocking.BlockOnError.TheVariants.{Closed, Refused as NoAwaiter, ShutDown}

module _ {T : Type 0} where
  -- the answer says that there will be no output
  abbrev pub SaysNone : TaskPoll (Option T) → Type 0
  SaysNone (Ready (Some output)) = ⊥
  SaysNone (Ready None) = ⊤
  SaysNone Waits = ⊥
  SaysNone Refused = ⊥

  -- the answer has no output
  abbrev pub GivesNone : TaskPoll (Option T) → Type 0
  GivesNone (Ready (Some output)) = ⊥
  GivesNone (Ready None) = ⊤
  GivesNone Waits = ⊤
  GivesNone Refused = ⊤

  -- the answer is that of a poll which had an awaiter
  abbrev pub WasPolled : TaskPoll T → Type 0
  WasPolled (Ready answer) = ⊤
  WasPolled Waits = ⊤
  WasPolled Refused = ⊥

  -- what polls answer where the handle had seen its task closed, or had not, and now has, or has not
  pub record Answered (holds : T → Type 0) (had_ended : Bool) (answer : TaskPoll (Option T)) (has_ended : Bool) : Type 0 where
    pub output : IfSomeOutput answer holds
    pub closed : SaysNone answer → has_ended ≡ true
    pub ended : had_ended ≡ true → GivesNone answer
    pub stays : had_ended ≡ true → has_ended ≡ true

  -- the answer of a Cancel, which is never that the task is closed, as its own poll gives it
  abbrev pub cancel_answer : {E : Type 0} → TaskPoll (Result (Option T) E) → TaskPoll (Option T)
  cancel_answer (Ready (Ok answer)) = Ready answer
  cancel_answer (Ready (Err closed)) = Ready None
  cancel_answer Waits = Waits
  cancel_answer Refused = Refused

  -- what a poll has answered where `block_on` gives this result
  abbrev pub answer_of : Result T BlockOnError → TaskPoll (Result T TaskClosed)
  answer_of (Ok output) = Ready (Ok output)
  answer_of (Err Closed) = Ready (Err (record {}))
  answer_of (Err NoAwaiter) = Refused
  answer_of (Err ShutDown) = Waits

module _ {T : Type 0} {holds : T → Type 0} where
  -- a refusal says nothing
  pub refused : {had : Bool} → Answered holds had Refused had
  refused = record { output = tt; closed = λ impossible. absurd impossible; ended = λ _. tt; stays = λ seen. seen }

  -- what holds of an output follows from what another fact says of it
  if-output : {facts : T → Type 0} (answer : TaskPoll (Option T)) → ((output : T) → facts output → holds output) → IfSomeOutput answer facts → IfSomeOutput answer holds
  if-output (Ready (Some output)) follows told = follows output told
  if-output (Ready None) follows told = tt
  if-output Waits follows told = tt
  if-output Refused follows told = tt

  -- an answer after polls that were pending, of a handle of which the same is said
  pub goes-on : {facts : T → Type 0} {first second third : Bool} {answer : TaskPoll (Option T)} → ((output : T) → facts output → holds output) → Answered holds first Waits second → Answered facts second answer third
      → Answered holds first answer third
  goes-on {answer = answer} follows before after =
      record { output = if-output answer follows after.output; closed = after.closed; ended = λ seen. after.ended (before.stays seen); stays = λ seen. after.stays (before.stays seen) }
