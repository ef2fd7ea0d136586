-- 11 of 12: a task of one thread with tokens for its future and output, and a number for each awaiter.
use Rattle.std.specs.Prelude.{ℕ, Option, Some, None}
use Rattle.task_core.specs.declared.traits.TaskPoll.{TaskPoll}
use Rattle.task_core.specs.declared.traits.TaskPoll.TheVariants as answer
use Rattle.task_core.specs.Local.{Awaiter, NoAwaiter, Due, Forgotten, Local, Effect, Answered}
use Rattle.task_laws.specs.Abstract.{PlainTask, PlainEffect}
use Rattle.task_laws.specs.LocalRows.{PlainAnswered}

-- whether there is a value, without the value
abbrev pub token : {X : Type 0} → Option X → Option (Unit {0})
token None = None
token (Some x) = Some tt

-- the number of an awaiter, where there is one
abbrev pub number_of : {A : Type 0} → (A → ℕ) → Option A → Option ℕ
number_of number None = None
number_of number (Some a) = Some (number a)

-- the stored awaiter, as its number
abbrev pub numbered : {A : Type 0} → (A → ℕ) → Awaiter A → Awaiter ℕ
numbered number NoAwaiter = NoAwaiter
numbered number (Due a) = Due (number a)
numbered number (Forgotten a) = Forgotten (number a)

-- the task, with tokens and numbers
abbrev pub plain_task : {F T A : Type 0} → (A → ℕ) → Local F T A → PlainTask
plain_task number t = record {
  phase = t.phase;
  closed = t.closed;
  has_task = t.has_task;
  wakers = t.wakers;
  future = token t.future;
  output = token t.output;
  awaiter = numbered number t.awaiter;
}

-- what a call hands out, with tokens and numbers
abbrev pub plain_effect : {F T A : Type 0} → (A → ℕ) → Effect F T A → PlainEffect
plain_effect number e = record {
  task = plain_task number e.task;
  future = token e.future;
  output = token e.output;
  queue = e.queue;
  wake = number_of number e.wake;
  dropped = number_of number e.dropped;
  emptied = e.emptied;
}

-- what a poll of the Task answers, with a token for the output
abbrev pub plain_answer : {T : Type 0} → TaskPoll (Option T) → TaskPoll (Option (Unit {0}))
plain_answer (answer.Ready output) = answer.Ready (token output)
plain_answer answer.Pending = answer.Pending
plain_answer answer.Refused = answer.Refused

-- such a poll, with what it hands out
abbrev pub plain_answered : {F T A : Type 0} → (A → ℕ) → Answered F T A → PlainAnswered
plain_answered number r = record { answer = plain_answer r.answer; effect = plain_effect number r.effect }
