-- 6 of 16: what the conditions of the table say.
use Rattle.std.specs.Prelude.{ℕ, zero, suc, Bool, true, false, not, ◌&&◌, ◌||◌, Option, Some, None, if◌then◌else◌}
use Rattle.task_core.specs.Word.{State, is_open}
use Rattle.task_laws.specs.Event.{IsPending}
use Rattle.task_laws.specs.Position.{Rest, Runnable, Waker, Lent, Ended, Task, NotifyingCall, OfRun, OfDrop, OfCancel, OfPoll, OfClaim, Position}
use Rattle.task_laws.specs.Position.{Notifier, Registrar, Registered, OldAwaiterInHand, SawOutput, Answering}
use Rattle.task_laws.specs.Scene.{Scene}

-- the task has a handle: the Task, or one that holds a reference
abbrev pub is_held : State → Bool
is_held w = w.task || is_some w.references
  where
    is_some : ℕ → Bool
    is_some zero = false
    is_some (suc n) = true

-- a reference may be asked for by a waker, a Runnable, or a lent waker
abbrev pub may_ask : Rest → Bool
may_ask Runnable = true
may_ask Waker = true
may_ask Lent = true
may_ask Ended = false
may_ask (Task i) = false

-- a reference is gained by a lent waker of a task that has a handle
abbrev pub may_gain : Scene → Rest → Bool
may_gain s Lent = is_held s.word
may_gain s r = may_ask r

-- a waker may wake, and a lent one where the task has a handle or is over
abbrev pub may_wake : Scene → Rest → Bool
may_wake s Runnable = false
may_wake s Waker = true
may_wake s Lent = is_held s.word || not (is_open s.word)
may_wake s Ended = false
may_wake s (Task i) = false

-- a ready poll may drop the awaiter in place of waking it
abbrev pub may_drop : NotifyingCall → Bool
may_drop OfRun = false
may_drop OfDrop = false
may_drop (OfCancel n) = false
may_drop (OfPoll n) = true
may_drop (OfClaim n) = true

-- the awaiter that stood in the slot before is dropped
abbrev pub after_storing : ℕ → Option ℕ → Position
after_storing i (Some old) = OldAwaiterInHand i old
after_storing i None = Registered i

-- where a poll of the Task goes by the word that its first load found, and its second, after it registered
abbrev pub first_look : State → ℕ → Position
first_look w i = if w.closed && not (w.scheduled || w.running) then Notifier (OfPoll i) else Registrar i

-- by its second load: the task has ended, there is an output to claim, or the poll waits
abbrev pub second_look : State → ℕ → Position
second_look w i =
    if w.closed then (if w.scheduled || w.running then Answering i IsPending else Notifier (OfPoll i))
    else (if w.completed then SawOutput i else Answering i IsPending)
