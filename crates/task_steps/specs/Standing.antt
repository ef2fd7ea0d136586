-- Where a party stands: between two calls, as a handle, and within one.
use Rattle.std.specs.Prelude.{ℕ, ◌+◌, Bool, true, false}
use Rattle.task_laws.specs.declared.positions.Position.{Position}
use Rattle.task_laws.specs.declared.positions.Position.TheVariants.{At, Deliverer, CallEnding, Answering, FutureGone, Notifier}
use Rattle.task_laws.specs.declared.positions.Position.TheVariants.{AwaiterInHand, Looking, SawOutput, TookOutput, Registrar, UnusedClone}
use Rattle.task_laws.specs.declared.positions.Position.TheVariants.{Registered, OldAwaiterInHand, TookBack, CloneInHand}
use Rattle.task_laws.specs.declared.positions.Rest.TheVariants.{Task, Runnable, Waker, Lent, Ended}
use Rattle.task_laws.specs.Table.{after_handing_over}
use Rattle.task_laws.specs.declared.positions.Answer.TheVariants.{Nothing}
use Rattle.task_laws.specs.declared.positions.OnceDelivered.TheVariants.{ThenEnds}
use Rattle.task_laws.specs.declared.positions.NotifyingCall.{NotifyingCall}
use Rattle.task_laws.specs.declared.positions.NotifyingCall.TheVariants.{OfRun, OfDrop, OfPoll, OfClaim}
use Rattle.task_laws.specs.declared.positions.WithoutPoll.TheVariants.{DroppedRunnable}

-- the positions of a handle between two calls
abbrev pub as_runnable : Position
as_runnable = At Runnable

-- a waker that has a reference
abbrev pub as_waker : Position
as_waker = At Waker

-- a waker that is lent to a call by reference
abbrev pub as_lent : Position
as_lent = At Lent

-- a Task that has begun n polls
abbrev pub as_task : ℕ → Position
as_task n = At (Task n)

-- a handle that is used up
abbrev pub as_ended : Position
as_ended = At Ended

-- a Task between two calls
abbrev pub is_task : Position → Bool
is_task (At (Task n)) = true
is_task _ = false

-- the deliverer that a wake of an idle task makes
abbrev pub as_deliverer : Position
as_deliverer = Deliverer false (ThenEnds Nothing)

-- a party that hands a Runnable over: a deliverer, or a Runnable that is scheduled again
abbrev pub hands_over : Position → Bool
hands_over (At Runnable) = true
hands_over (Deliverer woken next) = true
hands_over p = false

-- where it stands once it has handed the Runnable over
abbrev pub handed_over : Position → Position
handed_over (At Runnable) = CallEnding Nothing Ended
handed_over (Deliverer woken next) = after_handing_over next
handed_over p = p

-- in which call the awaiter is taken that stands when a future was dropped unpolled
abbrev pub closing_way : Position → NotifyingCall
closing_way (FutureGone DroppedRunnable) = OfDrop
closing_way _ = OfRun

-- the call in which a notifier takes the awaiter, or has it
abbrev pub way_of : Position → NotifyingCall
way_of (Notifier way) = way
way_of (AwaiterInHand i way) = way
way_of _ = OfRun

-- where a party stands once its call has ended
abbrev pub rest_of : Position → Position
rest_of (CallEnding answer r) = At r
rest_of (Answering i answer) = At (Task i)
rest_of p = p

-- the number of the poll that a party is in, or begins
abbrev pub poll_number : Position → ℕ
poll_number (At (Task n)) = n + 1
poll_number (Notifier (OfPoll i)) = i
poll_number (Notifier (OfClaim i)) = i
poll_number (Registrar i) = i
poll_number (UnusedClone i) = i
poll_number (OldAwaiterInHand i old) = i
poll_number (Registered i) = i
poll_number (TookBack i) = i
poll_number (CloneInHand i) = i
poll_number (Looking i) = i
poll_number (SawOutput i) = i
poll_number (TookOutput i) = i
poll_number (Answering i answer) = i
poll_number p = 0
