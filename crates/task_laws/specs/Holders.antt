-- 11 of 16: which positions hold a reference, and which own a slot. The last line of each test takes all other positions.
use Rattle.std.specs.Prelude.{Bool, true, false}
use Rattle.task_laws.specs.Position.{Runnable, Waker, OfRun, OfDrop, OfClaim, Position, At, CallEnding, Deliverer}
use Rattle.task_laws.specs.Position.{Starting, Polling, Pending, Ready, ReadyFutureDropped, OutputStored, PendingFutureDropped}
use Rattle.task_laws.specs.Position.{FutureInHand, FutureGone, OutputInHand, GivingUp, Emptier, Notifier, Taker, Releaser, AwaiterInHand}
use Rattle.task_laws.specs.Position.{Storing, Registered, TookBack, TookOutput, OldAwaiterInHand, OutputCloser}

-- a waker, which holds a reference
abbrev pub is_waker : Position → Bool
is_waker (At Waker) = true
is_waker (CallEnding answer Waker) = true
is_waker _ = false

-- a Runnable, a run, or the rest of a closing call, which holds one
abbrev pub is_runner : Position → Bool
is_runner (At Runnable) = true
is_runner (CallEnding answer Runnable) = true
is_runner (Deliverer woken next) = true
is_runner Starting = true
is_runner Polling = true
is_runner Pending = true
is_runner Ready = true
is_runner ReadyFutureDropped = true
is_runner OutputStored = true
is_runner PendingFutureDropped = true
is_runner (FutureInHand closer) = true
is_runner (FutureGone closer) = true
is_runner (OutputInHand due) = true
is_runner (GivingUp hand answer) = true
is_runner (Notifier OfRun) = true
is_runner (Notifier OfDrop) = true
is_runner (Taker OfRun) = true
is_runner (Taker OfDrop) = true
is_runner (Releaser hand OfRun) = true
is_runner (Releaser hand OfDrop) = true
is_runner (AwaiterInHand i OfDrop) = true
is_runner _ = false

-- which party may touch a slot
abbrev pub owns_future : Position → Bool
owns_future Starting = true
owns_future Polling = true
owns_future Pending = true
owns_future Ready = true
owns_future (FutureInHand closer) = true
owns_future _ = false

-- which party may touch the output's slot
abbrev pub owns_output : Position → Bool
owns_output ReadyFutureDropped = true
owns_output OutputStored = true
owns_output (OutputInHand due) = true
owns_output OutputCloser = true
owns_output (Notifier (OfClaim n)) = true
owns_output (Taker (OfClaim n)) = true
owns_output (Releaser hand (OfClaim n)) = true
owns_output (AwaiterInHand i (OfClaim n)) = true
owns_output (TookOutput n) = true
owns_output _ = false

-- which party may touch the awaiter's slot
abbrev pub owns_awaiter : Position → Bool
owns_awaiter (Taker way) = true
owns_awaiter (Releaser hand way) = true
owns_awaiter (Storing i) = true
owns_awaiter (OldAwaiterInHand i old) = true
owns_awaiter (Registered i) = true
owns_awaiter (TookBack i) = true
owns_awaiter (Emptier hand answer) = true
owns_awaiter _ = false
