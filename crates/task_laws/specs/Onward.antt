-- 5 of 16: where a party goes next, where that hangs on what it found or has in hand.
use Rattle.std.specs.Prelude.{ℕ, Bool, true, false, Option, Some, None}
use Rattle.task_laws.specs.Event.{IsClosed, Answer, Nothing, Ran}
use Rattle.task_laws.specs.Position.{Ended, Task, NotifyingCall, OfRun, OfDrop, OfCancel, OfPoll, OfClaim, OnceDelivered, ThenEnds}
use Rattle.task_laws.specs.Position.{ThenTask, ThenNotifies, Position, CallEnding, GivingUp, Notifier, AwaiterInHand, TookOutput, Answering}

-- the way on once an awaiter was taken, or was not
abbrev pub after_taking : Option ℕ → NotifyingCall → Position
after_taking hand OfRun = GivingUp hand (Ran false)
after_taking (Some i) OfDrop = AwaiterInHand i OfDrop
after_taking None OfDrop = GivingUp None Nothing
after_taking (Some i) (OfCancel n) = AwaiterInHand i (OfCancel n)
after_taking None (OfCancel n) = CallEnding Nothing (Task n)
after_taking (Some i) (OfPoll n) = AwaiterInHand i (OfPoll n)
after_taking None (OfPoll n) = Answering n IsClosed
after_taking (Some i) (OfClaim n) = AwaiterInHand i (OfClaim n)
after_taking None (OfClaim n) = TookOutput n

-- an awaiter is to be taken where AWAITER was found
abbrev pub notifies : Bool → NotifyingCall → Position
notifies true way = Notifier way
notifies false way = after_taking None way

-- a cancel whose Runnable was handed over takes the awaiter where AWAITER was found
abbrev pub after_cancelling : Bool → ℕ → OnceDelivered
after_cancelling true n = ThenNotifies n
after_cancelling false n = ThenTask n

-- the way on once the Runnable was handed over
abbrev pub after_handing_over : OnceDelivered → Position
after_handing_over (ThenEnds answer) = CallEnding answer Ended
after_handing_over (ThenTask n) = CallEnding Nothing (Task n)
after_handing_over (ThenNotifies n) = Notifier (OfCancel n)

-- the way on once the awaiter in hand was woken or dropped
abbrev pub after_waking : NotifyingCall → Position
after_waking OfRun = CallEnding (Ran false) Ended
after_waking OfDrop = GivingUp None Nothing
after_waking (OfCancel n) = CallEnding Nothing (Task n)
after_waking (OfPoll n) = Answering n IsClosed
after_waking (OfClaim n) = TookOutput n

-- the way on once the reference was given up
abbrev pub after_giving_up : Option ℕ → Answer → Position
after_giving_up (Some i) answer = AwaiterInHand i OfRun
after_giving_up None answer = CallEnding answer Ended
