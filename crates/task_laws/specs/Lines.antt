-- 8 of 16: the lines of the table of moves: what a party at its position does by an act. What the act finds and writes is a row of task_core
-- `src/table.rt`. Where there is no line, the party may not make that act.
use Rattle.std.specs.Prelude.{true, false, ◌+◌, [], ◌∷◌, Option, Some, None}
use Rattle.task_laws.specs.Event.{IsRefused, HasOutput, Ran, ByWake, ByClosing, Nothing, Gained}
use Rattle.task_laws.specs.Event.{FuturePollBegins, FuturePending, FutureReady, FutureDropped}
use Rattle.task_laws.specs.Event.{OutputTaken, OutputDropped, Made, TakenUp, RunEnded, Completes, Closes, WakeStep, WakerGained, WakerGivenUp}
use Rattle.task_laws.specs.Event.{CallBegins, TaskGivenUp}
use Rattle.task_laws.specs.Event.{HandedOver, Empties, TaskPollBegins, TaskPollEnds, CloneEnded, CallEnds, Cloned, Woken}
use Rattle.task_laws.specs.Position.{Runnable, Waker, Lent, Ended, Task, ClosedRun, DroppedRunnable, OfRun, OfDrop, OfCancel, OfClaim, ThenEnds}
use Rattle.task_laws.specs.Position.{Position, At, CallEnding, Deliverer, Starting, Polling, Pending, Ready, ReadyFutureDropped, OutputStored}
use Rattle.task_laws.specs.Position.{PendingFutureDropped, FutureInHand, FutureGone, OutputInHand, GivingUp, Emptier, Notifier, Taker, Releaser}
use Rattle.task_laws.specs.Position.{AwaiterInHand, OrphanHolder, Registrar, HasClone, UnusedClone, Storing, Registered, TookBack, CloneInHand}
use Rattle.task_laws.specs.Position.{Looking, SawOutput, TookOutput, OldAwaiterInHand, Answering, OutputCloser, Detacher, Act, GainReference}
use Rattle.task_laws.specs.Position.{FindLimit, DropWaker, DropLastWaker, OrphanTask, CloseOrphan, GiveUpReference, GiveUpLastReference, WakeOver}
use Rattle.task_laws.specs.Position.{WakeScheduled, WakeRunning, WakeIdle, DiscardOpen, DiscardClosed, CancelOver, CancelBusy, CancelIdle}
use Rattle.task_laws.specs.Position.{ClaimOutput, GiveUpOutput, DetachOrphan, DetachLast, Detach, TakeUpClosed, StartRun, Unschedule, Complete}
use Rattle.task_laws.specs.Position.{CompleteDetached, EndClosed, Reschedule, EndIdle, EndOrphaned, BeginNotify, MissNotify, FindNotify}
use Rattle.task_laws.specs.Position.{BeginRegister, EndNotify, EndRegister, EndRegisterNotified, Look, LookFinished, StartPoll, AnswerPending}
use Rattle.task_laws.specs.Position.{AnswerReady, DropFuture, StoreOutput, DropOutput, HandOutOutput, CloneAwaiter, RefuseClone, StoreAwaiter}
use Rattle.task_laws.specs.Position.{TakeAwaiter, WakeAwaiter, DropAwaiter, HandOver, EmptySlots, RefuseGain, EndCall}
use Rattle.task_laws.specs.Onward.{after_taking, after_waking, after_giving_up, after_handing_over, notifies}
use Rattle.task_laws.specs.Line.{Line, IsClaimed, IsClosed, IsNotified, MayAsk, MayGain, MayWake, MayDrop, DropsFuture}
use Rattle.task_laws.specs.Line.{StoresOutput}
use Rattle.task_laws.specs.Line.{EndsOutput, EmptiesAwaiter, StoresAwaiter, Notifies, EndsRun, EndsDetached, Delivers, Answers, LooksFirst}
use Rattle.task_laws.specs.Line.{LooksAgain, StoresOver, Releases, ClosesIfOpen, EndsClone, moves_to, moves_on, adds, changes}

-- the line of an act at a position; None where the party may not make it
abbrev pub line : Act → Position → Option Line
-- references
line GainReference (At r) = Some (record (adds (CallEnding (Gained true) r) (At Waker) (WakerGained ∷ [])) { guard = MayGain r })
line FindLimit (At r) = Some (record (moves_to (CallEnding (Gained false) r) []) { guard = MayAsk r })
line RefuseGain (At r) = Some (record (moves_to (CallEnding (Gained false) r) []) { guard = MayAsk r })
line DropWaker (At Waker) = Some (moves_to (CallEnding Nothing Ended) (WakerGivenUp ∷ []))
line DropLastWaker (At Waker) = Some (moves_to (Emptier None Nothing) (WakerGivenUp ∷ []))
line OrphanTask (At Waker) = Some (moves_to OrphanHolder (WakerGivenUp ∷ []))
line CloseOrphan OrphanHolder = Some (moves_to (Deliverer false (ThenEnds Nothing)) (Made ByClosing ∷ Closes ∷ []))
line GiveUpReference (GivingUp hand answer) = Some (moves_to (after_giving_up hand answer) [])
line GiveUpLastReference (GivingUp hand answer) = Some (moves_to (Emptier hand answer) [])
-- wakes
line WakeOver (At r) = Some (record (moves_to (CallEnding Nothing r) (WakeStep ∷ [])) { guard = MayWake r })
line WakeScheduled (At r) = Some (record (moves_to (CallEnding Nothing r) (WakeStep ∷ [])) { guard = MayWake r })
line WakeRunning (At r) = Some (record (moves_to (CallEnding Nothing r) (WakeStep ∷ [])) { guard = MayWake r })
line WakeIdle (At r) = Some (record (adds (CallEnding Nothing r) (Deliverer false (ThenEnds Nothing)) (CallBegins ∷ Made ByWake ∷ WakeStep ∷ [])) { guard = MayWake r })
-- closes
line DiscardOpen (At Runnable) = Some (moves_to (FutureInHand DroppedRunnable) (Closes ∷ TakenUp ∷ []))
line DiscardClosed (At Runnable) = Some (moves_to (FutureInHand DroppedRunnable) (TakenUp ∷ []))
line CancelOver (At (Task n)) = Some (moves_to (CallEnding Nothing (Task n)) [])
line CancelBusy (At (Task n)) = Some (moves_on (Notifies (OfCancel n)) (Closes ∷ []))
line CancelIdle (At (Task n)) = Some (moves_on (Delivers n) (Made ByClosing ∷ Closes ∷ []))
line ClaimOutput (At (Task n)) = Some (moves_on (Notifies (OfClaim (n + 1))) (Closes ∷ TaskPollBegins (n + 1) ∷ []))
line ClaimOutput (SawOutput n) = Some (moves_on (Notifies (OfClaim n)) (Closes ∷ []))
line GiveUpOutput (At (Task n)) = Some (moves_to OutputCloser (Closes ∷ []))
line DetachOrphan (At (Task n)) = Some (moves_to (Deliverer false (ThenEnds Nothing)) (Made ByClosing ∷ Closes ∷ TaskGivenUp ∷ []))
line DetachLast (At (Task n)) = Some (moves_to (Emptier None Nothing) (TaskGivenUp ∷ []))
line Detach (At (Task n)) = Some (moves_to (CallEnding Nothing Ended) (TaskGivenUp ∷ []))
line DetachLast Detacher = Some (moves_to (Emptier None Nothing) (TaskGivenUp ∷ []))
line Detach Detacher = Some (moves_to (CallEnding Nothing Ended) (TaskGivenUp ∷ []))
-- runs
line TakeUpClosed (At Runnable) = Some (moves_to (FutureInHand ClosedRun) (TakenUp ∷ []))
line StartRun (At Runnable) = Some (moves_to Starting (TakenUp ∷ []))
line Unschedule (FutureGone ClosedRun) = Some (moves_on (Notifies OfRun) (RunEnded ∷ []))
line Unschedule (FutureGone DroppedRunnable) = Some (moves_on (Notifies OfDrop) (RunEnded ∷ []))
line Complete OutputStored = Some (moves_on EndsRun (Completes ∷ RunEnded ∷ []))
line CompleteDetached OutputStored = Some (record (moves_on EndsDetached (Completes ∷ RunEnded ∷ [])) { also = ClosesIfOpen })
line EndClosed PendingFutureDropped = Some (moves_on (Notifies OfRun) (RunEnded ∷ []))
line Reschedule Pending = Some (moves_to (Deliverer true (ThenEnds (Ran true))) (Made ByWake ∷ RunEnded ∷ []))
line EndIdle Pending = Some (moves_to (CallEnding (Ran false) Ended) (RunEnded ∷ []))
line EndOrphaned Pending = Some (moves_to (Deliverer false (ThenEnds (Ran false))) (Made ByClosing ∷ Closes ∷ RunEnded ∷ []))
-- the handshake
line BeginNotify (Notifier way) = Some (moves_to (Taker way) [])
line MissNotify (Notifier way) = Some (moves_to (after_taking None way) [])
line FindNotify (HasClone i) = Some (moves_to (UnusedClone i) (Woken i ∷ []))
line BeginRegister (HasClone i) = Some (moves_to (Storing i) [])
line EndNotify (Releaser hand way) = Some (moves_to (after_taking hand way) [])
line EndRegister (Registered i) = Some (moves_to (Looking i) [])
line EndRegisterNotified (TookBack i) = Some (moves_to (CloneInHand i) [])
-- loads
line Look (At Lent) = Some (adds (At Lent) (At Lent) (CallEnds Nothing ∷ []))
line Look (At (Task n)) = Some (record (moves_on (LooksFirst (n + 1)) (TaskPollBegins (n + 1) ∷ [])) { guard = IsClaimed })
line Look (Looking i) = Some (moves_on (LooksAgain i) [])
line LookFinished (At (Task n)) = Some (moves_on (Answers n) [])
-- the future and its output
line StartPoll Starting = Some (moves_to Polling (FuturePollBegins ∷ []))
line AnswerPending Polling = Some (moves_to Pending (FuturePending ∷ []))
line AnswerReady Polling = Some (moves_to Ready (FutureReady ∷ []))
line DropFuture Ready = Some (changes DropsFuture ReadyFutureDropped (FutureDropped ∷ []))
line DropFuture Pending = Some (record (changes DropsFuture PendingFutureDropped (FutureDropped ∷ [])) { guard = IsClosed })
line DropFuture (FutureInHand ClosedRun) = Some (changes DropsFuture (FutureGone ClosedRun) (FutureDropped ∷ []))
line DropFuture (FutureInHand DroppedRunnable) = Some (changes DropsFuture (FutureGone DroppedRunnable) (FutureDropped ∷ []))
line StoreOutput ReadyFutureDropped = Some (changes StoresOutput OutputStored [])
line DropOutput (OutputInHand due) = Some (changes EndsOutput (notifies due OfRun) (OutputDropped ∷ []))
line DropOutput OutputCloser = Some (changes EndsOutput Detacher (OutputDropped ∷ []))
line HandOutOutput (TookOutput i) = Some (changes EndsOutput (Answering i HasOutput) (OutputTaken ∷ []))
-- the awaiter
line CloneAwaiter (Registrar i) = Some (moves_to (HasClone i) (Cloned i ∷ []))
line RefuseClone (Registrar i) = Some (moves_to (Answering i IsRefused) [])
line StoreAwaiter (Storing i) = Some (record (moves_on (StoresOver i) []) { slots = StoresAwaiter i })
line TakeAwaiter (Registered i) = Some (record (changes EmptiesAwaiter (TookBack i) []) { guard = IsNotified })
line TakeAwaiter (Taker way) = Some (record (moves_on (Releases way) []) { slots = EmptiesAwaiter })
line WakeAwaiter (CloneInHand i) = Some (moves_to (Looking i) (CloneEnded i ∷ Woken i ∷ []))
line WakeAwaiter (AwaiterInHand i way) = Some (moves_to (after_waking way) (CloneEnded i ∷ Woken i ∷ []))
line DropAwaiter (OldAwaiterInHand i old) = Some (moves_to (Registered i) (CloneEnded old ∷ []))
line DropAwaiter (UnusedClone i) = Some (moves_to (Looking i) (CloneEnded i ∷ []))
line DropAwaiter (AwaiterInHand i way) = Some (record (moves_to (after_waking way) (CloneEnded i ∷ [])) { guard = MayDrop way })
-- ends
line HandOver (At Runnable) = Some (adds (CallEnding Nothing Ended) (At Runnable) (HandedOver false ∷ []))
line HandOver (Deliverer woken next) = Some (adds (after_handing_over next) (At Runnable) (HandedOver woken ∷ []))
line EmptySlots (Emptier hand answer) = Some (record (changes EmptiesAwaiter (after_giving_up hand answer) (Empties ∷ [])) { also = EndsClone })
line EndCall (CallEnding answer rest) = Some (moves_to (At rest) (CallEnds answer ∷ []))
line EndCall (Answering i answer) = Some (moves_to (At (Task i)) (TaskPollEnds i answer ∷ []))
line act p = None
