-- 14 of 16: whole runs of the machine, and the abstract task that stands where they are cut.
use Rattle.std.specs.Prelude.{◌≡◌, ℕ, ◌+◌, Bool, true, false, not, ◌&&◌, ◌||◌, nat_eq, nat_lt, if◌then◌else◌, List, [], ◌∷◌, Option, Some}
use Rattle.std.specs.Prelude.{None, slice_get, length}
use Rattle.task_core.specs.Word.{State}
use Rattle.task_laws.specs.Event.{IsClosed, HasOutput, Nothing, Event, FutureDropped, OutputTaken, OutputDropped, HandedOver, Empties}
use Rattle.task_laws.specs.Event.{TaskPollEnds, Woken, CloneEnded, CallEnds}
use Rattle.task_laws.specs.Position.{Rest, Runnable, Lent, Task, ClosedRun, DroppedRunnable, OfCancel, OfPoll, OfClaim, Position, At}
use Rattle.task_laws.specs.Position.{CallEnding, Deliverer, Starting, Polling, Pending, Ready, ReadyFutureDropped, OutputStored}
use Rattle.task_laws.specs.Position.{PendingFutureDropped, FutureInHand, FutureGone, GivingUp, Notifier, AwaiterInHand, Registrar}
use Rattle.task_laws.specs.Position.{Registered, Looking, TookOutput, Answering, Detacher, Act, GainReference, FindLimit, DropWaker}
use Rattle.task_laws.specs.Position.{DropLastWaker, OrphanTask, WakeOver, WakeScheduled, WakeRunning, WakeIdle, DiscardOpen, DiscardClosed}
use Rattle.task_laws.specs.Position.{CancelOver, CancelBusy, CancelIdle, GiveUpOutput, DetachOrphan, DetachLast, Detach, TakeUpClosed}
use Rattle.task_laws.specs.Position.{StartRun, LookFinished, StartPoll, AnswerReady, DropFuture, DropOutput, CloneAwaiter, WakeAwaiter}
use Rattle.task_laws.specs.Position.{DropAwaiter, HandOver, RefuseGain}
use Rattle.task_laws.specs.Machine.{Machine, Step, opening, step, how_many}
use Rattle.task_laws.specs.Laws.{how_often, woken_since_taking_up}
use Rattle.task_laws.specs.Holders.{is_waker, is_runner}
use Rattle.task_core.specs.Local.{Phase, Idle, Queued, Polled, PolledAndWoken, Done, Awaiter, NoAwaiter, Due, Forgotten}
use Rattle.task_laws.specs.Abstract.{Call, AbstractCell, Frame, InPoll, RunDropped, DropDropped, ReadyDropped, PendingDropped, Takes}
use Rattle.task_laws.specs.Abstract.{Detaches, GivesUp, TakesOfCancel, Ends, Clones, Stores, Looks, Asks, Answers, Move, Begin, Go}
use Rattle.task_laws.specs.Abstract.{Abstract, all_moved}
use Rattle.task_laws.specs.Abstract

-- A run is cut after the acts in which foreign code runs.
abbrev pub is_foreign : Act → Bool
is_foreign StartPoll = true
is_foreign DropFuture = true
is_foreign DropOutput = true
is_foreign WakeAwaiter = true
is_foreign DropAwaiter = true
is_foreign HandOver = true
is_foreign _ = false

-- a run is cut before a clone and a question of `will_wake`
abbrev pub asks_foreign : Position → Bool
asks_foreign (Registrar i) = true
asks_foreign (AwaiterInHand i (OfPoll n)) = true
asks_foreign (AwaiterInHand i (OfClaim n)) = true
asks_foreign _ = false

-- the call that a party at rest begins
abbrev pub call_of : Rest → Act → Call
call_of r TakeUpClosed = Abstract.Run
call_of r StartRun = Abstract.Run
call_of r DiscardOpen = Abstract.DropRunnable
call_of r DiscardClosed = Abstract.DropRunnable
call_of r HandOver = Abstract.Schedule
call_of r GainReference = Abstract.Gain false
call_of r FindLimit = Abstract.Gain false
call_of r RefuseGain = Abstract.Gain true
call_of r DropWaker = Abstract.DropWaker
call_of r DropLastWaker = Abstract.DropWaker
call_of r OrphanTask = Abstract.DropWaker
call_of r WakeOver = Abstract.Wake
call_of r WakeScheduled = Abstract.Wake
call_of r WakeRunning = Abstract.Wake
call_of r WakeIdle = Abstract.Wake
call_of r CancelOver = Abstract.Cancel
call_of r CancelBusy = Abstract.Cancel
call_of r CancelIdle = Abstract.Cancel
call_of r GiveUpOutput = Abstract.Detach
call_of r DetachOrphan = Abstract.Detach
call_of r DetachLast = Abstract.Detach
call_of r Detach = Abstract.Detach
call_of r LookFinished = Abstract.IsFinished
call_of (Task n) act = Abstract.Poll (n + 1)
call_of Lent act = Abstract.Lend
-- never asked: these are all the acts that begin a call
call_of r act = Abstract.IsFinished

-- what foreign code answered: Ready, a clone, or that the wake is wanted
abbrev pub says_yes : Act → Bool
says_yes AnswerReady = true
says_yes CloneAwaiter = true
says_yes WakeAwaiter = true
says_yes _ = false

-- the move of the abstract task that begins with this step
abbrev pub move_of : Position → Act → Move
move_of (At r) act = Begin (call_of r act)
move_of p act = Go (says_yes act)

-- a whole run up to some step: the parties whose calls are open, innermost first; whether it may be cut here; and the moves that it made
pub record Whole : Type 0 where
  pub machine : Machine
  pub stack : List ℕ
  pub cut : Bool
  pub moves : List Move

-- only the innermost call goes on, and at a cut any party at rest may begin one
abbrev pub is_innermost : ℕ → List ℕ → Bool
is_innermost i [] = false
is_innermost i (j ∷ stack) = nat_eq i j

-- a party between two calls
abbrev pub is_at_rest : Position → Bool
is_at_rest (At r) = true
is_at_rest _ = false

-- whether a whole run may go on by a step of this party
abbrev pub may_step : Whole → ℕ → Position → Bool
may_step w i p = if is_at_rest p then w.cut else is_innermost i w.stack

-- the calls that are open after a step: a wake's deliverer stands below its waker
abbrev pub opened : ℕ → Position → Act → ℕ → List ℕ → List ℕ
opened i (At r) WakeIdle born stack = i ∷ (born ∷ stack)
opened i (At r) act born stack = i ∷ stack
opened i p act born stack = stack

-- a party that comes to rest takes its call off the stack
abbrev pub closed : Position → List ℕ → List ℕ
closed (At r) (i ∷ stack) = stack
closed p stack = stack

-- a deliverer goes on before anybody else
abbrev pub is_deliverer : Option Position → Bool
is_deliverer (Some (Deliverer woken next)) = true
is_deliverer p = false

-- where the innermost open call stands
abbrev pub innermost : Machine → List ℕ → Option Position
innermost m [] = None
innermost m (i ∷ stack) = slice_get m.parties i

-- whether the run may be cut after a step
abbrev pub is_cut : Act → Position → Machine → List ℕ → Bool
is_cut act (At r) m stack = not (is_deliverer (innermost m stack))
is_cut act p m stack = is_foreign act || asks_foreign p

-- the whole run after a step of party p, which stands at q then
abbrev pub after_step : Whole → Step → Position → Position → Machine → Whole
after_step w s p q m =
    let stack = closed q (opened s.party p s.act (length w.machine.parties) w.stack) in
    record { machine = m; stack = stack; cut = is_cut s.act q m stack; moves = if w.cut then move_of p s.act ∷ w.moves else w.moves }

-- the same, where the machine has that party
abbrev pub at_next : Whole → Step → Position → Option Position → Machine → Option Whole
at_next w s p None m = None
at_next w s p (Some q) m = Some (after_step w s p q m)

-- one step more; None where the machine or the whole run does not allow it
abbrev pub stepped : Whole → Step → Option Position → Option Machine → Option Whole
stepped w s (Some p) (Some m) = if may_step w s.party p then at_next w s p (slice_get m.parties s.party) m else None
stepped w s p m = None

-- a whole run, and a list of steps more
abbrev pub whole_from : Option Whole → List Step → Option Whole
whole_from w [] = w
whole_from None (s ∷ steps) = None
whole_from (Some w) (s ∷ steps) = whole_from (stepped w s (slice_get w.machine.parties s.party) (step w.machine s)) steps

-- a list of steps from the opening state: None where it is no whole run
abbrev pub whole : ℕ → List Step → Option Whole
whole limit steps = whole_from (Some (record { machine = opening limit; stack = []; cut = true; moves = [] })) steps

-- THE READING of a machine at a cut

-- a Runnable exists, or was taken up without a poll, and its end step is to come
abbrev pub is_queued : Position → Bool
is_queued (At Runnable) = true
is_queued (CallEnding answer Runnable) = true
is_queued (Deliverer woken next) = true
is_queued (FutureInHand closer) = true
is_queued (FutureGone closer) = true
is_queued _ = false

-- a run with a poll, up to its end step
abbrev pub is_polling : Position → Bool
is_polling Starting = true
is_polling Polling = true
is_polling Pending = true
is_polling Ready = true
is_polling ReadyFutureDropped = true
is_polling OutputStored = true
is_polling PendingFutureDropped = true
is_polling _ = false

-- a wake was accepted since the taking up, or it was not; else the future was dropped, or stands at home
abbrev pub phase_of : List Position → List Event → Phase
phase_of parties trace =
    if nat_lt 0 (how_many is_queued parties) then Queued
    else (if nat_lt 0 (how_many is_polling parties) then (if woken_since_taking_up trace then PolledAndWoken else Polled)
    else (if nat_lt 0 (how_often Event.FutureDropped trace) then Done else Idle))

-- the future is there, and no run has it
abbrev pub is_home : Phase → Bool
is_home Idle = true
is_home Queued = true
is_home _ = false

-- a token where this is so
abbrev pub one_if : Bool → Option (Unit {0})
one_if true = Some tt
one_if false = None

-- due where AWAITER stands, or while it is being stored
abbrev pub awaiter_of : State → Option ℕ → Awaiter ℕ
awaiter_of w None = NoAwaiter
awaiter_of w (Some i) = if w.awaiter || w.registering then Due i else Forgotten i

-- The output is the one in its slot, unless the task is closed: then it is about to be handed out or dropped. The future goes by the phase,
-- not by its slot: a poll leaves it there, and where it is dropped unpolled the slot is empty while the abstract row is still to come.
abbrev pub reading : Machine → AbstractCell
reading m = record {
  task = record {
    phase = phase_of m.parties m.trace;
    closed = nat_lt 0 (how_often Event.Closes m.trace);
    has_task = nat_eq (how_often Event.TaskGivenUp m.trace) 0;
    wakers = how_many is_waker m.parties;
    future = one_if (is_home (phase_of m.parties m.trace));
    output = one_if (m.slots.output && not m.word.closed);
    awaiter = awaiter_of m.word m.slots.awaiter;
  };
  held = nat_lt 0 (how_many is_runner m.parties);
  storing = m.word.registering;
  owed = m.word.registering && m.word.notifying;
}

-- what is left of an open call at a cut, by where its party stands
abbrev pub frame_of : Position → Frame
frame_of Polling = InPoll
frame_of (FutureGone ClosedRun) = RunDropped
frame_of (FutureGone DroppedRunnable) = DropDropped
frame_of ReadyFutureDropped = ReadyDropped
frame_of PendingFutureDropped = PendingDropped
frame_of (Notifier (OfCancel n)) = TakesOfCancel
frame_of (Notifier way) = Takes
frame_of Detacher = Detaches
frame_of (GivingUp hand answer) = GivesUp answer
frame_of (CallEnding answer rest) = Ends answer
frame_of (Registrar i) = Clones i
frame_of (Registered i) = Stores i
frame_of (Looking i) = Looks i
frame_of (AwaiterInHand j (OfPoll i)) = Asks i IsClosed j
frame_of (AwaiterInHand j (OfClaim i)) = Asks i HasOutput j
frame_of (TookOutput i) = Answers i HasOutput
frame_of (Answering i answer) = Answers i answer
-- never asked: at a cut an open call stands at one of these
frame_of p = InPoll

-- what is left of the call of a party that the stack names
abbrev pub frame_at : Option Position → Frame
frame_at (Some p) = frame_of p
-- never asked: the stack names parties of the machine
frame_at None = InPoll

-- what is left of all open calls, innermost first
abbrev pub frames : List (Position) → List ℕ → List Frame
frames parties [] = []
frames parties (i ∷ stack) = frame_at (slice_get parties i) ∷ frames parties stack

-- what a caller can see: answers, infos, ends and wakes
abbrev pub is_seen : Event → Bool
is_seen FutureDropped = true
is_seen OutputTaken = true
is_seen OutputDropped = true
is_seen (HandedOver woken) = true
is_seen Empties = true
is_seen (TaskPollEnds i answer) = true
is_seen (Woken i) = true
is_seen (CloneEnded i) = true
is_seen (CallEnds Nothing) = false
is_seen (CallEnds answer) = true
is_seen _ = false

-- what of a trace a caller can see
abbrev pub seen : List Event → List Event
seen [] = []
seen (e ∷ earlier) = if is_seen e then e ∷ seen earlier else seen earlier

-- the abstract task that a whole run shows at a cut
abbrev pub read : Whole → Abstract
read w = record { cell = reading w.machine; frames = frames w.machine.parties w.stack; told = seen w.machine.trace }

-- Wherever a whole run may be cut, the moves that it made are a run of the abstract task, which leads to the reading.
abbrev pub WholeRunsAgree : Type 0
WholeRunsAgree =
    (limit : ℕ) (steps : List Step) (w : Whole) → whole limit steps ≡ Some w → w.cut ≡ true → all_moved limit w.moves ≡ Some (read w)
