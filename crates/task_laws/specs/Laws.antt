-- 2 of 16: the laws, of a trace alone.
use Rattle.std.specs.Prelude.{◌≡◌, ℕ, ◌+◌, ◌≤◌, ◌⊎◌, Bool, true, false, not, ◌&&◌, ◌||◌, nat_lt, nat_eq, List, [], ◌∷◌, Option, Some, None}
use Rattle.task_core.specs.Word.{bit}
use Rattle.task_laws.specs.Event.{Event, FuturePollBegins, FuturePending, FutureReady, FutureDropped, OutputTaken, OutputDropped}
use Rattle.task_laws.specs.Event.{Made, BySpawn, ByWake, ByClosing, TakenUp, RunEnded, WakeStep, Completes, Closes, Empties}
use Rattle.task_laws.specs.Event.{TaskPollBegins, TaskPollEnds, IsPending, IsClosed, HasOutput, Cloned, Woken, CloneEnded}
use Rattle.task_laws.specs.Event.{WakerGained, WakerGivenUp, TaskGivenUp, CallBegins, CallEnds, is_event}

-- how many events of the trace pass
abbrev pub count : (Event → Bool) → List Event → ℕ
count p [] = 0
count p (e ∷ earlier) = bit (p e) + count p earlier

-- how often this event stands in the trace
abbrev pub how_often : Event → List Event → ℕ
how_often wanted trace = count (is_event wanted) trace

-- Each event of the trace meets the law, by what came before it.
abbrev pub Each : (Event → List Event → Type 0) → List Event → Type 0
Each Law [] = Unit {0}
Each Law (e ∷ earlier) = Law e earlier × Each Law earlier

-- tests of several events; the last line of each takes all others
abbrev pub is_future_answer : Event → Bool
is_future_answer FuturePending = true
is_future_answer FutureReady = true
is_future_answer _ = false

-- the output was handed out or dropped
abbrev pub is_output_end : Event → Bool
is_output_end OutputTaken = true
is_output_end OutputDropped = true
is_output_end _ = false

-- a Runnable was made
abbrev pub is_made : Event → Bool
is_made (Made by) = true
is_made _ = false

-- a call ended, with its answer
abbrev pub is_call_end : Event → Bool
is_call_end (CallEnds answer) = true
is_call_end (TaskPollEnds i answer) = true
is_call_end _ = false

-- a poll of the Task began
abbrev pub is_task_poll : Event → Bool
is_task_poll (TaskPollBegins i) = true
is_task_poll _ = false

-- neither completed nor closed
abbrev pub is_open_after : List Event → Bool
is_open_after trace = nat_eq (how_often Completes trace) 0 && nat_eq (how_often Closes trace) 0

-- each call that began has ended
abbrev pub no_call_is_left : List Event → Type 0
no_call_is_left trace = how_often CallBegins trace ≡ count is_call_end trace

-- a Runnable exists; a run or drop is unfinished
abbrev pub runnable_exists : List Event → Bool
runnable_exists trace = nat_lt (how_often TakenUp trace) (count is_made trace)

-- a run or a Runnable's drop has begun, and has not ended
abbrev pub is_unfinished : List Event → Bool
is_unfinished trace = nat_lt (how_often RunEnded trace) (how_often TakenUp trace)

-- One poller.

-- a Runnable was taken up once the task was closed
abbrev pub taken_up_closed : List Event → Bool
taken_up_closed [] = false
taken_up_closed (TakenUp ∷ earlier) = nat_lt 0 (how_often Closes earlier) || taken_up_closed earlier
taken_up_closed (_ ∷ earlier) = taken_up_closed earlier

-- when a poll of the future may begin
pub record MayBegin (earlier : List Event) : Type 0 where
  pub all_answered : how_often FuturePollBegins earlier ≡ count is_future_answer earlier
  pub none_ready : how_often FutureReady earlier ≡ 0
  pub not_dropped : how_often FutureDropped earlier ≡ 0
  pub not_taken_up_closed : taken_up_closed earlier ≡ false

-- when a poll of the future may answer, and the future be dropped; the last line asks nothing of other events
abbrev pub MayPoll : Event → List Event → Type 0
MayPoll FuturePollBegins earlier = MayBegin earlier
MayPoll FuturePending earlier = how_often FuturePollBegins earlier ≡ count is_future_answer earlier + 1
MayPoll FutureReady earlier = how_often FuturePollBegins earlier ≡ count is_future_answer earlier + 1
MayPoll FutureDropped earlier = how_often FuturePollBegins earlier ≡ count is_future_answer earlier
MayPoll _ earlier = Unit {0}

-- one Runnable or run at a time, and no poll within another, or of a future that was ready, dropped or found closed
pub record OnePoller (trace : List Event) : Type 0 where
  pub not_below : how_often RunEnded trace ≤ count is_made trace
  pub not_above : count is_made trace ≤ how_often RunEnded trace + 1
  pub polls : Each MayPoll trace

-- Each ends once.
pub record EachEndsOnce (trace : List Event) : Type 0 where
  pub future_once : how_often FutureDropped trace ≤ 1
  pub emptied_once : how_often Empties trace ≤ 1
  pub outputs : count is_output_end trace ≤ how_often FutureReady trace
  pub clones : (i : ℕ) → (how_often (CloneEnded i) trace ≤ how_often (Cloned i) trace) × (how_often (Cloned i) trace ≤ 1)

-- no handle and no call is left
pub record NobodyIsLeft (trace : List Event) : Type 0 where
  pub runnables : count is_made trace ≡ how_often TakenUp trace
  pub wakers : how_often WakerGained trace ≡ how_often WakerGivenUp trace
  pub task : how_often TaskGivenUp trace ≡ 1
  pub calls : no_call_is_left trace

-- what there was to end has ended
pub record AllEnded (trace : List Event) : Type 0 where
  pub future : how_often FutureDropped trace ≡ 1
  pub emptied : how_often Empties trace ≡ 1
  pub outputs : count is_output_end trace ≡ how_often FutureReady trace
  pub clones : (i : ℕ) → how_often (CloneEnded i) trace ≡ how_often (Cloned i) trace

-- No wake is lost. The last wake accepted has no later taking up, completed or closed.
abbrev pub wake_is_due : List Event → Bool
wake_is_due [] = false
wake_is_due (WakeStep ∷ earlier) = is_open_after earlier || wake_is_due earlier
wake_is_due (TakenUp ∷ earlier) = false
wake_is_due (Completes ∷ earlier) = false
wake_is_due (Closes ∷ earlier) = false
wake_is_due (_ ∷ earlier) = wake_is_due earlier

-- a due wake has a Runnable, or a run or drop that is not over; where no call is left it has a Runnable
pub record NoWakeLost (trace : List Event) : Type 0 where
  pub served : wake_is_due trace ≡ true → (runnable_exists trace || is_unfinished trace) ≡ true
  pub queued : wake_is_due trace ≡ true → no_call_is_left trace → runnable_exists trace ≡ true

-- No awaiter is lost.

-- the last poll of the Task that was not refused, if it answered Pending
abbrev pub pending_poll : List Event → Option ℕ
pending_poll [] = None
pending_poll (TaskPollEnds i IsPending ∷ earlier) = Some i
pending_poll (TaskPollEnds i IsClosed ∷ earlier) = None
pending_poll (TaskPollEnds i HasOutput ∷ earlier) = None
pending_poll (_ ∷ earlier) = pending_poll earlier

-- the awaiter of poll i was woken after that poll began
abbrev pub was_woken : ℕ → List Event → Bool
was_woken i [] = false
was_woken i (Woken j ∷ earlier) = nat_eq i j || was_woken i earlier
was_woken i (TaskPollBegins j ∷ earlier) = not (nat_eq i j) && was_woken i earlier
was_woken i (_ ∷ earlier) = was_woken i earlier

-- a poll of the Task answers ready only once the future was dropped; the last line asks nothing of other events
abbrev pub MayAnswer : Event → List Event → Type 0
MayAnswer (TaskPollEnds i IsClosed) earlier = 1 ≤ how_often FutureDropped earlier
MayAnswer (TaskPollEnds i HasOutput) earlier = 1 ≤ how_often FutureDropped earlier
MayAnswer _ earlier = Unit {0}

-- while the Task is there and no call is left, the awaiter of its last pending poll was woken, if the task has completed or dropped its future
pub record NoAwaiterLost (trace : List Event) : Type 0 where
  pub woken : (i : ℕ) → no_call_is_left trace → how_often TaskGivenUp trace ≡ 0 → pending_poll trace ≡ Some i →
      (1 ≤ how_often Completes trace) ⊎ (1 ≤ how_often FutureDropped trace) → was_woken i trace ≡ true
  pub ready : Each MayAnswer trace

-- Runnables are made one for each reason.

-- a wake was accepted since the last taking up
abbrev pub woken_since_taking_up : List Event → Bool
woken_since_taking_up [] = false
woken_since_taking_up (TakenUp ∷ earlier) = false
woken_since_taking_up (WakeStep ∷ earlier) = is_open_after earlier || woken_since_taking_up earlier
woken_since_taking_up (_ ∷ earlier) = woken_since_taking_up earlier

-- a wake now would be fresh: the task is open, no Runnable exists, and the run or drop that is unfinished was not woken yet
abbrev pub is_fresh_after : List Event → Bool
is_fresh_after earlier =
    is_open_after earlier && not (runnable_exists earlier) && not (is_unfinished earlier && woken_since_taking_up earlier)

-- how many wakes were fresh
abbrev pub fresh_wakes : List Event → ℕ
fresh_wakes [] = 0
fresh_wakes (WakeStep ∷ earlier) = bit (is_fresh_after earlier) + fresh_wakes earlier
fresh_wakes (_ ∷ earlier) = fresh_wakes earlier

-- a Runnable is made once by the spawn, once at most by each fresh wake, and once at most as the task is closed
pub record MakingsCounted (trace : List Event) : Type 0 where
  pub by_spawn : how_often (Made BySpawn) trace ≡ 1
  pub by_wakes : how_often (Made ByWake) trace ≤ fresh_wakes trace
  pub by_closing : how_often (Made ByClosing) trace ≤ 1
