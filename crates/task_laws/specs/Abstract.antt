-- 13 of 16: the abstract task of a cell, and its calls, in segments that end where foreign code may make calls.
use Rattle.std.specs.Prelude.{ℕ, ◌+◌, Bool, true, false, not, ◌&&◌, nat_lt, if◌then◌else◌, List, [], ◌∷◌, ◌++◌, Option, Some, None}
use Rattle.task_core.specs.Word.{bit}
use Rattle.task_laws.specs.Event.{PollAnswer, IsPending, IsClosed, HasOutput, IsRefused, Answer, Nothing, Ran, Gained, Finished, Event}
use Rattle.task_laws.specs.Event.{FutureDropped, OutputTaken, OutputDropped, HandedOver, Empties, TaskPollEnds, Woken, CloneEnded, CallEnds}
use Rattle.task_core.specs.Local.{Done, NoAwaiter, Due, Local, Effect, becomes, due, stored, without_due, none_left, empties_if, polls}
use Rattle.task_core.specs.Local.{dropped_unpolled, settles_ready, settles_pending, wakes, loses_waker, cancels_at, detaches_at, is_done}
use Rattle.task_core.specs.Local.{gives_output, finished, opening_task}

-- the abstract task of a cell: future and output are tokens, an awaiter is the number of its poll
abbrev pub PlainTask : Type 0
PlainTask = Local (Unit {0}) (Unit {0}) ℕ

-- what a call makes of it, and hands out
abbrev pub PlainEffect : Type 0
PlainEffect = Effect (Unit {0}) (Unit {0}) ℕ

-- the task as a cell has it, also in the middle of a call
pub record AbstractCell : Type 0 where
  pub task : PlainTask
  pub held : Bool  -- a Runnable, or the run or the drop that took it up, has not given up its reference
  pub storing : Bool  -- the open poll of the Task drops the old awaiter
  pub owed : Bool  -- the wake of its new one fell due meanwhile

-- the calls of the handles
pub data Call : Type 0 where
  Run DropRunnable Schedule Wake DropWaker Cancel Detach IsFinished : Call
  Lend : Call  -- a waker is lent to a call by reference
  Gain : Bool → Call  -- whether memory was refused
  Poll : ℕ → Call  -- the number of the poll

-- what is left of a call, once foreign code has returned
pub data Frame : Type 0 where
  InPoll : Frame  -- the future's poll
  RunDropped DropDropped ReadyDropped PendingDropped : Frame  -- the future's drop
  Takes Detaches : Frame  -- the output's drop
  GivesUp : Answer → Frame
  TakesOfCancel : Frame  -- a Runnable handed over
  Ends : Answer → Frame
  Clones : ℕ → Frame  -- the clone of an awaiter
  Stores : ℕ → Frame  -- the old awaiter's drop
  Looks : ℕ → Frame  -- the new awaiter's wake
  Asks : ℕ → PollAnswer → ℕ → Frame  -- `will_wake` of that awaiter
  Answers : ℕ → PollAnswer → Frame

-- a segment: the cell after it, what is told of it, newest first, and what is left of the call
pub record SegmentEnd : Type 0 where
  pub cell : AbstractCell
  pub told : List Event
  pub frame : Option Frame

-- a segment ends at a mark
abbrev pub stops : AbstractCell → List Event → Frame → SegmentEnd
stops c told f = record { cell = c; told = told; frame = Some f }

-- a segment ends with its call; a call that answers nothing tells nothing
abbrev pub answered : Answer → List Event → List Event
answered Nothing told = told
answered answer told = CallEnds answer ∷ told

-- the segment that ends with its call
abbrev pub ends : AbstractCell → List Event → Answer → SegmentEnd
ends c told answer = record { cell = c; told = answered answer told; frame = None }

-- the cell, with this task in it
abbrev pub with_task : AbstractCell → PlainTask → AbstractCell
with_task c t = record c { task = t }

-- an awaiter's clone ended by its wake
abbrev pub woken : ℕ → List Event → List Event
woken i told = CloneEnded i ∷ (Woken i ∷ told)

-- where nobody is left the cell is emptied, and a stored awaiter dropped
abbrev pub ended : Option ℕ → List Event → List Event
ended (Some i) told = CloneEnded i ∷ told
ended None told = told

-- what is told of the emptying, where it happened
abbrev pub told_emptied : PlainEffect → List Event → List Event
told_emptied r told = if r.emptied then Empties ∷ ended r.dropped told else told

-- the task, emptied where nobody is left
abbrev pub emptied : AbstractCell → PlainEffect
emptied c = empties_if (none_left c.held c.task) (becomes c.task)

-- the call ends, and empties the cell where nobody is left
abbrev pub empties : AbstractCell → List Event → Answer → SegmentEnd
empties c told answer = ends (with_task c (emptied c).task) (told_emptied (emptied c) told) answer

-- the call ends, and wakes the awaiter in hand last
abbrev pub wakes_last : AbstractCell → Option ℕ → List Event → Answer → SegmentEnd
wakes_last c (Some i) told answer = stops c (woken i told) (Ends answer)
wakes_last c None told answer = ends c told answer

-- the cell is emptied where nobody is left, and then the awaiter in hand is woken
abbrev pub gives_up_held : AbstractCell → Option ℕ → List Event → Answer → SegmentEnd
gives_up_held c hand told answer = wakes_last (with_task c (emptied c).task) hand (told_emptied (emptied c) told) answer

-- the Runnable's handle is given up
abbrev pub gives_up : AbstractCell → Option ℕ → List Event → Answer → SegmentEnd
gives_up c hand told answer = gives_up_held (record c { held = false }) hand told answer

-- a due awaiter is taken, or its wake is owed by the Task
abbrev pub takes_due : AbstractCell → AbstractCell
takes_due c = if c.storing then record c { owed = true } else record c { task = record (c.task) { awaiter = without_due c.task.awaiter } }

-- the due awaiter in hand, to be woken
abbrev pub in_hand : AbstractCell → Option ℕ
in_hand c = if c.storing then None else due c.task.awaiter

-- the end of a run: the awaiter is taken, the handle given up, the awaiter woken
abbrev pub takes_and_gives_up : AbstractCell → List Event → SegmentEnd
takes_and_gives_up c told = gives_up (takes_due c) (in_hand c) told (Ran false)

-- a row that may queue the task: its Runnable is handed over
abbrev pub hands_over : AbstractCell → PlainEffect → Option Bool → List Event → Frame → SegmentEnd → SegmentEnd
hands_over c r (Some woken) told f otherwise = stops (record c { task = r.task; held = true }) (HandedOver woken ∷ told) f
hands_over c r None told f otherwise = otherwise

-- whether an awaiter is due
abbrev pub is_due : Option ℕ → Bool
is_due (Some i) = true
is_due None = false

-- the end of a cancel, which wakes the awaiter that it took
abbrev pub cancel_takes : AbstractCell → Option ℕ → SegmentEnd
cancel_takes c (Some i) = stops c (woken i []) (Ends Nothing)
cancel_takes c None = ends c [] Nothing

-- a cancel closes a task that is not over, and hands a Runnable over where it was idle
abbrev pub cancels : AbstractCell → SegmentEnd
cancels c =
    if finished c.task then ends c [] Nothing
    else (let r = cancels_at c.task.phase c.task in
    hands_over c r r.queue [] (if is_due (due c.task.awaiter) then TakesOfCancel else Ends Nothing)
    (cancel_takes (takes_due (with_task c r.task)) (in_hand c)))

-- `detach`, once an output was dropped
abbrev pub detaches : AbstractCell → List Event → SegmentEnd
detaches c told =
    let r = detaches_at c.task.phase c.task in
    hands_over c r r.queue told (Ends Nothing) (empties (with_task c r.task) told Nothing)

-- a poll of the Task answers
abbrev pub answer_events : ℕ → PollAnswer → List Event
answer_events i HasOutput = TaskPollEnds i HasOutput ∷ OutputTaken ∷ []
answer_events i answer = TaskPollEnds i answer ∷ []

-- the segment by which a poll of the Task ends
abbrev pub answers : AbstractCell → List Event → ℕ → PollAnswer → SegmentEnd
answers c told i answer = record { cell = c; told = answer_events i answer ++ told; frame = None }

-- the segment of a poll that finds an awaiter stored, of which `will_wake` is asked first
abbrev pub asks : AbstractCell → ℕ → PollAnswer → Option ℕ → SegmentEnd
asks c i answer (Some j) = stops c [] (Asks i answer j)
asks c i answer None = answers c [] i answer

-- a poll of a task that is done
abbrev pub reads : AbstractCell → ℕ → SegmentEnd
reads c i =
    asks (with_task c (record ((gives_output c.task).task) { awaiter = NoAwaiter })) i (if c.task.closed then IsClosed else HasOutput)
    (stored c.task.awaiter)

-- a poll that has registered looks again
abbrev pub looks : AbstractCell → ℕ → SegmentEnd
looks c i = if is_done c.task.phase then reads c i else answers c [] i IsPending

-- the clone is stored, and an older awaiter dropped
abbrev pub stores : AbstractCell → ℕ → Option ℕ → SegmentEnd
stores c i (Some old) = stops (record c { storing = true }) (CloneEnded old ∷ []) (Stores i)
stores c i None = looks c i

-- whether a run has queued its task again
abbrev pub is_again : Option Bool → Bool
is_again (Some woken) = woken
is_again None = false

-- a run that answered Pending ends
abbrev pub settles : AbstractCell → PlainEffect → SegmentEnd
settles c r = hands_over c r r.queue [] (Ends (Ran (is_again r.queue))) (ends (record c { task = r.task; held = false }) [] (Ran false))

-- a call begins
abbrev pub begin : ℕ → AbstractCell → Call → SegmentEnd
begin limit c Run = if c.task.closed then stops c (FutureDropped ∷ []) RunDropped else stops (with_task c (polls c.task)) [] InPoll
begin limit c DropRunnable = stops (with_task c (record (c.task) { closed = true })) (FutureDropped ∷ []) DropDropped
begin limit c Schedule = stops c (HandedOver false ∷ []) (Ends Nothing)
begin limit c Wake = let r = wakes c.task in hands_over c r r.queue [] (Ends Nothing) (ends (with_task c r.task) [] Nothing)
begin limit c Lend = ends c [] Nothing
begin limit c (Gain refused) =
    if not refused && nat_lt (c.task.wakers + bit c.held) limit
    then ends (with_task c (record (c.task) { wakers = c.task.wakers + 1 })) [] (Gained true)
    else ends c [] (Gained false)
begin limit c DropWaker = let r = loses_waker c.task in hands_over c r r.queue [] (Ends Nothing) (empties (with_task c r.task) [] Nothing)
begin limit c Cancel = cancels c
begin limit c Detach =
    if is_done c.task.phase && not c.task.closed then stops (with_task c (gives_output c.task).task) (OutputDropped ∷ []) Detaches
    else detaches c []
begin limit c IsFinished = ends c [] (Finished (finished c.task))
begin limit c (Poll i) = if is_done c.task.phase then reads c i else stops c [] (Clones i)

-- the drop of a Runnable wakes before it gives up
abbrev pub wakes_first : AbstractCell → Option ℕ → SegmentEnd
wakes_first c (Some i) = stops c (woken i []) (GivesUp Nothing)
wakes_first c None = gives_up c None [] Nothing

-- a call goes on, by what the foreign code answered: Ready, a clone, or that the wake is wanted
abbrev pub go : AbstractCell → Frame → Bool → SegmentEnd
go c InPoll true = stops c (FutureDropped ∷ []) ReadyDropped
go c InPoll false = if c.task.closed then stops c (FutureDropped ∷ []) PendingDropped else settles c (settles_pending tt c.task)
go c RunDropped _ = takes_and_gives_up (with_task c (dropped_unpolled c.task).task) []
go c DropDropped _ = let d = with_task c (dropped_unpolled c.task).task in wakes_first (takes_due d) (in_hand d)
go c ReadyDropped _ =
    let r = settles_ready tt c.task in
    if c.task.has_task && not c.task.closed then takes_and_gives_up (with_task c r.task) []
    else stops (with_task c r.task) (OutputDropped ∷ []) (if is_due (due c.task.awaiter) then Takes else GivesUp (Ran false))
go c PendingDropped _ = takes_and_gives_up (with_task c (record (c.task) { phase = Done })) []
go c Takes _ = takes_and_gives_up c []
go c Detaches _ = detaches c []
go c (GivesUp answer) _ = gives_up c None [] answer
go c TakesOfCancel _ = cancel_takes (takes_due c) (in_hand c)
go c (Ends answer) _ = ends c [] answer
go c (Clones i) false = answers c [] i IsRefused
go c (Clones i) true = stores (with_task c (record (c.task) { awaiter = Due i })) i (stored c.task.awaiter)
go c (Stores i) _ =
    if c.owed then stops (record c { task = record (c.task) { awaiter = NoAwaiter }; storing = false; owed = false }) (woken i []) (Looks i)
    else looks (record c { storing = false }) i
go c (Looks i) _ = looks c i
go c (Asks i answer j) wanted = stops c (if wanted then woken j [] else CloneEnded j ∷ []) (Answers i answer)
go c (Answers i answer) _ = answers c [] i answer

-- a run: calls that have not ended stand on a stack, and only the innermost goes on
pub data Move : Type 0 where
  Begin : Call → Move
  Go : Bool → Move

-- the abstract task within a run: its cell, its open calls, innermost first, and what was told, newest first
pub record Abstract : Type 0 where
  pub cell : AbstractCell
  pub frames : List Frame
  pub told : List Event

-- the frame of a call that has not ended stands on the stack
abbrev pub put : Option Frame → List Frame → List Frame
put (Some f) frames = f ∷ frames
put None frames = frames

-- the run after a segment: what is left of the call stands on the stack
abbrev pub follow : SegmentEnd → List Frame → List Event → Abstract
follow l frames told = record { cell = l.cell; frames = put l.frame frames; told = l.told ++ told }

-- the innermost open call goes on by what foreign code answered
abbrev pub continues : AbstractCell → List Frame → List Event → Bool → Option Abstract
continues c [] told answer = None
continues c (f ∷ frames) told answer = Some (follow (go c f answer) frames told)

-- the run after one move, where it may be made
abbrev pub moved : ℕ → Abstract → Move → Option Abstract
moved limit a (Begin call) = Some (follow (begin limit a.cell call) a.frames a.told)
moved limit a (Go answer) = continues a.cell a.frames a.told answer

-- the cell after a spawn
abbrev pub opening_cell : AbstractCell
opening_cell = record {
  task = opening_task tt;
  held = true;
  storing = false;
  owed = false;
}

-- one move more
abbrev pub then_moved : ℕ → Option Abstract → Move → Option Abstract
then_moved limit None move = None
then_moved limit (Some a) move = moved limit a move

-- newest move first
abbrev pub all_moved : ℕ → List Move → Option Abstract
all_moved limit [] = Some (record { cell = opening_cell; frames = []; told = [] })
all_moved limit (move ∷ earlier) = then_moved limit (all_moved limit earlier) move
