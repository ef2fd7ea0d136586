-- 16 of 16: the task of one thread as the abstract task of a cell. Each of its rows is a call that is made alone.
use Rattle.std.specs.Prelude.{◌≡◌, ℕ, Bool, true, false, not, ◌&&◌, if◌then◌else◌, List, [], ◌∷◌, ◌++◌, Option, Some, None}
use Rattle.task_core.specs.declared.traits.Poll.TheVariants.{Pending, Ready}
use Rattle.task_core.specs.declared.traits.TaskPoll.{TaskPoll}
use Rattle.task_core.specs.declared.traits.TaskPoll.TheVariants as answer
use Rattle.task_laws.specs.Event.{IsPending, IsClosed, HasOutput, IsRefused, PollAnswer, Ran, Gained, Finished, Event, FutureDropped}
use Rattle.task_laws.specs.Event.{OutputDropped, HandedOver, Empties, CallEnds}
use Rattle.task_core.specs.Local.{Queued, holds_reference, is_done, finished}
use Rattle.task_core.specs.Local
use Rattle.task_laws.specs.Abstract.{PlainTask, PlainEffect, AbstractCell, Call, InPoll, SegmentEnd, ended, woken, is_again, answer_events}
use Rattle.task_laws.specs.Abstract.{begin, go}
use Rattle.task_laws.specs.Abstract
use Rattle.task_laws.specs.Whole.{one_if}
use Rattle.task_laws.specs.WholeCalls.{alone}

-- a poll of the Task, as its row answers it
abbrev pub PlainAnswered : Type 0
PlainAnswered = Local.Answered (Unit {0}) (Unit {0}) ℕ

-- the task, as a cell at which no call is open
abbrev pub cell_of : PlainTask → AbstractCell
cell_of t = record { task = t; held = holds_reference t.phase; storing = false; owed = false }

-- what is handed out, as events: each function adds to what was told before
abbrev pub tells_future : Option (Unit {0}) → List Event → List Event
tells_future (Some future) told = FutureDropped ∷ told
tells_future None told = told

-- an output that was handed out is dropped
abbrev pub tells_output : Option (Unit {0}) → List Event → List Event
tells_output (Some output) told = OutputDropped ∷ told
tells_output None told = told

-- a Runnable is handed over
abbrev pub tells_queue : Option Bool → List Event → List Event
tells_queue (Some woken) told = HandedOver woken ∷ told
tells_queue None told = told

-- the cell is emptied, and a stored awaiter dropped
abbrev pub tells_dropped : PlainEffect → List Event → List Event
tells_dropped e told = if e.emptied then Empties ∷ ended e.dropped told else ended e.dropped told

-- an awaiter is woken
abbrev pub tells_wake : Option ℕ → List Event → List Event
tells_wake (Some i) told = woken i told
tells_wake None told = told

-- all of it, in the order of all calls but the drop of a Runnable, which wakes the awaiter before it gives its handle up
abbrev pub tells : PlainEffect → List Event
tells e = tells_wake e.wake (tells_dropped e (tells_queue e.queue (tells_output e.output (tells_future e.future []))))

-- all of it, in the order of a Runnable's drop
abbrev pub tells_of_drop : PlainEffect → List Event
tells_of_drop e = tells_dropped e (tells_wake e.wake (tells_future e.future []))

-- what foreign code answers at the marks of a call, which are four at most
pub record Answers : Type 0 where
  pub first : Bool
  pub second : Bool
  pub third : Bool
  pub fourth : Bool

-- these answers, the first one first
abbrev pub in_order : Answers → List Bool
in_order a = a.first ∷ (a.second ∷ (a.third ∷ (a.fourth ∷ [])))

-- a call that is made alone, and one call after another
abbrev pub made_alone : ℕ → PlainTask → Call → Answers → SegmentEnd
made_alone limit t call a = alone (begin limit (cell_of t) call) (in_order a)

-- a call that is made alone after another
abbrev pub after_another : ℕ → SegmentEnd → Call → Answers → SegmentEnd
after_another limit l call a = let next = alone (begin limit l.cell call) (in_order a) in record next { told = next.told ++ l.told }

-- the call has ended with this task, and this was told of it
abbrev pub leaves : PlainTask → List Event → SegmentEnd
leaves t told = record { cell = cell_of t; told = told; frame = None }

-- the poll of number i: where the task is done the caller's awaiter may be compared, else it is cloned or refused
abbrev pub polled : Bool → ℕ → PlainTask → PlainAnswered
polled wanted i t = if is_done t.phase then Local.claims (not wanted) t else Local.registers (if wanted then Some i else None) t

-- what a row answers, as the trace tells it
abbrev pub told_answer : TaskPoll (Option (Unit {0})) → PollAnswer
told_answer (answer.Ready (Some output)) = HasOutput
told_answer (answer.Ready None) = IsClosed
told_answer answer.Pending = IsPending
told_answer answer.Refused = IsRefused

-- what a poll of the Task tells: what it hands out, and its answer
abbrev pub tells_poll : ℕ → PlainAnswered → List Event
tells_poll i r = answer_events i (told_answer r.answer) ++ tells r.effect

-- the output is there exactly where the task is done and open
abbrev pub HasItsOutput : PlainTask → Type 0
HasItsOutput t = t.output ≡ one_if (is_done t.phase && not t.closed)

-- Each call, made alone, is its row.
pub record RowsAgree (limit : ℕ) (t : PlainTask) (a : Answers) : Type 0 where
  -- a run is `start`, and then `settle` with what the future answered
  pub run_closed : (e : PlainEffect) → Local.starts t ≡ Local.IsEnded e → t.future ≡ Some tt
      → made_alone limit t Abstract.Run a ≡ leaves e.task (CallEnds (Ran false) ∷ tells e)
  pub run_starts : (e : PlainEffect) → Local.starts t ≡ Local.IsPolled e
      → begin limit (cell_of t) Abstract.Run ≡ record { cell = cell_of e.task; told = []; frame = Some InPoll }
  pub run_ready : Local.is_started t.phase ≡ true
      → let e = Local.settles tt (Ready tt) t in
      alone (go (cell_of t) InPoll true) (in_order a) ≡ leaves e.task (CallEnds (Ran false) ∷ tells e)
  pub run_pending : Local.is_started t.phase ≡ true
      → let e = Local.settles tt Pending t in
      alone (go (cell_of t) InPoll false) (in_order a) ≡ leaves e.task (CallEnds (Ran (is_again e.queue)) ∷ tells e)
  -- a Runnable is dropped, or handed over
  pub drop_runnable : t.phase ≡ Queued → t.future ≡ Some tt
      → let e = Local.discards t in made_alone limit t Abstract.DropRunnable a ≡ leaves e.task (tells_of_drop e)
  pub schedule : made_alone limit t Abstract.Schedule a ≡ leaves t (HandedOver false ∷ [])
  -- wakers; a wake by value is a wake and then the waker's drop
  pub gain : made_alone limit t (Abstract.Gain false) a
      ≡ leaves (Local.gains_waker limit t).task (CallEnds (Gained (Local.has_room limit t)) ∷ [])
  pub refuse_gain : made_alone limit t (Abstract.Gain true) a ≡ leaves t (CallEnds (Gained false) ∷ [])
  pub wake : let e = Local.wakes t in made_alone limit t Abstract.Wake a ≡ leaves e.task (tells e)
  pub drop_waker : let e = Local.drops_waker t in made_alone limit t Abstract.DropWaker a ≡ leaves e.task (tells e)
  pub wake_by_value : let e = Local.wakes t in let d = Local.drops_waker e.task in
      after_another limit (made_alone limit t Abstract.Wake a) Abstract.DropWaker a ≡ leaves d.task (tells d ++ tells e)
  -- the Task; its drop is a cancel and then a detach, and the first poll of a Cancel is a cancel and then a poll
  pub cancel : let e = Local.cancels t in made_alone limit t Abstract.Cancel a ≡ leaves e.task (tells e)
  pub detach : HasItsOutput t → let e = Local.detaches t in made_alone limit t Abstract.Detach a ≡ leaves e.task (tells e)
  pub drop_task : HasItsOutput t
      → let e = Local.cancels t in let d = Local.detaches e.task in
      after_another limit (made_alone limit t Abstract.Cancel a) Abstract.Detach a ≡ leaves d.task (tells d ++ tells e)
  pub is_finished : made_alone limit t Abstract.IsFinished a ≡ leaves t (CallEnds (Finished (finished t)) ∷ [])
  pub poll : (i : ℕ) → HasItsOutput t
      → let r = polled a.first i t in made_alone limit t (Abstract.Poll i) a ≡ leaves r.effect.task (tells_poll i r)
  pub cancel_and_poll : (i : ℕ) → HasItsOutput t
      → let e = Local.cancels t in let r = polled a.first i e.task in
      after_another limit (made_alone limit t Abstract.Cancel a) (Abstract.Poll i) a ≡ leaves r.effect.task (tells_poll i r ++ tells e)

-- for every limit, task and answers
abbrev pub EachRowAgrees : Type 0
EachRowAgrees = (limit : ℕ) (t : PlainTask) (a : Answers) → RowsAgree limit t a
