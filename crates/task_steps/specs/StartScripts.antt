-- The acts that the steps make by which a run starts.
use Rattle.std.specs.Prelude.{false, List, [], ◌∷◌}
use Rattle.task_core.specs.Word.{State}
use Rattle.task_core.specs.Rows.{found}
use Rattle.task_core.specs.declared.acts.Act.{Act}
use Rattle.task_core.specs.declared.acts.Act.TheVariants.{TakeUpClosed, DropFuture, StartRun, StartPoll}
use Rattle.task_steps.specs.Attempt.{Attempt, only}

-- a closed task is taken up: its future is dropped next
abbrev pub taking_up_closed : State → List Act
taking_up_closed w = TakeUpClosed ∷ DropFuture ∷ []

-- an open task is taken up: the run starts, and its poll
abbrev pub to_start_run : Attempt (Unit {0})
to_start_run = record {
  applies = λ limit w. found 0 StartRun w;
  row = only;
  acts = λ row. StartRun ∷ StartPoll ∷ [];
  counts = λ row. false;
  lasts = λ row. false;
  ends = λ limit w. w.closed;
  acts_at_end = taking_up_closed;
}
