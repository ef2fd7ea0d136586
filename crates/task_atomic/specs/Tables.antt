-- A table of moves that differs from the machine's own in one row: the laws hold by it, and a call is no single act.
use Rattle.std.specs.Prelude.{◌≡◌, ℕ, List, [], Some}
use Rattle.task_core.specs.Rows.{found}
use Rattle.task_core.specs.declared.acts.Act.TheVariants.{CancelOver}
use Rattle.task_laws.specs.declared.positions.Position.TheVariants.{CallEnding}
use Rattle.task_laws.specs.declared.positions.Answer.TheVariants.{Nothing}
use Rattle.task_laws.specs.declared.positions.Rest.TheVariants.{Task}
use Rattle.task_laws.specs.Machine.{Machine, Step}
use Rattle.task_laws.specs.Table.{leaves_slots, where_found, rule}
use Rattle.task_laws.specs.Theorem.{Laws}
use Rattle.task_progress.specs.Tables.{Table, DiffersIn, run_by}
use Rattle.task_atomic.specs.Calls.{CallsMakeTheirActs}

-- a cancel that has closed the task cancels it again before it answers
abbrev pub cancels_again : Table
cancels_again s CancelOver (CallEnding Nothing (Task n)) =
    where_found (found s.limit CancelOver s.word) (Some (leaves_slots s s.word (CallEnding Nothing (Task n)) [] []))
cancels_again s act p = rule s act p

-- this table differs in one row and keeps all laws; but its cancel acts more than once
pub record CancelsAgain : Type 0 where
  pub one_row : DiffersIn CancelOver cancels_again
  pub laws_hold : (limit : ℕ) (steps : List Step) (m : Machine) → run_by cancels_again limit steps ≡ Some m → Laws m
  pub refused : ¬ (CallsMakeTheirActs cancels_again)
