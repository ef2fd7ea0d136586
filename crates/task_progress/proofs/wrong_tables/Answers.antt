use Rattle.task_progress.proofs.Tables.{own_progresses, looks_again_refused, waits_refused}
use Rattle.task_progress.proofs.wrong_tables.Goals as goal

pub returns : goal.returns
returns c = record { own = own_progresses; looks_again = looks_again_refused; waits = waits_refused }
