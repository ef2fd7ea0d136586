use Rattle.task_atomic.proofs.Tables.{cancels_again_refused}
use Rattle.task_atomic.proofs.wrong_table.Goals as goal

pub returns : goal.returns
returns c = record { cancels_again = cancels_again_refused }
