use Rattle.task_atomic.proofs.Lists.{calls_are_runs}
use Rattle.task_atomic.proofs.runs.Goals as goal

pub returns : goal.returns
returns g c = record { calls = calls_are_runs }
