use Rattle.task_steps.specs.Values.{values_of}
use Rattle.task_atomic.proofs.NextDeeds.{deeds_are_acts}
use Rattle.task_atomic.proofs.CodeCalls.{calls_are_acts, cells_are_runs}
use Rattle.task_atomic.proofs.Explained.{witnesses_explain}
use Rattle.task_atomic.proofs.code.Goals as goal

pub returns : goal.returns
returns g c = record { cells = λ spawned. cells_are_runs _ _ g.row.A.Denot (values_of g.F.Yields spawned); deeds = deeds_are_acts; calls = calls_are_acts; witnesses = witnesses_explain }
