use Rattle.task_atomic.proofs.Deeds.{deeds_are_steps}
use Rattle.task_atomic.proofs.Paths.{paths_are_acts}
use Rattle.task_atomic.proofs.calls.Goals as goal

pub returns : goal.returns
returns g c = record { deeds = deeds_are_steps; paths = λ spawned cell around. paths_are_acts }
