use Rattle.local_task.proofs.LocalSound.{calls-sound}
use Rattle.local_task.proofs.task.laws.Goals as goal

pub returns : goal.returns
returns g c = record { calls = calls-sound _ }
