use Rattle.task_steps.specs.Values.{values_of}
use Rattle.task_steps.proofs.Left.{empty_at_close}
use Rattle.task_steps.proofs.laws.Goals as goal

pub returns : goal.returns
returns g c = record { empty = λ spawned. empty_at_close _ _ g.row.A.Denot (values_of g.F.Yields spawned) }
