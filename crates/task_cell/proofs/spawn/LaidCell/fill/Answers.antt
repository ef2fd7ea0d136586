use Rattle.task_cell.proofs.Vocabulary.{ap}
use Rattle.task_cell.proofs.Spawned.{parts}
use Rattle.task_cell.proofs.spawn.LaidCell.fill.Goals as goal

pub split-task-requires-clause-allowed : goal.split-task-requires-clause-allowed
split-task-requires-clause-allowed g c = parts _ _ _ _ _ _ _ _ (ap (λ m. m.0) c.fill-first.ensures.seat.1)
