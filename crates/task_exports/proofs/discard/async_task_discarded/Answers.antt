use Rattle.task_cell.proofs.Vocabulary.{[], ◌∷◌, State, OfDrop, Unschedule, row}
use Rattle.task_exports.specs.Answers.{GoesOn}
use Rattle.task_exports.proofs.Along.{along}
use Rattle.task_exports.proofs.discard.async_task_discarded.Goals as goal

pub returns-clause-path : goal.returns-clause-path
returns-clause-path c = along (λ x k. (w : State) × GoesOn OfDrop w.awaiter (row Unschedule w ∷ []) x k c.discarded-hand.result.1) _ _ _ _ c.take.ensures.0 c.put.ensures.0 c.discarded-hand.ensures
