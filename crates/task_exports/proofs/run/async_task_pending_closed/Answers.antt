use Rattle.task_cell.proofs.Vocabulary.{◌≡◌, true, [], ◌∷◌, State, OfRun, EndClosed, row}
use Rattle.task_exports.specs.Answers.{GoesOn}
use Rattle.task_exports.proofs.Along.{along}
use Rattle.task_exports.proofs.run.async_task_pending_closed.Goals as goal

pub returns-clause-path : goal.returns-clause-path
returns-clause-path c = along (λ x k. (w : State) × (w.closed ≡ true) × GoesOn OfRun w.awaiter (row EndClosed w ∷ []) x k c.end_closed-hand.result.1) _ _ _ _ c.take.ensures.0 c.put.ensures.0 c.end_closed-hand.ensures
