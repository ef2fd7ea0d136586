use Rattle.task_cell.proofs.Vocabulary.{[], ◌∷◌, State, OfRun, Unschedule, row}
use Rattle.task_exports.specs.Answers.{GoesOn}
use Rattle.task_exports.proofs.Along.{along}
use Rattle.task_exports.proofs.run.async_task_run_closed.Goals as goal

pub returns-clause-path : goal.returns-clause-path
returns-clause-path c = along (λ x k. (w : State) × GoesOn OfRun w.awaiter (row Unschedule w ∷ []) x k c.run_closed-hand.result.1) _ _ _ _ c.take.ensures.0 c.put.ensures.0 c.run_closed-hand.ensures
