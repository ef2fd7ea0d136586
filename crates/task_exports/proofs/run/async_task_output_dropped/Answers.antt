use Rattle.task_cell.proofs.Vocabulary.{[], ◌∷◌, OfRun, DropOutput, act}
use Rattle.task_exports.specs.Answers.{GoesOn}
use Rattle.task_exports.proofs.Along.{along}
use Rattle.task_exports.proofs.run.async_task_output_dropped.Goals as goal

pub returns-clause-path : goal.returns-clause-path
returns-clause-path c = along (λ x k. GoesOn OfRun c.args.due (act DropOutput ∷ []) x k c.drop_output-hand.result.1) _ _ _ _ c.take.ensures.0 c.put.ensures.0 c.drop_output-hand.ensures
