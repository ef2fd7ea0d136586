use Rattle.task_cell.proofs.Vocabulary.{[], ◌∷◌, WakeAwaiter, act}
use Rattle.task_exports.specs.Answers.{GivesBack}
use Rattle.task_exports.proofs.Along.{along}
use Rattle.task_exports.proofs.discard.async_task_discard_woken.Goals as goal

pub returns-clause-path : goal.returns-clause-path
returns-clause-path c = along (λ x k. GivesBack (act WakeAwaiter ∷ []) x k c.discard_woken-hand.result.1) _ _ _ _ c.take.ensures.0 c.put.ensures.0 c.discard_woken-hand.ensures
