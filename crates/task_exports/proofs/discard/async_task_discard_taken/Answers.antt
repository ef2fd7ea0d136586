use Rattle.task_cell.proofs.Vocabulary.{ℕ, Option}
use Rattle.task_exports.specs.Answers.{Discarded}
use Rattle.task_exports.proofs.Along.{along}
use Rattle.task_exports.proofs.discard.async_task_discard_taken.Goals as goal

pub returns-clause-path : goal.returns-clause-path
returns-clause-path c = along (λ x k. (awaiter : Option ℕ) × Discarded x k awaiter c.discard_taken-hand.result.1) _ _ _ _ c.take.ensures.0 c.put.ensures.0 c.discard_taken-hand.ensures
