use Rattle.task_steps.specs.Standing.{as_ended}
use Rattle.task_cell.specs.Calls.{Did}
use Rattle.task_exports.specs.Hands.{IsGone}
use Rattle.task_exports.specs.Answers.{empties}
use Rattle.task_exports.proofs.Along.{along}
use Rattle.task_exports.proofs.ends.async_task_empty.Goals as goal

pub returns-clause-path : goal.returns-clause-path
returns-clause-path c = along (λ x k. IsGone k × Did (empties c.args.took) as_ended x.party k.party) _ _ _ _ c.take.ensures.0 c.put.ensures.0 c.empty-hand.ensures.path
