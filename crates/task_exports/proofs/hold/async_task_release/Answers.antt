use Rattle.task_exports.proofs.Ending.{tells_end}
use Rattle.task_exports.proofs.hold.async_task_release.Goals as goal

pub returns-clause-answer : goal.returns-clause-answer
returns-clause-answer c = tells_end _ _ c.told.ensures
