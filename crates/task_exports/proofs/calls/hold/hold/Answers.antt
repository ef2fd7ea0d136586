use Rattle.task_exports.proofs.HoldCall.{is_held}
use Rattle.task_exports.proofs.calls.hold.hold.Goals as goal

pub returns-in-12-clause-hold : goal.returns-in-12-clause-hold
returns-in-12-clause-hold c = is_held _ _ _ c.async_task_hold.ensures.answer c.in-12.is
