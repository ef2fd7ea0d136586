use Rattle.task_exports.proofs.PollCall.{finished}
use Rattle.task_exports.proofs.Crossing.{crossed}
use Rattle.task_exports.proofs.Told.{is_finished}
use Rattle.task_exports.proofs.calls.poll.is_finished.Goals as goal

pub returns-clause-path : goal.returns-clause-path
returns-clause-path c = λ n s. finished n _ _ _ ((crossed is_finished c.lend-bits.ensures.handle.0 c.back.ensures c.async_task_is_finished.ensures.path) n s)
