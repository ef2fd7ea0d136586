use Rattle.task_exports.proofs.Crossing.{crossed}
use Rattle.task_exports.proofs.Told.{output_taken}
use Rattle.task_exports.proofs.calls.poll.hand_out.Goals as goal

pub returns-clause-path : goal.returns-clause-path
returns-clause-path g c = λ i z s. ((crossed output_taken c.lend-bits.ensures.handle.0 c.back.ensures c.async_task_output_taken.ensures.path) i z s).1
