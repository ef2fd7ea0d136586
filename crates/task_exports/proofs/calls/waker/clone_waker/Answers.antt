use Rattle.task_exports.proofs.WakeCall.{is_cloned}
use Rattle.task_exports.proofs.calls.waker.clone_waker.Goals as goal

pub returns-in-12-clause-waker : goal.returns-in-12-clause-waker
returns-in-12-clause-waker c = is_cloned _ c.gain_at.new.out _ c.gain_at.ensures.answer.0 c.gain_at.ensures.answer.1 c.in-12.is
