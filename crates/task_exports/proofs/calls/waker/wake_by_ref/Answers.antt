use Rattle.task_exports.proofs.WakeCall.{nothing_due, to_schedule}
use Rattle.task_exports.specs.CallPaths.{hands_one}
use Rattle.task_exports.proofs.calls.waker.wake_by_ref.Goals as goal

pub schedule-requires : goal.schedule-requires
schedule-requires g c = record { runnable = to_schedule _ c.wake_at.new.out _ c.wake_at.ensures.answer.0 c.wake_at.ensures.answer.1 c.in-10.is }

pub returns-in-10-clause-path : goal.returns-in-10-clause-path
returns-in-10-clause-path g c = hands_one c.schedule.ensures.room c.schedule.ensures.fact

pub returns-in-12-clause-path : goal.returns-in-12-clause-path
returns-in-12-clause-path g c = nothing_due _ _ _ _ c.wake_at.ensures.answer.0 c.wake_at.ensures.answer.1 c.in-12.is
