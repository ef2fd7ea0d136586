use Rattle.task_exports.proofs.TaskCall.{is_made}
use Rattle.task_exports.proofs.calls.spawn.spawn.Goals as goal

pub returns-in-12-clause-runnable : goal.returns-in-12-clause-runnable
returns-in-12-clause-runnable c = (is_made _ _ _ c.async_task_new.ensures c.in-12.is).0

pub returns-in-12-clause-task : goal.returns-in-12-clause-task
returns-in-12-clause-task c = let m = is_made _ _ _ c.async_task_new.ensures c.in-12.is in (m.1, m.2, m.3)
