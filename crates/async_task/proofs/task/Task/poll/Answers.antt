use Rattle.async_task.proofs.task.Task.poll.Goals as goal

pub returns-in-Pending-clause-registered : goal.returns-in-Pending-clause-registered
returns-in-Pending-clause-registered g c = λ e. c.poll.ensures.registered c.in-Pending.is
