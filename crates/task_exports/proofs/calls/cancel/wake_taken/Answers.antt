use Rattle.task_exports.proofs.calls.cancel.wake_taken.Goals as goal

pub returns-in-Some-clause-path : goal.returns-in-Some-clause-path
returns-in-Some-clause-path g c = λ n s. ((c.in-Some.awaiter, c.wake.result, c.wake.ensures), (c.async_task_cancel_woken.ensures.path n s).1)
