use Rattle.task_exports.proofs.cancel.CancelScheduledStep.make.Goals as goal

pub returns : goal.returns
returns c = record { does = λ n s1. c.leave_closed.ensures n s1 }
