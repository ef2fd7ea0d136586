use Rattle.task_exports.proofs.poll.PollStep.make.Goals as goal

pub returns : goal.returns
returns c = record { does = λ n s1. c.look.ensures n s1 }
