use Rattle.task_exports.proofs.Polling.{finished, unfinished}
use Rattle.task_exports.proofs.poll.FinishedStep.make.Goals as goal

pub returns-then-is_finished : goal.returns-then-is_finished
returns-then-is_finished c = record { does = λ n s. finished n c.args.party.now c.is_finished.new.party c.is_finished.result s c.is_finished.ensures.path c.if-is_finished.true }

pub returns-else-is_finished : goal.returns-else-is_finished
returns-else-is_finished c = record { does = λ n s. unfinished n c.args.party.now c.is_finished.new.party c.is_finished.result s c.is_finished.ensures.path c.if-is_finished.false }
