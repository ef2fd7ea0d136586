use Rattle.executor_parts.proofs.Outputs.{clear-gives}
use Rattle.executor_parts.proofs.group.TaskGroup.abort_all.Goals as goal

pub returns-clause-none_more : goal.returns-clause-none_more
returns-clause-none_more g c = clear-gives c.args.self.now.members c.clear.new.self c.clear.ensures.empty
