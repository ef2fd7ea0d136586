use Rattle.executor_parts.proofs.Outputs.{came-before}
use Rattle.executor_parts.proofs.group.TaskGroup.try_next.Goals as goal

pub returns-in-Ok-clause-gives : goal.returns-in-Ok-clause-gives
returns-in-Ok-clause-gives g c = came-before c.args.self.now.members c.loop.self.members c.in-Ok.next c.loop.invariant.none_more c.in-Ok.ensures.gives
