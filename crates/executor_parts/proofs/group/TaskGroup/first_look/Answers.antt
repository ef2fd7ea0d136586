use Rattle.executor_parts.proofs.Outputs.{ended-gives}
use Rattle.executor_parts.proofs.group.TaskGroup.first_look.Goals as goal

pub returns-in-Ok-clause-outputs : goal.returns-in-Ok-clause-outputs
returns-in-Ok-clause-outputs g c = ended-gives c.args.member c.in-Ok.ended c.in-Ok.ensures.gives
