use Rattle.std.proofs.Common.{refl}
use Rattle.executor_parts.proofs.Joined.{joins}
use Rattle.executor_parts.proofs.Outputs.{joins-gives}
use Rattle.executor_parts.proofs.Spent.{joins-spent}
use Rattle.executor_parts.proofs.group.TaskGroup.join.Goals as goal

pub returns-clause-joins : goal.returns-clause-joins
returns-clause-joins g c = joins _ _ _ _ c.insert_reserved.ensures.was_vacant c.insert_reserved.ensures.updates

pub returns-clause-spent : goal.returns-clause-spent
returns-clause-spent g c = joins-spent _ _ c.args.self.now.members c.insert_reserved.new.self _ _ c.insert_reserved.ensures.updates refl c.counted-joined.ensures.more

pub returns-clause-gives : goal.returns-clause-gives
returns-clause-gives g c = joins-gives c.args.self.now.members c.insert_reserved.new.self _ _ _ c.insert_reserved.ensures.updates c.first_look-member.ensures.outputs
