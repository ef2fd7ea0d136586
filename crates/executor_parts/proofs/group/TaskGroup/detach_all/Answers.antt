use Rattle.std.proofs.Common.{◌∙◌}
use Rattle.executor_parts.proofs.Outputs.{clear-gives}
use Rattle.executor_parts.proofs.Spent.{leaves-spent}
use Rattle.executor_parts.proofs.group.TaskGroup.detach_all.Goals as goal

pub loop-number-preserved : goal.loop-number-preserved
loop-number-preserved g c = record {
  spent = λ handle spent. leaves-spent _ c.loop-number.self.members c.try_remove.new.self c.loop-number.number c.in-Some.ensures.updates handle (c.loop-number.invariant.spent handle spent);
  room = c.in-Some.ensures.capacity ∙ c.loop-number.invariant.room;
}

pub returns-clause-none_more : goal.returns-clause-none_more
returns-clause-none_more g c = clear-gives c.args.self.now.members c.clear.new.self c.clear.ensures.empty
