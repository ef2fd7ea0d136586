use Rattle.std.proofs.Common.{◌≡◌}
use Rattle.slab.specs.Slab.{slab_len}
use Rattle.executor_parts.specs.Generations.{StaySpent}
use Rattle.executor_parts.specs.Members.{SameMembers}
use Rattle.executor_parts.specs.Outputs.{NoneGivesMore}
use Rattle.executor_parts.proofs.group.TaskGroup.next.Given as goal

abbrev pub invariant-loop : goal.invariant-loop
invariant-loop g l = record {
  can_next : (goal.iterator-loop g).can_next l.iterator';
  is_finite : (goal.iterator-loop g).is_finite l.iterator';
  same : SameMembers l.fn.self.members l.self.members;
  len : slab_len l.self.members ≡ slab_len l.fn.self.members;
  spent : StaySpent l.fn.self.joined l.fn.self.members l.self.joined l.self.members;
  none_more : NoneGivesMore l.fn.self.members l.self.members;
  room : l.self.members.capacity ≡ l.fn.self.members.capacity;
}
