use Rattle.std.proofs.Common.{◌≡◌}
use Rattle.slab.specs.Slab.{slab_len}
use Rattle.executor_parts.specs.Members.{SameMembers}
use Rattle.executor.proofs.kept_group.KeptGroup.next.Given as goal

abbrev pub invariant-loop : goal.invariant-loop
invariant-loop g l = record {
  same : SameMembers l.fn.self.members l.self.members;
  len : slab_len l.self.members ≡ slab_len l.fn.self.members;
}
