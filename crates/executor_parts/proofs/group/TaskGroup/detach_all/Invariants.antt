use Rattle.std.proofs.Common.{◌≡◌}
use Rattle.executor_parts.specs.Generations.{StaySpent}
use Rattle.executor_parts.proofs.group.TaskGroup.detach_all.Given as goal

abbrev pub invariant-loop-number : goal.invariant-loop-number
invariant-loop-number g l = record {
  spent : StaySpent l.fn.self.joined l.fn.self.members l.self.joined l.self.members;
  room : l.self.members.capacity ≡ l.fn.self.members.capacity;
}
