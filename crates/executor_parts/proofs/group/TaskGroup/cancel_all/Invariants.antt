use Rattle.std.proofs.Common.{◌≡◌, ◌<◌, ℕ}
use Rattle.std.specs.Prelude.{IfSome}
use Rattle.slab.specs.Slab.{get, slab_len}
use Rattle.executor_parts.specs.Cancelled.{IsCancel}
use Rattle.executor_parts.specs.Generations.{StaySpent}
use Rattle.executor_parts.specs.Members.{SameMembers}
use Rattle.executor_parts.specs.Outputs.{NoneGivesMore}
use Rattle.executor_parts.proofs.group.TaskGroup.cancel_all.Given as goal

abbrev pub invariant-loop-number : goal.invariant-loop-number
invariant-loop-number g l = record {
  same : SameMembers l.fn.self.members l.self.members;
  len : slab_len l.self.members ≡ slab_len l.fn.self.members;
  spent : StaySpent l.fn.self.joined l.fn.self.members l.self.joined l.self.members;
  none_more : NoneGivesMore l.fn.self.members l.self.members;
  cancel : (n : ℕ) → n < l.number → IfSome (get l.self.members n) (λ entry. IsCancel entry.member);
  room : l.self.members.capacity ≡ l.fn.self.members.capacity;
}
