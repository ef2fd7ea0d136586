use Rattle.std.specs.Prelude.{Ok, None}
use Rattle.executor.specs.declared.errors.NextMemberError.{NextMemberError}
use Rattle.executor.specs.Members.{TakesMember}
use Rattle.executor.proofs.members.Turns+R+F+BellAwaiter+R+B+M.next_member.Given as goal

abbrev pub invariant-loop : goal.invariant-loop
invariant-loop g l = record {
  can_next : (goal.iterator-loop g).can_next l.iterator';
  is_finite : (goal.iterator-loop g).is_finite l.iterator';
  stay : TakesMember {E = NextMemberError} l.fn.group.members (Ok None) l.group.members;
}
