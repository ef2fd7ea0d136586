use Rattle.std.proofs.Common.{rules}
use Rattle.executor.proofs.LaterMembers.{stays-later, takes-later, takes-none-but-fails}
use Rattle.executor.proofs.members.Turns+R+F+BellAwaiter+R+B+M.next_member_until.Goals as goal

pub returns-then-not-matches-clause-takes : goal.returns-then-not-matches-clause-takes
returns-then-not-matches-clause-takes g c = takes-later c.args.group.now.members c.loop.group.members c.look-next.new.group.members c.look-next.result c.loop.invariant.stay c.look-next.ensures.takes

pub loop-preserved-else-is_over-3 : goal.loop-preserved-else-is_over-3
loop-preserved-else-is_over-3 g c = record {
  can_next = search rules;
  is_finite = search rules;
  stay = stays-later c.args.group.now.members c.loop.group.members c.look-next.new.group.members c.look-next.result c.loop.invariant.stay c.look-next.ensures.takes (search rules);
}

pub returns-then-is_over-clause-takes : goal.returns-then-is_over-clause-takes
returns-then-is_over-clause-takes g c = takes-none-but-fails c.args.group.now.members c.look-next.new.group.members (stays-later c.args.group.now.members c.loop.group.members c.look-next.new.group.members c.look-next.result c.loop.invariant.stay c.look-next.ensures.takes (search rules))
