use Rattle.std.proofs.Common.{◌∙◌}
use Rattle.task_exports.proofs.Goes.{past_gives_up, past_goes_on, taken_goes_on}
use Rattle.task_exports.proofs.ends.go_on.Goals as goal

pub begin_due-hand-requires-clause-party : goal.begin_due-hand-requires-clause-party
begin_due-hand-requires-clause-party c = (c.requires.party.0, c.requires.party.2)

pub returns-then-taken-clause-path : goal.returns-then-taken-clause-path
returns-then-taken-clause-path c = λ way up s. taken_goes_on way c.args.due c.args.hand _ _ c.begin_due-hand.ensures.hand.0 (c.begin_due-hand.ensures.path way s) c.if-taken.true

pub give_back-requires-clause-party : goal.give_back-requires-clause-party
give_back-requires-clause-party c = let s = c.requires.party in past_gives_up s.0 c.args.due c.args.hand _ _ s.1 (c.begin_due-hand.ensures.path s.0 s.2) c.if-taken.false

pub returns-else-taken-clause-path : goal.returns-else-taken-clause-path
returns-else-taken-clause-path c = λ way up s. past_goes_on way c.args.due c.args.hand _ _ _ _ (c.begin_due-hand.ensures.path way s) c.if-taken.false c.give_back.ensures.path

pub returns-then-taken-clause-bits : goal.returns-then-taken-clause-bits
returns-then-taken-clause-bits c = c.begin_due-hand.ensures.hand.1

pub returns-else-taken-clause-bits : goal.returns-else-taken-clause-bits
returns-else-taken-clause-bits c = c.give_back.ensures.bits ∙ c.begin_due-hand.ensures.hand.1
