use Rattle.task_cell.proofs.Vocabulary.{refl, sym, ◌∙◌, OfClaim}
use Rattle.task_cell.proofs.PollWays.{notifies_so, taken_if, none_taken}
use Rattle.task_cell.proofs.cell.Share.take_awaiter_of.Goals as goal

pub take_awaiter-requires-clause-party : goal.take_awaiter-requires-clause-party
take_awaiter-requires-clause-party g c = let s = c.requires.party in
    (OfClaim s.0, s.1, notifies_so s.0 s.1 c.args.found.awaiter c.args.party.now s.2 (sym c.awaiter.ensures ∙ c.if-awaiter.true), refl)

pub returns-then-awaiter : goal.returns-then-awaiter
returns-then-awaiter g c = let s = c.requires.party in
    taken_if g.A.Wake.woken g.A.Wake.compared c.args.awaiter.now.awaiter.now s.0 s.1 c.args.found.awaiter c.args.party.now c.take_awaiter.new.party s.2 (sym c.awaiter.ensures ∙ c.if-awaiter.true) c.take_awaiter.ensures

pub returns-else-awaiter : goal.returns-else-awaiter
returns-else-awaiter g c = let s = c.requires.party in
    none_taken g.A.Wake.woken g.A.Wake.compared c.args.awaiter.now.awaiter.now s.0 s.1 c.args.found.awaiter c.args.party.now s.2 (sym c.awaiter.ensures ∙ c.if-awaiter.false)
