use Rattle.std.proofs.Common.{sym, ◌∙◌, ap}
use Rattle.task_exports.proofs.Detaching.{last_rest, rest_last, rest_shared}
use Rattle.task_exports.proofs.detach.give_rest_up.Goals as goal

pub share-share-requires : goal.share-share-requires
share-share-requires c = record { there = c.requires.hand.0 }

pub take_unclaimed-last-requires-clause-cell : goal.take_unclaimed-last-requires-clause-cell
take_unclaimed-last-requires-clause-cell c = c.requires.hand.1 ∙ sym c.share-share.ensures.0

pub take_unclaimed-last-requires-clause-party : goal.take_unclaimed-last-requires-clause-party
take_unclaimed-last-requires-clause-party c = let s = c.requires.party in (s.0, s.1, c.requires.closed)

pub returns-else-last-clause-path : goal.returns-else-last-clause-path
returns-else-last-clause-path c = rest_shared _ _ _ c.if-last.false c.take_unclaimed-last.ensures.path (c.take_unclaimed-last.ensures.share.is_there, c.take_unclaimed-last.ensures.share.is_last ∙ c.if-last.false)

pub returns-then-last-clause-path : goal.returns-then-last-clause-path
returns-then-last-clause-path c = let h = c.requires.hand in let e = c.take_unclaimed-last.ensures in let s = c.share-share.ensures in let t = sym s.0 in
    rest_last _ _ _ c.if-last.true e.path (last_rest c.share-share.result c.take_unclaimed-last.result.1 _ _ _ (h.1 ∙ sym s.0) (h.2 ∙ sym (ap (λ k. k.limit) s.1)) e.share c.if-last.true e.path, λ i. ((e.share.cell.0 ∙ s.0) i, (e.share.cell.1 ∙ s.2) i))
