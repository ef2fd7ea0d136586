use Rattle.task_cell.proofs.Vocabulary.{sym, ◌∙◌}
use Rattle.task_cell.proofs.TaskCalls.{unclaimed_empties, unclaimed_cell, unclaimed_last, unclaimed_shared}
use Rattle.task_cell.proofs.cell.Share.leave_unclaimed.Goals as goal

pub last-requires : goal.last-requires
last-requires g c = record { last = (c.take_unclaimed-last.ensures.share.is_there, c.take_unclaimed-last.ensures.share.is_last ∙ c.if-last.true) }

pub empty_at_end-requires-clause-cell : goal.empty_at_end-requires-clause-cell
empty_at_end-requires-clause-cell g c = unclaimed_cell _ _ _ c.take_unclaimed-last.ensures.path ∙ (c.requires.cell ∙ sym (c.last.ensures.0 ∙ c.take_unclaimed-last.ensures.share.cell.0))

pub empty_at_end-requires-clause-party : goal.empty_at_end-requires-clause-party
empty_at_end-requires-clause-party g c = unclaimed_empties _ _ _ c.if-last.true c.take_unclaimed-last.ensures.path

pub none-requires : goal.none-requires
none-requires g c = record { there = c.take_unclaimed-last.ensures.share.is_there; last = c.take_unclaimed-last.ensures.share.is_last ∙ c.if-last.false }

pub returns-then-last : goal.returns-then-last
returns-then-last g c = unclaimed_last _ _ _ _ c.if-last.true c.take_unclaimed-last.ensures.path c.empty_at_end.ensures

pub returns-else-last : goal.returns-else-last
returns-else-last g c = unclaimed_shared _ _ _ c.if-last.false c.take_unclaimed-last.ensures.path
