use Rattle.task_cell.proofs.Vocabulary.{sym, ◌∙◌}
use Rattle.task_cell.proofs.RunGoes.{gives_cell, last_stands, releases_last, releases_other}
use Rattle.task_cell.proofs.cell.Share.release.Goals as goal

pub last-requires : goal.last-requires
last-requires g c = record { last = (c.give_up-last.ensures.share.is_there, c.give_up-last.ensures.share.is_last ∙ c.if-last.true) }

pub empty-requires-clause-cell : goal.empty-requires-clause-cell
empty-requires-clause-cell g c = let s = c.requires.party in gives_cell s.0 s.1 c.args.party.now c.give_up-last.new.party c.give_up-last.result.0 (c.give_up-last.ensures.path s.0 s.1 s.2) ∙ (c.requires.cell ∙ sym (c.last.ensures.0 ∙ c.give_up-last.ensures.share.cell.0))

pub empty-requires-clause-party : goal.empty-requires-clause-party
empty-requires-clause-party g c = let s = c.requires.party in let y = last_stands s.0 s.1 c.args.party.now c.give_up-last.new.party c.give_up-last.result.0 (c.give_up-last.ensures.path s.0 s.1 s.2) c.if-last.true in (s.0, s.1, y.0, y.1)

pub none-requires : goal.none-requires
none-requires g c = record { there = c.give_up-last.ensures.share.is_there; last = c.give_up-last.ensures.share.is_last ∙ c.if-last.false }

pub returns-then-last-clause-path : goal.returns-then-last-clause-path
returns-then-last-clause-path g c = λ hand answer s. releases_last hand answer c.args.party.now c.give_up-last.new.party c.empty.new.party c.give_up-last.result.0 (c.give_up-last.ensures.path hand answer s) c.if-last.true (λ y at. c.empty.ensures.path hand answer y at)

pub returns-else-last-clause-path : goal.returns-else-last-clause-path
returns-else-last-clause-path g c = λ hand answer s. releases_other hand answer c.args.party.now c.give_up-last.new.party c.give_up-last.result.0 (c.give_up-last.ensures.path hand answer s) c.if-last.false

pub returns-else-last-clause-ledger : goal.returns-else-last-clause-ledger
returns-else-last-clause-ledger g c = let s = c.requires.party in gives_cell s.0 s.1 c.args.party.now c.give_up-last.new.party c.give_up-last.result.0 (c.give_up-last.ensures.path s.0 s.1 s.2) ∙ (c.requires.cell ∙ sym (c.none.ensures ∙ c.give_up-last.ensures.share.cell.0))
