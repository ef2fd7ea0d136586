use Rattle.task_cell.proofs.Vocabulary.{[], ◌∷◌, ◌∙◌, None, Ended, sym, GiveUpReference, row}
use Rattle.task_cell.proofs.Moved.{stands}
use Rattle.task_exports.specs.Answers.{others, none_left}
use Rattle.task_exports.proofs.Given.{was_last, left_others, and_ends}
use Rattle.task_exports.proofs.Live.{of_cell, lasts_left}
use Rattle.task_exports.proofs.ends.give_back.Goals as goal

pub give_up-last-requires-clause-party : goal.give_up-last-requires-clause-party
give_up-last-requires-clause-party c = (None, c.requires.party.0, c.requires.party.1)

pub returns-then-last-clause-path : goal.returns-then-last-clause-path
returns-then-last-clause-path c = let s = c.requires.party in let l = was_last _ _ _ _ _ (c.give_up-last.ensures.path None s.0 s.1) c.if-last.true in
    none_left l.word s.0 l.place l.fits (lasts_left c.args.hand.share c.give_up-last.result.1 c.share-share.result c.args.hand.party _ _ _ _ _ c.requires.hand c.share-share.ensures c.give_up-last.ensures.share c.if-last.true l.did) l.did

pub end-requires-clause-cell : goal.end-requires-clause-cell
end-requires-clause-cell c = let s = c.requires.party in let l = left_others _ _ _ _ _ (c.give_up-last.ensures.path None s.0 s.1) c.if-last.false in
    l.did.cell ∙ (of_cell c.args.hand.share c.share-share.result c.args.hand.party c.requires.hand c.share-share.ensures ∙ sym c.ledger-ledger.ensures)

pub end-requires-clause-party : goal.end-requires-clause-party
end-requires-clause-party c = let s = c.requires.party in let l = left_others _ _ _ _ _ (c.give_up-last.ensures.path None s.0 s.1) c.if-last.false in (s.0, Ended, stands _ _ _ _ _ l.did)

pub returns-clause-path : goal.returns-clause-path
returns-clause-path c = let s = c.requires.party in let l = left_others _ _ _ _ _ (c.give_up-last.ensures.path None s.0 s.1) c.if-last.false in
    others l.word l.fits (c.give_up-last.ensures.share.is_there, c.give_up-last.ensures.share.is_last ∙ c.if-last.false) (and_ends (row GiveUpReference l.word ∷ []) s.0 _ _ _ l.did c.end.ensures)
