use Rattle.task_cell.proofs.Vocabulary.{◌∷◌, [], ap, sym, ◌∙◌, head_of, Emptier, EmptySlots, after_giving_up, act, awaiter_first, None}
use Rattle.task_steps.specs.Shares.{has_emptied}
use Rattle.task_cell.proofs.Moved.{stands, did_then}
use Rattle.task_cell.proofs.cell.LastShare.empty.Goals as goal

pub note_emptied-requires-clause-cell : goal.note_emptied-requires-clause-cell
note_emptied-requires-clause-cell g c = let s = c.requires.party in (c.clear_awaiter.ensures (Emptier s.0 s.1) s.2 [] s.3).cell ∙ c.requires.cell

pub note_emptied-requires-clause-party : goal.note_emptied-requires-clause-party
note_emptied-requires-clause-party g c = let s = c.requires.party in (s.0, s.1, stands _ _ _ _ _ (c.clear_awaiter.ensures (Emptier s.0 s.1) s.2 [] s.3))

pub close-word-requires-clause-cell : goal.close-word-requires-clause-cell
close-word-requires-clause-cell g c = let s = c.requires.party in let x = c.clear_awaiter.ensures (Emptier s.0 s.1) s.2 [] s.3 in (c.note_emptied.ensures s.0 s.1 (stands _ _ _ _ _ x)).cell ∙ (x.cell ∙ c.requires.cell)

pub close-word-requires-clause-party : goal.close-word-requires-clause-party
close-word-requires-clause-party g c = let s = c.requires.party in let x = c.clear_awaiter.ensures (Emptier s.0 s.1) s.2 [] s.3 in (after_giving_up s.0 s.1, stands _ _ _ _ _ (c.note_emptied.ensures s.0 s.1 (stands _ _ _ _ _ x)))

pub close-word-requires-clause-last : goal.close-word-requires-clause-last
close-word-requires-clause-last g c = let s = c.requires.party in let x = c.clear_awaiter.ensures (Emptier s.0 s.1) s.2 [] s.3 in ap (λ m. has_emptied (head_of m.0.members).deeds) (c.note_emptied.ensures s.0 s.1 (stands _ _ _ _ _ x)).is

pub returns-clause-path : goal.returns-clause-path
returns-clause-path g c = λ hand answer y s. let x = c.clear_awaiter.ensures (Emptier hand answer) y [] s in let p = c.close-word.ensures.party in
    let z = did_then c.args.party.now c.clear_awaiter.new.party c.note_emptied.new.party [] (act EmptySlots ∷ []) (Emptier hand answer) (after_giving_up hand answer) (awaiter_first None []) [] x (c.note_emptied.ensures hand answer (stands _ _ _ _ _ x)) in
    record { cell = p.0 ∙ z.cell; is = p.1 ∙ z.is }

pub returns-clause-ledger : goal.returns-clause-ledger
returns-clause-ledger g c = let s = c.requires.party in let x = c.clear_awaiter.ensures (Emptier s.0 s.1) s.2 [] s.3 in
    c.close-word.ensures.party.0 ∙ ((c.note_emptied.ensures s.0 s.1 (stands _ _ _ _ _ x)).cell ∙ (x.cell ∙ (c.requires.cell ∙ sym c.ledger.ensures.0)))
