use Rattle.task_cell.proofs.Vocabulary.{[], ◌∙◌, sym, subst, false, Ran, Ended, OfRun, Did}
use Rattle.task_steps.specs.Standing.{as_ended}
use Rattle.task_exports.specs.Answers.{empties}
use Rattle.task_cell.proofs.Moved.{stands}
use Rattle.task_exports.proofs.Given.{emptied_hand, emptied_call, empties_wakes, empties_none, woken_at}
use Rattle.task_exports.proofs.Ending.{tells_end}
use Rattle.task_exports.proofs.ends.empty.Goals as goal

pub empty-ledger-requires-clause-party : goal.empty-ledger-requires-clause-party
empty-ledger-requires-clause-party c = let s = c.requires.party in (s.0, s.1, s.2, s.3)

pub note_woken-requires-clause-party : goal.note_woken-requires-clause-party
note_woken-requires-clause-party c = let s = c.requires.party in let i = emptied_hand s.0 s.1 _ _ (s.4 ∙ c.if-took.true) (c.empty-ledger.ensures.path s.0 s.1 s.2 s.3) in (i.0, OfRun, [], i.1)

pub returns-then-took-clause-path : goal.returns-then-took-clause-path
returns-then-took-clause-path c = let s = c.requires.party in
    (c.gone-gone.ensures, subst (λ b. Did (empties b) as_ended c.args.hand.party c.end.new.party) (sym c.if-took.true) (empties_wakes s.0 s.1 _ _ _ _ (s.4 ∙ c.if-took.true) (c.empty-ledger.ensures.path s.0 s.1 s.2 s.3) c.note_woken.ensures c.end.ensures))

pub end-requires-clause-party : goal.end-requires-clause-party
end-requires-clause-party c = let s = c.requires.party in let i = emptied_hand s.0 s.1 _ _ (s.4 ∙ c.if-took.true) (c.empty-ledger.ensures.path s.0 s.1 s.2 s.3) in (Ran false, Ended, stands _ _ _ _ _ (woken_at OfRun i.0 _ _ i.1 c.note_woken.ensures))

pub end-requires-2-clause-party : goal.end-requires-2-clause-party
end-requires-2-clause-party c = let s = c.requires.party in (s.1, Ended, emptied_call s.0 s.1 _ _ (s.4 ∙ c.if-took.false) (c.empty-ledger.ensures.path s.0 s.1 s.2 s.3))

pub returns-clause-path : goal.returns-clause-path
returns-clause-path c = let s = c.requires.party in
    (c.gone-gone.ensures, subst (λ b. Did (empties b) as_ended c.args.hand.party c.end-2.new.party) (sym c.if-took.false) (empties_none s.0 s.1 _ _ _ (s.4 ∙ c.if-took.false) (c.empty-ledger.ensures.path s.0 s.1 s.2 s.3) c.end-2.ensures))

pub returns-then-took-clause-answer : goal.returns-then-took-clause-answer
returns-then-took-clause-answer c = tells_end _ _ c.told-answer.ensures

pub returns-clause-answer : goal.returns-clause-answer
returns-clause-answer c = tells_end _ _ c.told-answer.ensures
