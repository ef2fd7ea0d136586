use Rattle.task_steps.specs.Standing.{as_lent}
use Rattle.task_cell.proofs.Vocabulary.{List, Some, ap, is_some, refl, subst, sym, ◌∙◌, Deed, Gains}
use Rattle.task_cell.specs.Belongs.{HasMade}
use Rattle.task_cell.specs.WakerPaths.{GainPath}
use Rattle.task_cell.specs.Calls.{second}
use Rattle.task_cell.proofs.WakerMoves.{fresh_stands, gain_gives, gain_made, spent_by_gain}
use Rattle.task_cell.proofs.Witnessed.{was_gained}
use Rattle.task_cell.proofs.cell.Share.gain_by_reference.Goals as goal

pub gain-gained-requires-clause-party : goal.gain-gained-requires-clause-party
gain-gained-requires-clause-party g c = fresh_stands as_lent _ c.borrow-word.result.1 c.borrow-word.ensures.party

pub record-ended-requires-clause-cell : goal.record-ended-requires-clause-cell
record-ended-requires-clause-cell g c = (gain_made _ _ c.borrow-word.result.1 c.gain-gained.new.party c.gain-gained.new.party c.gain-gained.result (c.borrow-word.ensures.cell, c.borrow-word.ensures.party) refl c.gain-gained.ensures.path).2.0 ∙ sym c.ledger.ensures

pub record-ended-requires-clause-party : goal.record-ended-requires-clause-party
record-ended-requires-clause-party g c = (as_lent, (spent_by_gain _ c.borrow-word.result.1 c.gain-gained.new.party _ c.gain-gained.ensures.path).0)

pub record-ended-requires-clause-spent : goal.record-ended-requires-clause-spent
record-ended-requires-clause-spent g c = (spent_by_gain _ c.borrow-word.result.1 c.gain-gained.new.party _ c.gain-gained.ensures.path).1

pub returns-in-Some-clause-waker : goal.returns-in-Some-clause-waker
returns-in-Some-clause-waker g c = let p = c.borrow-word.result.1 in let q = c.gain-gained.new.party in let l = c.args.self.now.block.key.limit in
    gain_gives l _ p q (Some c.in-Some.waker) c.borrow-word.ensures.cell (ap (λ m. m.0.limit) c.borrow-word.ensures.party) (subst (λ made. Gains l p q (second made)) c.in-Some.is c.gain-gained.ensures.path)

pub returns-in-Some-clause-gained : goal.returns-in-Some-clause-gained
returns-in-Some-clause-gained g c = let p = c.borrow-word.result.1 in let q = c.gain-gained.new.party in let l = c.args.self.now.block.key.limit in
    was_gained l p q c.record-ended.result.party c.in-Some.waker c.borrow-word.ensures.party (subst (λ made. Gains l p q (second made)) c.in-Some.is c.gain-gained.ensures.path) c.record-ended.ensures c.record-ended.result.witnessed

pub returns-in-None-clause-refused : goal.returns-in-None-clause-refused
returns-in-None-clause-refused g c = let p = c.borrow-word.result.1 in let q = c.gain-gained.new.party in let l = c.args.self.now.block.key.limit in
    subst (λ made. (path : List Deed) × GainPath l (is_some made) path × HasMade c.args.self.now path c.record-ended.result.party) c.in-None.is
    (gain_made _ l p q c.record-ended.result.party c.gain-gained.result (c.borrow-word.ensures.cell, c.borrow-word.ensures.party) c.record-ended.ensures c.gain-gained.ensures.path)
