use Rattle.task_cell.proofs.Vocabulary.{◌∙◌, ap, [], parts_newest}
use Rattle.task_cell.proofs.WakerMoves.{may_gain, beside_waker, gains_waker, gains_nothing}
use Rattle.task_cell.proofs.cell.Share.gain.Goals as goal

pub attempt_from-requires-clause-allowed : goal.attempt_from-requires-clause-allowed
attempt_from-requires-clause-allowed g c = (may_gain _ _ _ _ _ c.args.party.now c.requires.party c.requires.cell.1).0

pub attempt_from-requires-clause-shares : goal.attempt_from-requires-clause-shares
attempt_from-requires-clause-shares g c = (may_gain _ _ _ _ _ c.args.party.now c.requires.party c.requires.cell.1).1

pub split-gained-requires-clause-cell : goal.split-gained-requires-clause-cell
split-gained-requires-clause-cell g c = c.in-Ok.ensures.cell ∙ c.requires.cell.0

pub split-gained-requires-clause-allowed : goal.split-gained-requires-clause-allowed
split-gained-requires-clause-allowed g c = parts_newest _ _ _ _ _ _ _ _ _ _ [] (ap (λ m. m.0) (beside_waker _ _ c.args.party.now c.attempt_from.new.party c.requires.party c.in-Ok.ensures.changed))

pub returns-in-Ok-clause-path : goal.returns-in-Ok-clause-path
returns-in-Ok-clause-path g c = let e = c.in-Ok.ensures in let s = c.split-gained.ensures in
    gains_waker _ _ c.args.party.now c.attempt_from.new.party c.split-gained.new.party c.split-gained.result c.requires.party e.cell e.changed s.cell.0 s.left s.cell.1 s.right

pub returns-in-Err-clause-path : goal.returns-in-Err-clause-path
returns-in-Err-clause-path g c = gains_nothing _ _ c.args.party.now c.attempt_from.new.party c.requires.party c.in-Err.ensures.cell c.in-Err.ensures.ended
