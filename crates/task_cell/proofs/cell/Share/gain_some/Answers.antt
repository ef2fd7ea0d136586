use Rattle.std.proofs.Common.{arith}
use Rattle.task_cell.proofs.Attempts.{decided}
use Rattle.task_cell.proofs.Vocabulary.{ap, ◌∙◌, refl, None, Some, [], parts_newest}
use Rattle.task_steps.specs.Standing.{as_lent}
use Rattle.task_steps.specs.WakerScripts.{to_gain}
use Rattle.task_cell.proofs.WakerMoves.{fresh_stands, may_gain, beside_waker, gain_decides, gains_waker, gains_nothing, gain_gives, gain_made}
use Rattle.task_cell.proofs.cell.Share.gain_some.Goals as goal

pub attempt_some-requires-clause-allowed : goal.attempt_some-requires-clause-allowed
attempt_some-requires-clause-allowed g c = let p = c.borrow-word.result.1 in let b = c.borrow-word.ensures in (may_gain _ _ _ _ _ p (fresh_stands as_lent _ p b.party) (ap (λ m. m.0.limit) b.party)).0

pub attempt_some-requires-clause-shares : goal.attempt_some-requires-clause-shares
attempt_some-requires-clause-shares g c = let p = c.borrow-word.result.1 in let b = c.borrow-word.ensures in (may_gain _ _ _ _ _ p (fresh_stands as_lent _ p b.party) (ap (λ m. m.0.limit) b.party)).1

pub split-gained-requires-clause-cell : goal.split-gained-requires-clause-cell
split-gained-requires-clause-cell g c = c.in-Made.ensures.seat.0 ∙ c.borrow-word.ensures.cell

pub split-gained-requires-clause-allowed : goal.split-gained-requires-clause-allowed
split-gained-requires-clause-allowed g c = let p = c.borrow-word.result.1 in parts_newest _ _ _ _ _ _ _ _ _ _ [] (ap (λ m. m.0) (beside_waker _ _ p c.attempt_some.new.party (fresh_stands as_lent _ p c.borrow-word.ensures.party) c.in-Made.ensures.tried))

pub returns-in-Made-clause-gains : goal.returns-in-Made-clause-gains
returns-in-Made-clause-gains g c = let p = c.borrow-word.result.1 in let b = c.borrow-word.ensures in let e = c.in-Made.ensures in let s = c.split-gained.ensures in
    gain_gives _ _ p c.split-gained.new.party (Some (tt {0}, c.split-gained.result)) b.cell (ap (λ m. m.0.limit) b.party)
    (gains_waker _ _ p c.attempt_some.new.party c.split-gained.new.party c.split-gained.result (fresh_stands as_lent _ p b.party) e.seat.0 e.tried s.cell.0 s.left s.cell.1 s.right)

pub returns-in-Ended-clause-at_limit : goal.returns-in-Ended-clause-at_limit
returns-in-Ended-clause-at_limit g c = let p = c.borrow-word.result.1 in let b = c.borrow-word.ensures in
    gain_made {X = Unit {0}} _ _ p c.attempt_some.new.party _ None (b.cell, b.party) refl (gains_nothing _ _ p c.attempt_some.new.party (fresh_stands as_lent _ p b.party) c.in-Ended.ensures.seat.0 c.in-Ended.ensures.tried)

pub returns-in-Again-clause-missed : goal.returns-in-Again-clause-missed
returns-in-Again-clause-missed g c = let b = c.borrow-word.ensures in let e = c.in-Again.ensures in let limit = c.args.self.now.block.key.limit in let l = decided limit to_gain c.in-Again.field-0 (gain_decides limit) e.looked in
    (e.seat.0 ∙ b.cell, omega (arith, l))
