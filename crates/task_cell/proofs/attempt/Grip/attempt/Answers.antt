use Rattle.task_cell.proofs.Vocabulary.{refl, sym, ap, ◌∙◌}
use Rattle.task_cell.proofs.Attempts.{may_still, count_still, may_by_key, ended_by_look}
use Rattle.task_cell.proofs.attempt.Grip.attempt.Goals as goal

pub observe-requires-clause-cell : goal.observe-requires-clause-cell
observe-requires-clause-cell g c = c.requires.cell ∙ sym c.lent.ensures.0

pub observe-requires-clause-limit : goal.observe-requires-clause-limit
observe-requires-clause-limit g c = let ends = g.P.Change.attempt.ends in λ w. c.requires.limit w ∙ ap (λ k. ends k.limit w) (sym c.lent.ensures.1)

pub observe-requires-clause-allowed : goal.observe-requires-clause-allowed
observe-requires-clause-allowed g c = may_by_key _ _ _ _ g.P.Change.attempt c.lent.ensures.1 c.requires.allowed

pub returns-in-Err-clause-ended : goal.returns-in-Err-clause-ended
returns-in-Err-clause-ended g c = ended_by_look _ _ g.P.Change.attempt c.in-Err.word _ _ c.lent.ensures.1 c.in-Err.ensures.ended

pub attempt_from-requires-clause-cell : goal.attempt_from-requires-clause-cell
attempt_from-requires-clause-cell g c = c.in-Ok.ensures.seat.0 ∙ c.requires.cell

pub attempt_from-requires-clause-limit : goal.attempt_from-requires-clause-limit
attempt_from-requires-clause-limit g c = let ends = g.P.Change.attempt.ends in λ w. ap (λ m. ends m.0.limit w) c.in-Ok.ensures.again.1.is ∙ c.requires.limit w

pub attempt_from-requires-clause-allowed : goal.attempt_from-requires-clause-allowed
attempt_from-requires-clause-allowed g c = let e = c.in-Ok.ensures in may_still _ _ _ _ _ _ g.P.Change.attempt c.in-Ok.word refl e.seat.1 e.again.1 c.requires.allowed

pub attempt_from-requires-clause-shares : goal.attempt_from-requires-clause-shares
attempt_from-requires-clause-shares g c = let e = c.in-Ok.ensures in count_still _ g.Self.Grip.gives _ _ _ _ _ _ g.P.Change.attempt c.in-Ok.word refl e.seat.1 e.again.1 c.requires.shares
