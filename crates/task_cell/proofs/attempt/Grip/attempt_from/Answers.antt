use Rattle.task_cell.proofs.Vocabulary.{sym, ap, ◌∙◌}
use Rattle.task_cell.proofs.Attempts.{may_still_by, count_still_by, left_by, changed_by_key, ended_by_key}
use Rattle.task_cell.proofs.attempt.Grip.attempt_from.Goals as goal

pub attempt_again-requires-clause-allowed : goal.attempt_again-requires-clause-allowed
attempt_again-requires-clause-allowed g c = let e = c.in-Again.ensures in may_still_by _ _ _ _ _ _ g.P.Change.attempt c.in-Again.found e.share.2 e.seat.1 e.tried.1 c.requires.allowed

pub attempt_again-requires-clause-shares : goal.attempt_again-requires-clause-shares
attempt_again-requires-clause-shares g c = let e = c.in-Again.ensures in count_still_by g.Self.Grip.gives _ _ _ _ _ _ g.P.Change.attempt c.in-Again.found e.share.2 e.seat.1 e.tried.1 c.requires.shares

pub attempt_again-requires-clause-cell : goal.attempt_again-requires-clause-cell
attempt_again-requires-clause-cell g c = let e = c.in-Again.ensures in e.seat.0 ∙ (c.requires.cell ∙ sym e.share.0)

pub attempt_again-requires-clause-limit : goal.attempt_again-requires-clause-limit
attempt_again-requires-clause-limit g c = let e = c.in-Again.ensures in let ends = g.P.Change.attempt.ends in λ w. ap (λ m. ends m.0.limit w) e.tried.1.is ∙ (c.requires.limit w ∙ ap (λ k. ends k.limit w) (sym e.share.2))

pub returns-in-Ok-clause-cell : goal.returns-in-Ok-clause-cell
returns-in-Ok-clause-cell g c = c.in-Ok.ensures.cell ∙ c.in-Again.ensures.seat.0

pub returns-in-Ok-clause-changed : goal.returns-in-Ok-clause-changed
returns-in-Ok-clause-changed g c = let e = c.in-Again.ensures in changed_by_key _ _ g.P.Change.attempt c.in-Again.found c.in-Ok.row _ _ _ e.share.2 e.tried.1 c.in-Ok.ensures.changed

pub returns-in-Ok-clause-share : goal.returns-in-Ok-clause-share
returns-in-Ok-clause-share g c = let i = c.in-Again.ensures.share in left_by g.Self.Grip.gives _ _ _ _ _ _ _ _ _ i c.in-Ok.ensures.share

pub returns-in-Err-clause-cell : goal.returns-in-Err-clause-cell
returns-in-Err-clause-cell g c = c.in-Err.ensures.cell ∙ c.in-Again.ensures.seat.0

pub returns-in-Err-clause-ended : goal.returns-in-Err-clause-ended
returns-in-Err-clause-ended g c = let e = c.in-Again.ensures in ended_by_key _ _ g.P.Change.attempt c.in-Again.found _ _ _ _ e.share.2 e.tried.1 c.in-Err.ensures.ended

pub returns-in-Err-clause-kept : goal.returns-in-Err-clause-kept
returns-in-Err-clause-kept g c = let i = c.in-Again.ensures.share in let e = c.in-Err.ensures.kept in (e.0 ∙ i.0, e.1 ∙ i.1, e.2 ∙ i.2)
