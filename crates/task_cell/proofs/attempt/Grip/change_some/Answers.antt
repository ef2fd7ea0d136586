use Rattle.task_cell.proofs.Vocabulary.{refl, sym, ap, ◌∙◌, IsUndecided}
use Rattle.task_cell.proofs.Attempts.{misses_from, may_still, count_still, may_by_key, ended_by_look}
use Rattle.task_cell.proofs.attempt.Grip.change_some.Goals as goal

pub observe-requires-clause-cell : goal.observe-requires-clause-cell
observe-requires-clause-cell g c = c.requires.cell ∙ sym c.lent.ensures.0

pub observe-requires-clause-limit : goal.observe-requires-clause-limit
observe-requires-clause-limit g c = let ends = g.P.Change.attempt.ends in λ w. c.requires.limit w ∙ ap (λ k. ends k.limit w) (sym c.lent.ensures.1)

pub observe-requires-clause-allowed : goal.observe-requires-clause-allowed
observe-requires-clause-allowed g c = may_by_key _ _ _ _ g.P.Change.attempt c.lent.ensures.1 c.requires.allowed

pub returns-in-Err-clause-tried : goal.returns-in-Err-clause-tried
returns-in-Err-clause-tried g c = ended_by_look _ _ g.P.Change.attempt c.in-Err.word _ _ c.lent.ensures.1 c.in-Err.ensures.ended

pub attempt_some-requires-clause-cell : goal.attempt_some-requires-clause-cell
attempt_some-requires-clause-cell g c = c.in-Ok.ensures.seat.0 ∙ c.requires.cell

pub attempt_some-requires-clause-limit : goal.attempt_some-requires-clause-limit
attempt_some-requires-clause-limit g c = let ends = g.P.Change.attempt.ends in λ w. ap (λ m. ends m.0.limit w) c.in-Ok.ensures.again.1.is ∙ c.requires.limit w

pub attempt_some-requires-clause-allowed : goal.attempt_some-requires-clause-allowed
attempt_some-requires-clause-allowed g c = let e = c.in-Ok.ensures in may_still _ _ _ _ _ _ g.P.Change.attempt c.in-Ok.word refl e.seat.1 e.again.1 c.requires.allowed

pub attempt_some-requires-clause-shares : goal.attempt_some-requires-clause-shares
attempt_some-requires-clause-shares g c = let e = c.in-Ok.ensures in count_still _ g.Self.Grip.gives _ _ _ _ _ _ g.P.Change.attempt c.in-Ok.word refl e.seat.1 e.again.1 c.requires.shares

pub returns-in-Ok-clause-missed : goal.returns-in-Ok-clause-missed
returns-in-Ok-clause-missed g c = misses_from (IsUndecided (g.Self.Grip.key c.args.self).limit g.P.Change.attempt) c.args.tries c.attempt_some.result c.args.party.now.seat.me c.observe.new.party.seat.me c.attempt_some.new.party.seat.me c.in-Ok.word c.requires.quiet c.in-Ok.ensures.found.1 c.attempt_some.ensures.looked
