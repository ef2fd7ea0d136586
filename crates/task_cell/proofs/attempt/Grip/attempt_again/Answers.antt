use Rattle.task_cell.proofs.Vocabulary.{sym, refl, ap, ◌∙◌}
use Rattle.task_cell.proofs.Attempts.{seeing_first, may_still_by, count_still_by, left_by, changed_by_key, ended_by_key}
use Rattle.task_cell.proofs.attempt.Grip.attempt_again.Goals as goal

pub loop-init : goal.loop-init
loop-init g c = let s = c.requires.seen in record { cell = refl; seat = refl; same = (refl, refl, refl); room = c.requires.room; seeing = seeing_first c.args.word c.args.party.now.seat.me s.0 s.1 s.2 }

pub attempt_some-requires-clause-allowed : goal.attempt_some-requires-clause-allowed
attempt_some-requires-clause-allowed g c = let i = c.loop.invariant in may_still_by _ _ _ _ _ _ g.P.Change.attempt c.loop.word i.same.2 i.seat i.seeing c.requires.allowed

pub attempt_some-requires-clause-shares : goal.attempt_some-requires-clause-shares
attempt_some-requires-clause-shares g c = let i = c.loop.invariant in count_still_by g.Self.Grip.gives _ _ _ _ _ _ g.P.Change.attempt c.loop.word i.same.2 i.seat i.seeing c.requires.shares

pub returns-in-Made-clause-changed : goal.returns-in-Made-clause-changed
returns-in-Made-clause-changed g c = let i = c.loop.invariant in changed_by_key _ _ g.P.Change.attempt c.loop.word c.in-Made.row _ _ _ i.same.2 i.seeing c.in-Made.ensures.tried

pub returns-in-Ended-clause-ended : goal.returns-in-Ended-clause-ended
returns-in-Ended-clause-ended g c = let i = c.loop.invariant in ended_by_key _ _ g.P.Change.attempt c.loop.word c.in-Ended.found _ _ _ i.same.2 i.seeing c.in-Ended.ensures.tried

pub attempt_some-requires-clause-cell : goal.attempt_some-requires-clause-cell
attempt_some-requires-clause-cell g c = let i = c.loop.invariant in i.cell ∙ (c.requires.cell ∙ sym i.same.0)

pub attempt_some-requires-clause-limit : goal.attempt_some-requires-clause-limit
attempt_some-requires-clause-limit g c = let i = c.loop.invariant in let ends = g.P.Change.attempt.ends in λ w. ap (λ m. ends m.0.limit w) i.seeing.is ∙ (c.requires.limit w ∙ ap (λ k. ends k.limit w) (sym i.same.2))

pub returns-in-Made-clause-cell : goal.returns-in-Made-clause-cell
returns-in-Made-clause-cell g c = c.in-Made.ensures.seat.0 ∙ c.loop.invariant.cell

pub returns-in-Made-clause-share : goal.returns-in-Made-clause-share
returns-in-Made-clause-share g c = let i = c.loop.invariant in let e = c.in-Made.ensures.share in left_by g.Self.Grip.gives _ _ _ _ _ _ _ _ _ i.same e

pub returns-in-Ended-clause-cell : goal.returns-in-Ended-clause-cell
returns-in-Ended-clause-cell g c = c.in-Ended.ensures.seat.0 ∙ c.loop.invariant.cell

pub returns-in-Ended-clause-kept : goal.returns-in-Ended-clause-kept
returns-in-Ended-clause-kept g c = let i = c.loop.invariant in let e = c.in-Ended.ensures.share in (e.0 ∙ i.same.0, e.1 ∙ i.same.1, e.2 ∙ i.same.2)
