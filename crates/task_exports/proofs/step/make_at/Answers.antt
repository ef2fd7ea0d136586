use Rattle.std.proofs.Common.{sym, subst}
use Rattle.task_exports.proofs.Along.{along}
use Rattle.task_exports.proofs.Crossing.{live_of}
use Rattle.task_exports.specs.Parties.{Stays}
use Rattle.task_exports.proofs.step.make_at.Goals as goal

pub make_with-hand-requires-clause-handle : goal.make_with-hand-requires-clause-handle
make_with-hand-requires-clause-handle g c = live_of _ _ c.take.ensures.0 c.requires.handle.1

pub make_with-hand-requires-clause-starts : goal.make_with-hand-requires-clause-starts
make_with-hand-requires-clause-starts g c = subst (λ x. g.S.Step.starts c.args.step x.party) (sym c.take.ensures.0) c.requires.starts

pub returns-clause-handle : goal.returns-clause-handle
returns-clause-handle g c = let s = along Stays _ _ _ _ c.take.ensures.0 c.put.ensures.0 c.make_with-hand.ensures.handle in (c.put.ensures.1, s.0, s.1, s.2, s.3)

pub returns-clause-does : goal.returns-clause-does
returns-clause-does g c = along (λ x k. g.S.Step.does c.args.step x.party k.party c.make_with-hand.result.1) _ _ _ _ c.take.ensures.0 c.put.ensures.0 c.make_with-hand.ensures.does
