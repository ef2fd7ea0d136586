use Rattle.task_cell.proofs.Vocabulary.{ℕ, Option, [], subst, sym, StandsWith}
use Rattle.task_laws.specs.declared.positions.NotifyingCall.TheVariants.{OfRun}
use Rattle.task_laws.specs.declared.positions.Position.TheVariants.{Releaser}
use Rattle.task_steps.specs.Steps.{awaiter_first}
use Rattle.task_exports.specs.Answers.{Finishes}
use Rattle.task_exports.proofs.Along.{along}
use Rattle.task_exports.proofs.Crossing.{live_of}
use Rattle.task_exports.proofs.ends.async_task_finish.Goals as goal

pub finish-hand-requires-clause-hand : goal.finish-hand-requires-clause-hand
finish-hand-requires-clause-hand c = live_of _ _ c.open.ensures c.requires.handle

pub finish-hand-requires-clause-party : goal.finish-hand-requires-clause-party
finish-hand-requires-clause-party c = let s = c.requires.party in (s.0, s.1, subst (λ x. StandsWith (Releaser s.0 OfRun) (awaiter_first s.1 []) x.party) (sym c.open.ensures) s.2, s.3)

pub returns-clause-path : goal.returns-clause-path
returns-clause-path c = along (λ x k. (awaiter : Option ℕ) × Finishes x k awaiter c.finish-hand.result.1) _ _ _ _ c.open.ensures c.close-left.ensures c.finish-hand.ensures.path
