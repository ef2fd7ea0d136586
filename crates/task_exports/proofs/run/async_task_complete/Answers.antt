use Rattle.task_cell.proofs.Vocabulary.{[], subst, sym, Polling, StandsWith}
use Rattle.task_steps.specs.Steps.{work_first}
use Rattle.task_exports.specs.Answers.{Completed}
use Rattle.task_exports.proofs.Along.{along}
use Rattle.task_exports.proofs.Crossing.{live_of}
use Rattle.task_exports.proofs.run.async_task_complete.Goals as goal

pub complete-hand-requires-clause-hand : goal.complete-hand-requires-clause-hand
complete-hand-requires-clause-hand c = live_of _ _ c.open.ensures c.requires.handle

pub complete-hand-requires-clause-party : goal.complete-hand-requires-clause-party
complete-hand-requires-clause-party c = let s = c.requires.party in (s.0, subst (λ x. StandsWith Polling (work_first s.0 []) x.party) (sym c.open.ensures) s.1)

pub returns-clause-path : goal.returns-clause-path
returns-clause-path c = along (λ x k. Completed x k c.complete-hand.result.1) _ _ _ _ c.open.ensures c.close-left.ensures c.complete-hand.ensures.path
