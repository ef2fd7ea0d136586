use Rattle.task_cell.proofs.Vocabulary.{subst, sym, Stands}
use Rattle.task_steps.specs.Standing.{as_runnable}
use Rattle.task_exports.specs.Answers.{Starts}
use Rattle.task_exports.proofs.Along.{along}
use Rattle.task_exports.proofs.Crossing.{live_of}
use Rattle.task_exports.proofs.run.async_task_start.Goals as goal

pub start-hand-requires-clause-hand : goal.start-hand-requires-clause-hand
start-hand-requires-clause-hand c = live_of _ _ c.open.ensures c.requires.handle

pub start-hand-requires-clause-party : goal.start-hand-requires-clause-party
start-hand-requires-clause-party c = subst (λ x. Stands as_runnable x.party) (sym c.open.ensures) c.requires.party

pub returns-clause-path : goal.returns-clause-path
returns-clause-path c = along (λ x k. Starts x k c.start-hand.result.1) _ _ _ _ c.open.ensures c.close-left.ensures c.start-hand.ensures.path
