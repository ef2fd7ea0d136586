use Rattle.std.proofs.Common.{sym, subst}
use Rattle.task_cell.proofs.Moved.{stands}
use Rattle.task_cell.specs.Calls.{Did}
use Rattle.task_exports.specs.Answers.{empties}
use Rattle.task_steps.specs.Standing.{as_ended}
use Rattle.task_exports.proofs.calls.ends.empty.Goals as goal

pub over-requires-clause-party : goal.over-requires-clause-party
over-requires-clause-party g c = stands _ _ _ _ _ c.async_task_empty.ensures.path.1

pub returns-in-12 : goal.returns-in-12
returns-in-12 g c = subst (λ q. Did (empties c.args.took) as_ended c.args.h.now.hand.party q) (sym c.over.ensures) c.async_task_empty.ensures.path.1

pub over-requires-in-2-clause-party : goal.over-requires-in-2-clause-party
over-requires-in-2-clause-party g c = stands _ _ _ _ _ c.async_task_empty.ensures.path.1

pub returns-in-2 : goal.returns-in-2
returns-in-2 g c = subst (λ q. Did (empties c.args.took) as_ended c.args.h.now.hand.party q) (sym c.over-in-2.ensures) c.async_task_empty.ensures.path.1
