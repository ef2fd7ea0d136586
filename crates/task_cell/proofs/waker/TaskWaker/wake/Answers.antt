use Rattle.task_cell.proofs.WakerCalls.{is_given}
use Rattle.task_cell.proofs.Witnessed.{was_ended}
use Rattle.task_cell.proofs.waker.TaskWaker.wake.Goals as goal

pub returns-clause-given_up : goal.returns-clause-given_up
returns-clause-given_up g c = λ owned. let d = is_given _ c.discard.result (c.discard.ensures.owned owned) c.discard.ensures.path in (d.1.0, d.1.1, was_ended _ d.0.party d.1.0 d.1.2.1 d.0.witnessed)
