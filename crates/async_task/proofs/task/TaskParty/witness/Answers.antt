use Rattle.task_cell.proofs.Vocabulary.{[]}
use Rattle.task_steps.specs.Standing.{as_task}
use Rattle.async_task.proofs.HandleParties.{stands_task}
use Rattle.async_task.proofs.task.TaskParty.witness.Goals as goal

pub witness-requires-clause-party : goal.witness-requires-clause-party
witness-requires-clause-party g c = let t = c.args.self.now in let s = stands_task t.party t.alone t.placed t.free in (as_task s.0, [], s.1)
