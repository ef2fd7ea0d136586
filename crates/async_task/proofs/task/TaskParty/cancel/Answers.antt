use Rattle.async_task.proofs.HandleParties.{stands_task}
use Rattle.async_task.proofs.task.TaskParty.cancel.Goals as goal

pub cancel-requires-clause-party : goal.cancel-requires-clause-party
cancel-requires-clause-party g c = let t = c.args.self.now in stands_task t.party t.alone t.placed t.free
