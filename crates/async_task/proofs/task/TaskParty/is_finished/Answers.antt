use Rattle.async_task.proofs.HandleParties.{stands_task}
use Rattle.async_task.proofs.task.TaskParty.is_finished.Goals as goal

pub is_finished-requires-clause-party : goal.is_finished-requires-clause-party
is_finished-requires-clause-party g c = let t = c.args.self.now in stands_task t.party t.alone t.placed t.free
