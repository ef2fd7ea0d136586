use Rattle.task_cell.proofs.WakerCalls.{clone_says}
use Rattle.task_cell.proofs.waker.TaskWakerWake.try_clone.Goals as goal

pub returns : goal.returns
returns g c = let t = c.try_clone.ensures in clone_says _ _ _ _ _ c.try_clone.result t.cell t.around t.owned t.gained t.refused
