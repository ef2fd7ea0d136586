use Rattle.task_cell.proofs.awaiter.LentAwaiter.wake.Goals as goal

pub returns : goal.returns
returns g c = (c.wake_by_ref.result, c.wake_by_ref.ensures)
