use Rattle.task_steps.proofs.places.Held+StoredAwaiter+A.wake.Goals as goal

pub returns : goal.returns
returns g c = (c.wake.result, c.wake.ensures)
