use Rattle.task_cell.proofs.Vocabulary.{[], ap, position, poll_number}
use Rattle.task_cell.proofs.Moved as moved
use Rattle.task_cell.proofs.Registrations.{registers_after}
use Rattle.async_task.proofs.HandleParties.{then_polls}
use Rattle.async_task.proofs.cancel.Cancel.poll.Goals as goal

pub returns-clause-path : goal.returns-clause-path
returns-clause-path g c = let f = c.cancel_once.ensures.path in let h = c.poll.ensures.path in (f.0, h.0, f.1, h.1, then_polls _ _ _ f.0 h.0 f.2 h.2)

pub returns-clause-registered : goal.returns-clause-registered
returns-clause-registered g c = λ e. let f = c.cancel_once.ensures.path in let p = c.args.self.now.task.inner.party in let m = c.cancel_once.new.self.task.inner.party in
    registers_after g.A.Wake c.args.awaiter.now p m _ f.0 (position p) f.2 (ap poll_number (moved.position_is m (position p) [] (moved.stands p m f.0 (position p) [] f.2))) (c.poll.ensures.registered e)
