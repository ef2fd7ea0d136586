use Rattle.task_cell.proofs.Vocabulary.{sym, ◌∙◌, Nothing, Task, OfCancel}
use Rattle.task_cell.proofs.Moved.{stands}
use Rattle.task_cell.proofs.RunRest.{due_cell, cancel_has}
use Rattle.task_cell.proofs.TaskMoves.{ends_noticed}
use Rattle.task_cell.proofs.cell.Share.leave_closed.Goals as goal

pub wake_taken-requires-clause-cell : goal.wake_taken-requires-clause-cell
wake_taken-requires-clause-cell g c = let s = c.requires.party in due_cell _ _ _ _ _ (c.take_due-awaiter.ensures (OfCancel s.0) s.1) ∙ (c.requires.cell ∙ sym c.ledger-ledger.ensures)

pub wake_taken-requires-clause-party : goal.wake_taken-requires-clause-party
wake_taken-requires-clause-party g c = let s = c.requires.party in (OfCancel s.0, cancel_has _ _ _ _ _ (c.take_due-awaiter.ensures (OfCancel s.0) s.1))

pub end-requires-clause-cell : goal.end-requires-clause-cell
end-requires-clause-cell g c = let s = c.requires.party in let d = c.take_due-awaiter.ensures (OfCancel s.0) s.1 in let k = c.wake_taken.ensures (OfCancel s.0) (cancel_has _ _ _ _ _ d) in
    k.2.cell ∙ (due_cell _ _ _ _ _ d ∙ (c.requires.cell ∙ sym c.ledger-ledger.ensures))

pub end-requires-clause-party : goal.end-requires-clause-party
end-requires-clause-party g c = let s = c.requires.party in let d = c.take_due-awaiter.ensures (OfCancel s.0) s.1 in let k = c.wake_taken.ensures (OfCancel s.0) (cancel_has _ _ _ _ _ d) in
    (Nothing, Task s.0, stands _ _ _ _ _ k.2)

pub returns : goal.returns
returns g c = λ n s. let d = c.take_due-awaiter.ensures (OfCancel n) s in ends_noticed _ _ _ _ _ n _ _ d (c.wake_taken.ensures (OfCancel n) (cancel_has _ _ _ _ _ d)) c.end.ensures
