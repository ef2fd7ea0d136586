use Rattle.task_cell.proofs.WakerMoves.{fresh_stands}
use Rattle.task_steps.specs.Standing.{as_lent}
use Rattle.task_cell.proofs.waker.TaskWaker.wake_again.Goals as goal

pub end_wake-requires-clause-party : goal.end_wake-requires-clause-party
end_wake-requires-clause-party g c = let s = c.requires.party in (s.0, s.1, c.wake_again-woken.ensures.path s.0 (fresh_stands as_lent _ s.0 s.1.1) s.2)
