use Rattle.task_cell.proofs.Vocabulary.{[], as_ended}
use Rattle.task_cell.proofs.Moved.{stands}
use Rattle.task_cell.proofs.runnable.Runnable.discard.Goals as goal

pub record-requires-clause-party : goal.record-requires-clause-party
record-requires-clause-party g c = let d = c.discard_runnable.ensures in (as_ended, stands _ _ d.0 as_ended [] d.2)
