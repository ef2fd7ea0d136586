use Rattle.task_cell.proofs.Vocabulary.{[], UnusedClone, drops_clone}
use Rattle.task_cell.proofs.Steps.{may_note}
use Rattle.task_cell.proofs.cell.Share.note_clone_dropped.Goals as goal

pub note-requires-clause-allowed : goal.note-requires-clause-allowed
note-requires-clause-allowed g c = let s = c.requires.party in may_note _ c.args.party.now (UnusedClone s.0) [] _ s.1 (drops_clone _ s.0 _ _)
