use Rattle.task_cell.proofs.Vocabulary.{[], CloneInHand, wakes_clone}
use Rattle.task_cell.proofs.Steps.{may_note}
use Rattle.task_cell.proofs.cell.Share.note_clone_woken.Goals as goal

pub note-requires-clause-allowed : goal.note-requires-clause-allowed
note-requires-clause-allowed g c = let s = c.requires.party in may_note _ c.args.party.now (CloneInHand s.0) [] _ s.1 (wakes_clone _ s.0 _ _)
