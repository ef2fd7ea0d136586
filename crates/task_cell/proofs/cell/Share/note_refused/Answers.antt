use Rattle.task_cell.proofs.Vocabulary.{[], Registrar, refuses}
use Rattle.task_cell.proofs.Steps.{may_note}
use Rattle.task_cell.proofs.cell.Share.note_refused.Goals as goal

pub note-requires-clause-allowed : goal.note-requires-clause-allowed
note-requires-clause-allowed g c = let s = c.requires.party in may_note _ c.args.party.now (Registrar s.0) [] _ s.1 (refuses _ s.0 _ _)
