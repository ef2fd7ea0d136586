use Rattle.task_cell.proofs.Vocabulary.{[], Answering, ends_poll}
use Rattle.task_cell.proofs.Steps.{may_note}
use Rattle.task_cell.proofs.cell.Share.end_poll.Goals as goal

pub note-requires-clause-allowed : goal.note-requires-clause-allowed
note-requires-clause-allowed g c = let s = c.requires.party in may_note _ c.args.party.now (Answering s.0 s.1) [] _ s.2 (ends_poll _ s.0 s.1 _ _)
