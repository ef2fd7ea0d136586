use Rattle.task_cell.proofs.Vocabulary.{AwaiterInHand, drops}
use Rattle.task_cell.proofs.Steps.{may_note}
use Rattle.task_cell.proofs.share.Ledger.note_dropped.Goals as goal

pub note-requires-clause-allowed : goal.note-requires-clause-allowed
note-requires-clause-allowed g c = let s = c.requires.party in may_note _ c.args.party.now (AwaiterInHand s.0 s.1) s.2 _ s.3 (drops _ s.0 s.1 _ _ s.4)
