use Rattle.task_cell.proofs.Vocabulary.{[], CallEnding}
use Rattle.task_cell.proofs.Steps.{may_note}
use Rattle.task_steps.proofs.AwaiterOwed.{ends}
use Rattle.task_cell.proofs.share.Ledger.end.Goals as goal

pub note-requires-clause-allowed : goal.note-requires-clause-allowed
note-requires-clause-allowed g c = let s = c.requires.party in may_note _ c.args.party.now (CallEnding s.0 s.1) [] _ s.2 (ends _ s.0 s.1 _ _)
