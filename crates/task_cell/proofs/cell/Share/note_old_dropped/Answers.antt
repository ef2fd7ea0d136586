use Rattle.task_cell.proofs.Vocabulary.{[], Some, awaiter_first, drops_stored}
use Rattle.task_laws.specs.declared.positions.Position.TheVariants.{OldAwaiterInHand}
use Rattle.task_cell.proofs.Steps.{may_note}
use Rattle.task_cell.proofs.cell.Share.note_old_dropped.Goals as goal

pub note-requires-clause-allowed : goal.note-requires-clause-allowed
note-requires-clause-allowed g c = let s = c.requires.party in may_note _ c.args.party.now (OldAwaiterInHand s.0 s.1) (awaiter_first (Some s.2) []) _ s.3 (drops_stored _ s.0 s.1 _ _)
