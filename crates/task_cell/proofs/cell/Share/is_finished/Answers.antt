use Rattle.std.proofs.Common.{refl}
use Rattle.task_cell.proofs.Vocabulary.{[], At, Task, looks_finished}
use Rattle.task_cell.proofs.Steps.{may_make}
use Rattle.task_cell.proofs.cell.Share.is_finished.Goals as goal

pub load-requires-clause-allowed : goal.load-requires-clause-allowed
load-requires-clause-allowed g c = let s = c.requires.party in may_make _ c.args.party.now (At (Task s.0)) [] _ _ s.1 (looks_finished _ _ _ _ _ s.0 _ _ _) (λ m f. refl)
