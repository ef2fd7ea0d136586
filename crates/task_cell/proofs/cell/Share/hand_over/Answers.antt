use Rattle.task_cell.proofs.Vocabulary.{ap, splits}
use Rattle.task_cell.proofs.cell.Share.hand_over.Goals as goal

pub split-requires-clause-allowed : goal.split-requires-clause-allowed
split-requires-clause-allowed g c = let s = c.requires.party in splits _ _ _ _ _ _ _ _ _ s.0 s.1 (ap (λ m. m.0) s.2)
