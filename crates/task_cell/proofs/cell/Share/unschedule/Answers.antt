use Rattle.task_cell.proofs.Vocabulary.{[], refl, FutureGone, Empty, unschedules, work_first}
use Rattle.task_cell.proofs.Steps.{may_make}
use Rattle.task_cell.proofs.cell.Share.unschedule.Goals as goal

pub fetch_and-requires-clause-allowed : goal.fetch_and-requires-clause-allowed
fetch_and-requires-clause-allowed g c = let s = c.requires.party in may_make _ c.args.party.now (FutureGone s.0) (work_first Empty []) _ _ s.1 (unschedules _ _ _ _ _ s.0 _ _ _ refl) (λ m f. refl)
