use Rattle.task_cell.proofs.Vocabulary.{[], refl, OutputCloser, Empty, drops_output, work_first}
use Rattle.task_cell.proofs.Steps.{may_make}
use Rattle.task_cell.proofs.cell.Share.note_output_dropped.Goals as goal

pub load-requires-clause-allowed : goal.load-requires-clause-allowed
load-requires-clause-allowed g c = may_make _ c.args.party.now OutputCloser (work_first Empty []) _ _ c.requires.party (drops_output _ _ _ _ _ _ _ _ refl) (λ m f. refl)
