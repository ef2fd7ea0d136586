use Rattle.task_cell.proofs.Vocabulary.{is_registered, clone_refused}
use Rattle.task_cell.proofs.cell.Share.register.Goals as goal

pub returns : goal.returns
returns g c = clone_refused _ c.in-Err.ensures.refused c.note_refused.ensures

pub returns-in-Ok : goal.returns-in-Ok
returns-in-Ok g c = let r = c.register_clone.ensures in is_registered r.0 r.1 r.2 r.3
