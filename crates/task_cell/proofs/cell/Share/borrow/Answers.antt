use Rattle.task_steps.proofs.Lending.{enters}
use Rattle.task_cell.proofs.cell.Share.borrow.Goals as goal

pub load_new_seat-found-requires : goal.load_new_seat-found-requires
load_new_seat-found-requires g c = record { allowed = enters _ _ _ _ _ _ }
