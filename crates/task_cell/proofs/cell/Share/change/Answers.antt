use Rattle.task_cell.proofs.Vocabulary.{◌∙◌}
use Rattle.task_cell.proofs.cell.Share.change.Goals as goal

pub none-requires : goal.none-requires
none-requires g c = record { there = c.in-Ok.ensures.share.is_there ∙ c.requires.none c.in-Ok.row; last = c.in-Ok.ensures.share.is_last }
