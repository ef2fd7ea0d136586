use Rattle.task_cell.proofs.Vocabulary.{◌∙◌}
use Rattle.task_cell.proofs.Attempts.{decided}
use Rattle.task_cell.proofs.cell.Share.alter_some.Goals as goal

pub none-requires : goal.none-requires
none-requires g c = record { there = c.in-Made.ensures.share.is_there ∙ c.requires.none c.in-Made.row; last = c.in-Made.ensures.share.is_last }

pub returns-in-Again-clause-missed : goal.returns-in-Again-clause-missed
returns-in-Again-clause-missed g c = decided _ g.P.Change.attempt _ c.requires.decided c.in-Again.ensures.missed
