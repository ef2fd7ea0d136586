use Rattle.task_cell.proofs.Vocabulary.{[], OrphanHolder, closes_orphan, state_of}
use Rattle.task_cell.proofs.Steps.{may_act}
use Rattle.task_cell.proofs.WakerMoves as moves
use Rattle.task_cell.proofs.cell.LastShare.close_orphan.Goals as goal

pub revive-block-requires-clause-allowed : goal.revive-block-requires-clause-allowed
revive-block-requires-clause-allowed g c = may_act _ c.args.party.now OrphanHolder [] _ _ c.requires.party (closes_orphan _ _ _ _ _ _ _ _)

pub returns-clause-path : goal.returns-clause-path
returns-clause-path g c = let s = c.requires.party in let e = c.revive-block.ensures.seat in moves.closes_orphan (state_of c.revive-block.result.0) c.args.party.now (record { seat = c.revive-block.new.seat }) s e.0 e.2.0
