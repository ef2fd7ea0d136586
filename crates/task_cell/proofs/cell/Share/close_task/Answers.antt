use Rattle.task_cell.proofs.TaskMoves.{may_cancel, closes, looks_over}
use Rattle.task_cell.proofs.cell.Share.close_task.Goals as goal

pub attempt-requires-clause-allowed : goal.attempt-requires-clause-allowed
attempt-requires-clause-allowed g c = let s = c.requires.party in (may_cancel _ _ _ _ _ c.args.party.now s.0 s.1).0

pub attempt-requires-clause-shares : goal.attempt-requires-clause-shares
attempt-requires-clause-shares g c = let s = c.requires.party in (may_cancel _ _ _ _ _ c.args.party.now s.0 s.1).1

pub returns-in-Ok-clause-path : goal.returns-in-Ok-clause-path
returns-in-Ok-clause-path g c = λ n s. closes _ c.args.party.now c.attempt.new.party n c.in-Ok.made.0 s c.in-Ok.ensures.cell c.in-Ok.ensures.changed

pub returns-in-Err-clause-path : goal.returns-in-Err-clause-path
returns-in-Err-clause-path g c = λ n s. looks_over _ c.args.party.now c.attempt.new.party n _ s c.in-Err.ensures.cell c.in-Err.ensures.ended
