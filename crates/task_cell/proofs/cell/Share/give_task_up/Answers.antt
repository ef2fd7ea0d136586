use Rattle.task_cell.proofs.TaskMoves.{may_detach, gives_up}
use Rattle.task_cell.proofs.cell.Share.give_task_up.Goals as goal

pub attempt-requires-clause-allowed : goal.attempt-requires-clause-allowed
attempt-requires-clause-allowed g c = let s = c.requires.party in (may_detach _ _ _ _ _ c.args.party.now s.0 s.1).0

pub attempt-requires-clause-shares : goal.attempt-requires-clause-shares
attempt-requires-clause-shares g c = let s = c.requires.party in (may_detach _ _ _ _ _ c.args.party.now s.0 s.1).1

pub returns-clause-path : goal.returns-clause-path
returns-clause-path g c = let s = c.requires.party in let e = c.in-Ok.ensures in gives_up _ c.args.party.now c.attempt.new.party s.0 c.in-Ok.made.0 s.1 e.cell e.changed
