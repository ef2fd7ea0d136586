use Rattle.task_cell.proofs.PollMoved.{may_register, found_one, begun}
use Rattle.task_cell.proofs.cell.Share.begin_register.Goals as goal

pub change-requires-clause-allowed : goal.change-requires-clause-allowed
change-requires-clause-allowed g c = let s = c.requires.party in (may_register _ _ _ _ _ c.args.party.now s.0 s.1).0

pub change-requires-clause-shares : goal.change-requires-clause-shares
change-requires-clause-shares g c = let s = c.requires.party in (may_register _ _ _ _ _ c.args.party.now s.0 s.1).1

pub returns-in-Ok : goal.returns-in-Ok
returns-in-Ok g c = let s = c.requires.party in begun _ s.0 _ c.args.party.now c.change.new.party s.1 c.in-Ok.ensures.cell c.in-Ok.ensures.changed

pub returns-in-Err : goal.returns-in-Err
returns-in-Err g c = let s = c.requires.party in found_one _ s.0 _ c.args.party.now c.change.new.party s.1 c.in-Err.ensures.cell c.in-Err.ensures.ended
