use Rattle.task_cell.proofs.Starting.{may_start, found_closed, started}
use Rattle.task_cell.proofs.cell.Share.take_up.Goals as goal

pub change-requires-clause-allowed : goal.change-requires-clause-allowed
change-requires-clause-allowed g c = (may_start _ _ _ _ _ c.args.party.now c.requires.party).0

pub change-requires-clause-shares : goal.change-requires-clause-shares
change-requires-clause-shares g c = (may_start _ _ _ _ _ c.args.party.now c.requires.party).1

pub returns-in-Ok : goal.returns-in-Ok
returns-in-Ok g c = started _ _ c.args.party.now c.change.new.party c.requires.party c.in-Ok.ensures.cell c.in-Ok.ensures.changed

pub returns-in-Err : goal.returns-in-Err
returns-in-Err g c = found_closed _ _ c.args.party.now c.change.new.party c.requires.party c.in-Err.ensures.cell c.in-Err.ensures.ended
