use Rattle.task_cell.proofs.Vocabulary.{Some}
use Rattle.task_cell.proofs.PollMoved.{may_give_back, ended, notified}
use Rattle.task_cell.proofs.cell.Share.end_register.Goals as goal

pub change-requires-clause-allowed : goal.change-requires-clause-allowed
change-requires-clause-allowed g c = let s = c.requires.party in (may_give_back _ _ _ _ _ c.args.party.now s.0 s.1 s.3 s.2).0

pub change-requires-clause-shares : goal.change-requires-clause-shares
change-requires-clause-shares g c = let s = c.requires.party in (may_give_back _ _ _ _ _ c.args.party.now s.0 s.1 s.3 s.2).1

pub returns-in-Ok : goal.returns-in-Ok
returns-in-Ok g c = let s = c.requires.party in ended _ s.0 _ (Some s.1) c.args.party.now c.change.new.party s.2 c.in-Ok.ensures.cell c.in-Ok.ensures.changed

pub returns-in-Err : goal.returns-in-Err
returns-in-Err g c = let s = c.requires.party in notified _ s.0 _ (Some s.1) c.args.party.now c.change.new.party s.2 c.in-Err.ensures.cell c.in-Err.ensures.ended
