use Rattle.task_cell.proofs.PollMoved.{may_look_again, looks_again_so}
use Rattle.task_cell.proofs.cell.Share.look_again.Goals as goal

pub change-requires-clause-allowed : goal.change-requires-clause-allowed
change-requires-clause-allowed g c = let s = c.requires.party in (may_look_again _ _ _ _ _ c.args.party.now s.0 s.1).0

pub change-requires-clause-shares : goal.change-requires-clause-shares
change-requires-clause-shares g c = let s = c.requires.party in (may_look_again _ _ _ _ _ c.args.party.now s.0 s.1).1

pub returns : goal.returns
returns g c = let s = c.requires.party in looks_again_so _ s.0 c.change.result c.args.party.now c.change.new.party s.1 c.change.ensures.cell c.change.ensures.changed c.change.ensures.ended
