use Rattle.task_cell.proofs.Vocabulary.{has_output}
use Rattle.task_cell.proofs.PollMoved.{may_look_again}
use Rattle.task_cell.proofs.PollTried.{tried_look_again}
use Rattle.task_cell.proofs.Attempts.{set_or_clear}
use Rattle.task_cell.proofs.cell.Share.look_again_some.Goals as goal

pub alter_some-requires-clause-allowed : goal.alter_some-requires-clause-allowed
alter_some-requires-clause-allowed g c = let s = c.requires.party in (may_look_again _ _ _ _ _ c.args.party.now s.0 s.1).0

pub alter_some-requires-clause-shares : goal.alter_some-requires-clause-shares
alter_some-requires-clause-shares g c = let s = c.requires.party in (may_look_again _ _ _ _ _ c.args.party.now s.0 s.1).1

pub returns-clause-path : goal.returns-clause-path
returns-clause-path g c = let s = c.requires.party in let e = c.alter_some.ensures in tried_look_again _ _ s.0 c.alter_some.result c.args.party.now c.alter_some.new.party s.1 e.cell e.changed e.ended

pub alter_some-requires-clause-decided : goal.alter_some-requires-clause-decided
alter_some-requires-clause-decided g c = λ w h. set_or_clear (has_output w)
