use Rattle.task_cell.proofs.Vocabulary.{subst, IfOk, IfErr, HasChanged, HasEnded}
use Rattle.task_cell.specs.Belongs.{limit_in}
use Rattle.task_steps.specs.PollScripts.{to_begin_register}
use Rattle.task_cell.proofs.PollMoved.{may_register, found_one, begun}
use Rattle.task_cell.specs.Belongs.{values_in}
use Rattle.task_cell.proofs.Attempts.{clear_or_set}
use Rattle.task_cell.proofs.cell.Share.begin_register_some.Goals as goal

pub alter_some-requires-clause-allowed : goal.alter_some-requires-clause-allowed
alter_some-requires-clause-allowed g c = let s = c.requires.party in (may_register _ _ _ _ _ c.args.party.now s.0 s.1).0

pub alter_some-requires-clause-shares : goal.alter_some-requires-clause-shares
alter_some-requires-clause-shares g c = let s = c.requires.party in (may_register _ _ _ _ _ c.args.party.now s.0 s.1).1

pub returns-in-Ok-clause-path : goal.returns-in-Ok-clause-path
returns-in-Ok-clause-path g c = let s = c.requires.party in let e = c.in_ok-alter_some.ensures in let p = c.args.party.now in let q = c.alter_some.new.party in
    begun _ s.0 _ p q s.1 e.cell (subst (λ x. IfOk x (λ row. HasChanged (values_in c.args.self.now) (limit_in c.args.self.now) to_begin_register row p.seat.me q.seat.me)) c.in-Ok.is e.changed)

pub returns-in-Err-clause-path : goal.returns-in-Err-clause-path
returns-in-Err-clause-path g c = let s = c.requires.party in let e = c.in_ok-alter_some.ensures in let p = c.args.party.now in let q = c.alter_some.new.party in
    found_one _ s.0 _ p q s.1 e.cell (subst (λ x. IfErr x (λ w. HasEnded (values_in c.args.self.now) (limit_in c.args.self.now) to_begin_register w p.seat.me q.seat.me)) c.in-Err.is e.ended)

pub alter_some-requires-clause-decided : goal.alter_some-requires-clause-decided
alter_some-requires-clause-decided g c = λ w h. clear_or_set w.notifying
