use Rattle.task_cell.proofs.Vocabulary.{subst, IfOk, IfErr, HasChanged, HasEnded, Some}
use Rattle.task_cell.specs.Belongs.{limit_in}
use Rattle.task_steps.specs.PollScripts.{to_end_register}
use Rattle.task_cell.proofs.PollMoved.{may_give_back, ended, notified}
use Rattle.task_cell.specs.Belongs.{values_in}
use Rattle.task_cell.proofs.Attempts.{clear_or_set}
use Rattle.task_cell.proofs.cell.Share.end_register_some.Goals as goal

pub alter_some-requires-clause-allowed : goal.alter_some-requires-clause-allowed
alter_some-requires-clause-allowed g c = let s = c.requires.party in (may_give_back _ _ _ _ _ c.args.party.now s.0 s.1 s.3 s.2).0

pub alter_some-requires-clause-shares : goal.alter_some-requires-clause-shares
alter_some-requires-clause-shares g c = let s = c.requires.party in (may_give_back _ _ _ _ _ c.args.party.now s.0 s.1 s.3 s.2).1

pub returns-in-Ok-clause-path : goal.returns-in-Ok-clause-path
returns-in-Ok-clause-path g c = let s = c.requires.party in let e = c.in_ok-alter_some.ensures in let p = c.args.party.now in let q = c.alter_some.new.party in
    ended _ s.0 _ (Some s.1) p q s.2 e.cell (subst (λ x. IfOk x (λ row. HasChanged (values_in c.args.self.now) (limit_in c.args.self.now) to_end_register row p.seat.me q.seat.me)) c.in-Ok.is e.changed)

pub returns-in-Err-clause-path : goal.returns-in-Err-clause-path
returns-in-Err-clause-path g c = let s = c.requires.party in let e = c.in_ok-alter_some.ensures in let p = c.args.party.now in let q = c.alter_some.new.party in
    notified _ s.0 _ (Some s.1) p q s.2 e.cell (subst (λ x. IfErr x (λ w. HasEnded (values_in c.args.self.now) (limit_in c.args.self.now) to_end_register w p.seat.me q.seat.me)) c.in-Err.is e.ended)

pub alter_some-requires-clause-decided : goal.alter_some-requires-clause-decided
alter_some-requires-clause-decided g c = λ w h. clear_or_set w.notifying
