use Rattle.std.proofs.Common.{[]}
use Rattle.task_exports.proofs.Looks.{end_answers, end_passes, end_takes_it}
use Rattle.task_cell.proofs.Moved.{stands}
use Rattle.task_laws.specs.declared.positions.NotifyingCall.TheVariants.{OfPoll}
use Rattle.task_laws.specs.declared.positions.PollAnswer.TheVariants.{IsClosed}
use Rattle.task_exports.proofs.look.go_on_ended.Goals as goal

pub begin_notify-requires-clause-party : goal.begin_notify-requires-clause-party
begin_notify-requires-clause-party c = let s = c.requires.party in (OfPoll s.0, [], s.1)

pub returns-then-begin_notify : goal.returns-then-begin_notify
returns-then-begin_notify c = λ i s. end_takes_it i c.args.party.now c.begin_notify.new.party c.begin_notify.result s c.begin_notify.ensures c.if-begin_notify.true

pub end_poll-requires-clause-party : goal.end_poll-requires-clause-party
end_poll-requires-clause-party c = let s = c.requires.party in let x = end_answers s.0 c.args.party.now c.begin_notify.new.party c.begin_notify.result s.1 c.begin_notify.ensures c.if-begin_notify.false in (s.0, IsClosed, stands _ _ _ _ _ x.2)

pub returns : goal.returns
returns c = λ i s. end_passes i c.args.party.now c.begin_notify.new.party c.end_poll.new.party c.begin_notify.result s c.begin_notify.ensures c.if-begin_notify.false c.end_poll.ensures
