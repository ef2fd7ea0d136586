use Rattle.std.proofs.Common.{[], ◌∙◌}
use Rattle.task_exports.proofs.Polling.{poll_ends_alone, poll_has_hand, poll_has_none}
use Rattle.task_cell.proofs.Moved.{stands}
use Rattle.task_laws.specs.declared.positions.NotifyingCall.TheVariants.{OfPoll}
use Rattle.task_laws.specs.declared.positions.PollAnswer.TheVariants.{IsClosed}
use Rattle.task_exports.proofs.poll.PollTakenStep.make.Goals as goal

pub end_notify-requires-clause-party : goal.end_notify-requires-clause-party
end_notify-requires-clause-party c = let s = c.requires.starts in (s.1.0, OfPoll s.0, s.1.1, [], s.1.3, s.1.2)

pub returns-in-Some : goal.returns-in-Some
returns-in-Some c = record { does = λ n s1. (poll_has_hand n s1.0 c.args.party.now c.end_notify.new.party c.end_notify.result c.in-Some.awaiter (c.end_notify.ensures s1.0 (OfPoll n) s1.1 [] s1.3 s1.2) c.in-Some.is) }

pub end_poll-requires-clause-party : goal.end_poll-requires-clause-party
end_poll-requires-clause-party c = let s = c.requires.starts in let x = poll_has_none s.0 s.1.0 c.args.party.now c.end_notify.new.party c.end_notify.result (c.end_notify.ensures s.1.0 (OfPoll s.0) s.1.1 [] s.1.3 s.1.2) c.in-None.is in
    (s.0, IsClosed, stands _ _ _ _ _ x.1)

pub returns-in-None : goal.returns-in-None
returns-in-None c = record { does = λ n s1. (poll_ends_alone n s1.0 c.args.party.now c.end_notify.new.party c.end_poll.new.party c.end_notify.result (c.end_notify.ensures s1.0 (OfPoll n) s1.1 [] s1.3 s1.2) c.in-None.is c.end_poll.ensures) }

pub end_poll-requires-clause-cell : goal.end_poll-requires-clause-cell
end_poll-requires-clause-cell c = let s = c.requires.starts in (c.end_notify.ensures s.1.0 (OfPoll s.0) s.1.1 [] s.1.3 s.1.2).did.cell ∙ c.requires.cell.0
