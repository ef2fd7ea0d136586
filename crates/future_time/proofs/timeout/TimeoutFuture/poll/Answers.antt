use Rattle.std.proofs.Common.{rules, Some, None}
use Rattle.future_time.proofs.Ends.{timeout_polled}
use Rattle.future_time.proofs.timeout.TimeoutFuture.poll.Goals as goal

pub returns-in-Ready-clause-fact : goal.returns-in-Ready-clause-fact
returns-in-Ready-clause-fact g c =
    timeout_polled g.F.Future.polled g.W.Wake.cloned g.W.Wake.woken_by_ref c.args.waker.now c.args.self.now.waited _ c.poll_both-answer.result c.poll_both-answer.new.waited None
    c.in-Some.is c.poll_both-answer.ensures.polled (search rules)

pub returns-in_default-answer-clause-fact : goal.returns-in_default-answer-clause-fact
returns-in_default-answer-clause-fact g c =
    timeout_polled g.F.Future.polled g.W.Wake.cloned g.W.Wake.woken_by_ref c.args.waker.now c.args.self.now.waited _ c.poll_both-answer.result c.poll_both-answer.new.waited (Some c.poll_both-answer.new.waited)
    c.in-Some.is c.poll_both-answer.ensures.polled (search rules)
