use Rattle.std.proofs.Common.{◌≤◌, ◌<◌, ◌∙◌, arith}
use Rattle.futures.specs.LinkedLists.Wheel.{EachDeadline}
use Rattle.future_time.proofs.Wheels.{moves_on, no_sooner, is_next, each_but}
use Rattle.future_time.proofs.order.next_key.Goals as goal

pub returns-then-at-until-clause-none : goal.returns-then-at-until-clause-none
returns-then-at-until-clause-none c key when armed =
    let late = no_sooner c.loop-at.wheel c.in-Some.at c.loop-at.invariant.ahead c.in-Some.ensures.not_late key when armed in
    omega (arith, c.if-at-until.true)

pub returns-in-Some-poll-clause-first : goal.returns-in-Some-poll-clause-first
returns-in-Some-poll-clause-first c =
    let sooner = no_sooner c.loop-at.wheel c.in-Some.at c.loop-at.invariant.ahead c.in-Some.ensures.not_late in
    is_next c.args.wheel.now c.loop-at.wheel c.in-Some.at c.args.until c.poll.new.self.elapsed c.in-Some-poll.key c.loop-at.invariant.kept sooner
    (omega arith) (omega (arith, c.in-Some-poll.ensures.not_early, c.in-Some.ensures.not_past)) c.in-Some-poll.ensures.due

pub returns-in-Some-poll-clause-ahead : goal.returns-in-Some-poll-clause-ahead
returns-in-Some-poll-clause-ahead c =
    let sooner = no_sooner c.loop-at.wheel c.in-Some.at c.loop-at.invariant.ahead c.in-Some.ensures.not_late in
    let past : c.poll.new.self.elapsed ≤ c.in-Some.at = omega (arith, c.in-Some-poll.ensures.not_early, c.in-Some.ensures.not_past) in
    each_but c.loop-at.wheel c.poll.new.self c.in-Some-poll.key _ c.in-Some-poll.ensures.disarmed (λ key when armed. omega (arith, sooner key when armed))

pub loop-at-smaller : goal.loop-at-smaller
loop-at-smaller c =
    let w = c.loop-at.wheel in
    let now = c.in_default-poll.ensures.reached in
    let past = c.in-Some.ensures.not_past in
    let ahead : EachDeadline w (λ when. c.in-Some.at < when) = λ key when armed. omega (arith, c.in_default-poll.ensures.none_due key when (c.in_default-poll.ensures.kept key ∙ armed)) in
    let more : w.elapsed < c.in-Some.at = moves_on w c.in-Some.at past c.in-Some.ensures.not_early ahead in
    omega arith
