use Rattle.task_cell.proofs.Vocabulary.{None, Some, ap, refl, sym, subst, ◌∙◌, WakesTask}
use Rattle.task_steps.specs.Standing.{as_lent}
use Rattle.task_cell.specs.Calls.{second}
use Rattle.task_cell.specs.WakerPaths.{hands_none, hands_one}
use Rattle.task_cell.proofs.WakerMoves.{spent_by_wake, wake_gives, wake_made}
use Rattle.task_cell.proofs.waker.TaskWaker.end_wake.Goals as goal

pub finish_wake-requires-clause-cell : goal.finish_wake-requires-clause-cell
finish_wake-requires-clause-cell g c = let s = c.requires.party in
    let x = wake_gives _ _ s.0 c.args.party (c.in-Some.share, c.in-Some.deliverer) s.1.0 (ap (λ m. m.0.limit) s.1.1) (subst (λ made. WakesTask s.0 c.args.party (second made)) c.in-Some.is s.2) in (x.0, x.1)

pub finish_wake-requires-clause-deliverer : goal.finish_wake-requires-clause-deliverer
finish_wake-requires-clause-deliverer g c = let s = c.requires.party in
    (wake_gives _ _ s.0 c.args.party (c.in-Some.share, c.in-Some.deliverer) s.1.0 (ap (λ m. m.0.limit) s.1.1) (subst (λ made. WakesTask s.0 c.args.party (second made)) c.in-Some.is s.2)).2

pub record-requires-clause-party : goal.record-requires-clause-party
record-requires-clause-party g c = let s = c.requires.party in (as_lent, (spent_by_wake s.0 c.args.party (second c.args.woken) s.2).0)

pub record-requires-clause-spent : goal.record-requires-clause-spent
record-requires-clause-spent g c = let s = c.requires.party in (spent_by_wake s.0 c.args.party (second c.args.woken) s.2).1

pub record-requires-in-Some-clause-cell : goal.record-requires-in-Some-clause-cell
record-requires-in-Some-clause-cell g c = let s = c.requires.party in (wake_made _ _ s.0 c.args.party c.args.party (second c.args.woken) s.1 refl s.2).2.0 ∙ sym c.ledger-in-Some.ensures

pub record-requires-in-Some-clause-party : goal.record-requires-in-Some-clause-party
record-requires-in-Some-clause-party g c = let s = c.requires.party in (as_lent, (spent_by_wake s.0 c.args.party (second c.args.woken) s.2).0)

pub record-requires-in-Some-clause-spent : goal.record-requires-in-Some-clause-spent
record-requires-in-Some-clause-spent g c = let s = c.requires.party in (spent_by_wake s.0 c.args.party (second c.args.woken) s.2).1

pub returns-in-None : goal.returns-in-None
returns-in-None g c = let s = c.requires.party in let x = wake_made _ _ s.0 c.args.party c.record.result.party None s.1 c.record.ensures (subst (λ made. WakesTask s.0 c.args.party (second made)) c.in-None.is s.2) in
    record { path = (x.0, hands_none x.0 x.1, x.2) }

pub returns-in-Some : goal.returns-in-Some
returns-in-Some g c = let s = c.requires.party in let x = wake_made _ _ s.0 c.args.party c.record-in-Some.result.party (Some c.in-Some.deliverer) s.1 c.record-in-Some.ensures (subst (λ made. WakesTask s.0 c.args.party (second made)) c.in-Some.is s.2) in
    record { path = (x.0, hands_one x.0 x.1 c.finish_wake.ensures.fact, x.2) }
