use Rattle.std.specs.Prelude.{IfNone, ◌-◌, ◌^◌}
use Rattle.task_steps.specs.Attempts.{HasMissed}
use Rattle.task_cell.proofs.Vocabulary.{subst, IfSome, TakesUp}
use Rattle.task_exports.specs.Answers.{start_missed, polls, finds_closed}
use Rattle.task_exports.proofs.Runs.{taken_up}
use Rattle.task_exports.proofs.Unknown.{takes_up_unknown}
use Rattle.task_cell.specs.Belongs.{values_in}
use Rattle.task_exports.proofs.run.start.Goals as goal

pub returns-in-Some-true-clause-path : goal.returns-in-Some-true-clause-path
returns-in-Some-true-clause-path c = let t = subst (λ b. TakesUp (values_in c.share-share.result) c.args.hand.party c.take_up_some-started.new.party b) c.in-Some-true.field-0-test (subst (λ o. IfSome o (λ b. TakesUp (values_in c.share-share.result) c.args.hand.party c.take_up_some-started.new.party b)) c.in-Some-true.is c.take_up_some-started.ensures.path) in
    polls (taken_up c.args.hand.share c.into_maybe-share.result c.share-share.result c.args.hand.party c.take_up_some-started.new.party _ c.requires.hand c.share-share.ensures c.into_maybe-share.ensures t) (takes_up_unknown _ _ _ t)

pub returns-in-Some-false-clause-path : goal.returns-in-Some-false-clause-path
returns-in-Some-false-clause-path c = let t = subst (λ b. TakesUp (values_in c.share-share.result) c.args.hand.party c.take_up_some-started.new.party b) c.in-Some-false.field-0-test (subst (λ o. IfSome o (λ b. TakesUp (values_in c.share-share.result) c.args.hand.party c.take_up_some-started.new.party b)) c.in-Some-false.is c.take_up_some-started.ensures.path) in
    finds_closed (taken_up c.args.hand.share c.into_maybe-share.result c.share-share.result c.args.hand.party c.take_up_some-started.new.party _ c.requires.hand c.share-share.ensures c.into_maybe-share.ensures t) (takes_up_unknown _ _ _ t)

pub returns-in-None-clause-path : goal.returns-in-None-clause-path
returns-in-None-clause-path c = start_missed (subst (λ o. IfNone o (HasMissed (2 ^ 64 - 1) c.take_up_some-started.new.party.seat.me)) c.in-None.is c.take_up_some-started.ensures.missed)
