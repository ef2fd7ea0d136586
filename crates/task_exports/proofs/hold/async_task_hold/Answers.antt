use Rattle.std.proofs.Common.{◌≡◌, ◌∙◌, ap, subst}
use Rattle.std.specs.Prelude.{IfSome}
use Rattle.task_exports.specs.Answers.{held, hold_missed}
use Rattle.task_exports.specs.declared.hand.Grip.{Grip}
use Rattle.task_exports.specs.declared.hand.Hand.{Hand}
use Rattle.task_exports.proofs.Along.{lent_back}
use Rattle.task_exports.proofs.hold.async_task_hold.Goals as goal

pub returns-in-Some-clause-lent : goal.returns-in-Some-clause-lent
returns-in-Some-clause-lent c = let x = lent_back _ _ _ _ c.take.ensures.0 c.put.ensures.0 c.keep-hand.ensures.lent in ((c.put.ensures.1, x.0), x.1)

pub returns-in-Some-clause-answer : goal.returns-in-Some-clause-answer
returns-in-Some-clause-answer c = held c.put_hold.ensures.1
    (ap (λ (g : Grip). g.hold.hold.value) c.put_hold.ensures.0 ∙ (subst (λ o. IfSome o (λ g. g.hold.hold.value ≡ c.take.result.share.maybe.value)) c.in-Some.is c.keep-hand.ensures.hold ∙ ap (λ (x : Hand). x.share.maybe.value) c.take.ensures.0))

pub returns-in-None-clause-lent : goal.returns-in-None-clause-lent
returns-in-None-clause-lent c = let x = lent_back _ _ _ _ c.take.ensures.0 c.put.ensures.0 c.keep-hand.ensures.lent in ((c.put.ensures.1, x.0), x.1)

pub returns-in-None-clause-answer : goal.returns-in-None-clause-answer
returns-in-None-clause-answer c = hold_missed c.requires.room
