use Rattle.std.specs.Prelude.{IfNone, ◌-◌, ◌^◌}
use Rattle.task_steps.specs.Attempts.{HasMissed}
use Rattle.std.proofs.Common.{sym, ◌∙◌, subst}
use Rattle.task_cell.specs.PollPaths.{LooksAgain}
use Rattle.task_exports.proofs.LooksOn.{again_at_end, again_claims, again_ended, again_stands, again_waits}
use Rattle.task_exports.specs.TaskAnswers.{look_missed}
use Rattle.task_cell.specs.Belongs.{values_in}
use Rattle.task_exports.proofs.look.look_again.Goals as goal

pub returns-in-None : goal.returns-in-None
returns-in-None c = λ i s. look_missed (subst (λ o. IfNone o (HasMissed (2 ^ 64 - 1) c.look_again_some.new.party.seat.me)) c.in-None.is c.look_again_some.ensures.missed)

pub go_on_claimed-requires-clause-party : goal.go_on_claimed-requires-clause-party
go_on_claimed-requires-clause-party c = again_stands c.in-Some-Ok.found c.args.party.now c.look_again_some.new.party c.awaiter.result (subst (λ x. LooksAgain (values_in c.args.share.now) c.args.party.now c.look_again_some.new.party x) c.in-Some-Ok.field-0-is c.in-Some-Ok.ensures.path) c.awaiter.ensures

pub returns-in-Some-Ok : goal.returns-in-Some-Ok
returns-in-Some-Ok c = λ i s. again_claims i c.in-Some-Ok.found c.args.party.now c.look_again_some.new.party c.go_on_claimed.new.party c.awaiter.result c.go_on_claimed.result s
    (subst (λ x. LooksAgain (values_in c.args.share.now) c.args.party.now c.look_again_some.new.party x) c.in-Some-Ok.field-0-is c.in-Some-Ok.ensures.path) c.awaiter.ensures c.go_on_claimed.ensures

pub returns-then-has_to_wait : goal.returns-then-has_to_wait
returns-then-has_to_wait c = λ i s. again_waits i c.in-Some-Err.found c.args.party.now c.look_again_some.new.party s
    (subst (λ x. LooksAgain (values_in c.args.share.now) c.args.party.now c.look_again_some.new.party x) c.in-Some-Err.field-0-is c.in-Some-Err.ensures.path) (sym c.has_to_wait.ensures ∙ c.if-has_to_wait.true)

pub go_on_ended-requires-clause-party : goal.go_on_ended-requires-clause-party
go_on_ended-requires-clause-party c = again_at_end c.in-Some-Err.found c.args.party.now c.look_again_some.new.party (subst (λ x. LooksAgain (values_in c.args.share.now) c.args.party.now c.look_again_some.new.party x) c.in-Some-Err.field-0-is c.in-Some-Err.ensures.path) (sym c.has_to_wait.ensures ∙ c.if-has_to_wait.false)

pub returns-else-has_to_wait : goal.returns-else-has_to_wait
returns-else-has_to_wait c = λ i s. again_ended i c.in-Some-Err.found c.args.party.now c.look_again_some.new.party c.go_on_ended.new.party c.go_on_ended.result s
    (subst (λ x. LooksAgain (values_in c.args.share.now) c.args.party.now c.look_again_some.new.party x) c.in-Some-Err.field-0-is c.in-Some-Err.ensures.path) (sym c.has_to_wait.ensures ∙ c.if-has_to_wait.false) c.go_on_ended.ensures
