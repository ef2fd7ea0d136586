use Rattle.std.specs.Prelude.{IfNone, ◌-◌, ◌^◌}
use Rattle.task_steps.specs.Attempts.{HasMissed}
use Rattle.std.proofs.Common.{sym, ◌∙◌, subst}
use Rattle.task_cell.specs.PollPaths.{Looks}
use Rattle.task_exports.proofs.LooksOn.{look_at_end, look_claims, look_ended, look_registers, look_stands}
use Rattle.task_exports.specs.TaskAnswers.{poll_missed}
use Rattle.task_cell.specs.Belongs.{values_in}
use Rattle.task_exports.proofs.look.look.Goals as goal

pub returns-in-None : goal.returns-in-None
returns-in-None c = λ n s. poll_missed (subst (λ o. IfNone o (HasMissed (2 ^ 64 - 1) c.look_some.new.party.seat.me)) c.in-None.is c.look_some.ensures.missed)

pub go_on_claimed-requires-clause-party : goal.go_on_claimed-requires-clause-party
go_on_claimed-requires-clause-party c = look_stands c.in-Some-Ok.found c.args.party.now c.look_some.new.party c.awaiter.result (subst (λ x. Looks (values_in c.args.share.now) c.args.party.now c.look_some.new.party x) c.in-Some-Ok.field-0-is c.in-Some-Ok.ensures.path) c.awaiter.ensures

pub returns-in-Some-Ok : goal.returns-in-Some-Ok
returns-in-Some-Ok c = λ n s. look_claims n c.in-Some-Ok.found c.args.party.now c.look_some.new.party c.go_on_claimed.new.party c.awaiter.result c.go_on_claimed.result s
    (subst (λ x. Looks (values_in c.args.share.now) c.args.party.now c.look_some.new.party x) c.in-Some-Ok.field-0-is c.in-Some-Ok.ensures.path) c.awaiter.ensures c.go_on_claimed.ensures

pub go_on_ended-requires-clause-party : goal.go_on_ended-requires-clause-party
go_on_ended-requires-clause-party c = look_at_end c.in-Some-Err.found c.args.party.now c.look_some.new.party (subst (λ x. Looks (values_in c.args.share.now) c.args.party.now c.look_some.new.party x) c.in-Some-Err.field-0-is c.in-Some-Err.ensures.path) (sym c.has_ended.ensures ∙ c.if-has_ended.true)

pub returns-then-has_ended : goal.returns-then-has_ended
returns-then-has_ended c = λ n s. look_ended n c.in-Some-Err.found c.args.party.now c.look_some.new.party c.go_on_ended.new.party c.go_on_ended.result s
    (subst (λ x. Looks (values_in c.args.share.now) c.args.party.now c.look_some.new.party x) c.in-Some-Err.field-0-is c.in-Some-Err.ensures.path) (sym c.has_ended.ensures ∙ c.if-has_ended.true) c.go_on_ended.ensures

pub returns-else-has_ended : goal.returns-else-has_ended
returns-else-has_ended c = λ n s. look_registers n c.in-Some-Err.found c.args.party.now c.look_some.new.party s
    (subst (λ x. Looks (values_in c.args.share.now) c.args.party.now c.look_some.new.party x) c.in-Some-Err.field-0-is c.in-Some-Err.ensures.path) (sym c.has_ended.ensures ∙ c.if-has_ended.false)
