use Rattle.std.specs.Prelude.{IfNone, ◌-◌, ◌^◌}
use Rattle.task_steps.specs.Attempts.{HasMissed}
use Rattle.std.proofs.Common.{subst}
use Rattle.task_cell.specs.PollPaths.{EndsRegister}
use Rattle.task_exports.proofs.Registering.{is_looking, is_registered, looks_now, takes_back}
use Rattle.task_exports.specs.TaskAnswers.{end_missed}
use Rattle.task_exports.proofs.register.end_store.Goals as goal

pub end_register_some-requires-clause-party : goal.end_register_some-requires-clause-party
end_register_some-requires-clause-party c = let s = c.requires.party in is_registered s.0 c.args.party.now s.1

pub returns-in-None : goal.returns-in-None
returns-in-None c = λ i s. end_missed (subst (λ o. IfNone o (HasMissed (2 ^ 64 - 1) c.end_register_some.new.party.seat.me)) c.in-None.is c.end_register_some.ensures.missed)

pub look_again-requires-clause-party : goal.look_again-requires-clause-party
look_again-requires-clause-party c = let s = c.requires.party in is_looking s.0 c.args.party.now c.end_register_some.new.party s.1 (subst (λ b. EndsRegister c.args.party.now c.end_register_some.new.party b) c.in-Some-true.field-0-test c.in-Some-true.ensures.path)

pub returns-in-Some-true : goal.returns-in-Some-true
returns-in-Some-true c = λ i s. looks_now i c.args.party.now c.end_register_some.new.party c.look_again.new.party c.look_again.result s (subst (λ b. EndsRegister c.args.party.now c.end_register_some.new.party b) c.in-Some-true.field-0-test c.in-Some-true.ensures.path) c.look_again.ensures

pub returns-in-Some-false : goal.returns-in-Some-false
returns-in-Some-false c = λ i s. takes_back i c.args.party.now c.end_register_some.new.party s (subst (λ b. EndsRegister c.args.party.now c.end_register_some.new.party b) c.in-Some-false.field-0-test c.in-Some-false.ensures.path)
