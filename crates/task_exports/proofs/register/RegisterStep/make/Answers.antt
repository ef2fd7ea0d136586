use Rattle.std.specs.Prelude.{IfNone, ◌-◌, ◌^◌}
use Rattle.task_steps.specs.Attempts.{HasMissed}
use Rattle.std.proofs.Common.{subst}
use Rattle.task_cell.specs.PollPaths.{BeginsRegister}
use Rattle.task_exports.proofs.Registering.{found_notifier, has_begun, stored}
use Rattle.task_exports.specs.TaskAnswers.{store_missed}
use Rattle.task_exports.proofs.register.RegisterStep.make.Goals as goal

pub returns-in-None : goal.returns-in-None
returns-in-None c = record { does = λ n s1. store_missed (subst (λ o. IfNone o (HasMissed (2 ^ 64 - 1) c.begin_register_some.new.party.seat.me)) c.in-None.is c.begin_register_some.ensures.missed) }

pub returns-in-Some-false : goal.returns-in-Some-false
returns-in-Some-false c = record { does = λ n s1. (found_notifier n c.args.party.now c.begin_register_some.new.party s1 (subst (λ b. BeginsRegister c.args.party.now c.begin_register_some.new.party b) c.in-Some-false.field-0-test c.in-Some-false.ensures.path)) }

pub put_in-requires-clause-party : goal.put_in-requires-clause-party
put_in-requires-clause-party c = let s = c.requires.starts in let x = has_begun s.0 c.args.party.now c.begin_register_some.new.party s.1 (subst (λ b. BeginsRegister c.args.party.now c.begin_register_some.new.party b) c.in-Some-true.field-0-test c.in-Some-true.ensures.path) in (x.0, x.1.0, x.1.1, x.1.2, x.1.3)

pub returns-in-Some-true : goal.returns-in-Some-true
returns-in-Some-true c = record { does = λ n s1. (stored n c.args.party.now c.begin_register_some.new.party c.put_in.new.party c.put_in.result s1 (subst (λ b. BeginsRegister c.args.party.now c.begin_register_some.new.party b) c.in-Some-true.field-0-test c.in-Some-true.ensures.path) c.put_in.ensures) }
