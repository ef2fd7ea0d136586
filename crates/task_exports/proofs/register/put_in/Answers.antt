use Rattle.std.proofs.Common.{◌∙◌}
use Rattle.task_cell.proofs.PollWays.{is_of_poll}
use Rattle.task_exports.proofs.Registering.{number_of_storing, put_alone, put_over}
use Rattle.task_exports.proofs.register.put_in.Goals as goal

pub returns-in-Some : goal.returns-in-Some
returns-in-Some c = λ i hand y s waits. put_over i hand _ c.args.party.now c.put_clone.new.party c.put_clone.result c.in-Some.old (c.to_store-clone.ensures.number ∙ (is_of_poll c.args.party.now _ _ s ∙ number_of_storing c.args.party.now i hand y s)) (c.put_clone.ensures i hand y s waits) c.in-Some.is

pub returns-in-None : goal.returns-in-None
returns-in-None c = λ i hand y s waits. put_alone i hand _ c.args.party.now c.put_clone.new.party c.put_clone.result (c.to_store-clone.ensures.number ∙ (is_of_poll c.args.party.now _ _ s ∙ number_of_storing c.args.party.now i hand y s)) (c.put_clone.ensures i hand y s waits) c.in-None.is
