use Rattle.std.proofs.Common.{◌∙◌, sym, refl}
use Rattle.executor_parts.proofs.Outputs.{came-from, leaves-gives, put-back-gives}
use Rattle.executor_parts.proofs.Spent.{put-back, same-members}
use Rattle.executor_parts.proofs.group.TaskGroup.look.Goals as goal

pub returns-in-Err-clause-same : goal.returns-in-Err-clause-same
returns-in-Err-clause-same g c =
    put-back c.args.self.now.members c.try_remove.new.self c.insert_reserved.new.self c.args.number _ c.in-Some.entry _ (sym c.in-Some.ensures.value) c.in-Some.ensures.updates (c.insert_reserved.ensures.key ∙ c.in-Some.ensures.key_is_next) c.insert_reserved.ensures.updates refl

pub returns-in-Err-clause-stays : goal.returns-in-Err-clause-stays
returns-in-Err-clause-stays g c = same-members c.args.self.now.members c.insert_reserved.new.self (returns-in-Err-clause-same g c)

pub returns-in-Ok-clause-gives : goal.returns-in-Ok-clause-gives
returns-in-Ok-clause-gives g c = came-from c.args.self.now.members c.args.number c.in-Some.entry c.in-Ok.ended (sym c.in-Some.ensures.value) (c.in-Ok.ensures.number ∙ c.asked-asked.ensures) c.in-Ok.ensures.gives

pub returns-in-Ok-clause-none_more : goal.returns-in-Ok-clause-none_more
returns-in-Ok-clause-none_more g c = leaves-gives c.args.self.now.members c.try_remove.new.self c.args.number c.in-Some.ensures.updates

pub returns-in-Err-clause-none_more : goal.returns-in-Err-clause-none_more
returns-in-Err-clause-none_more g c =
    put-back-gives c.args.self.now.members c.try_remove.new.self c.insert_reserved.new.self c.args.number _ c.in-Some.entry _ (sym c.in-Some.ensures.value) c.in-Some.ensures.updates (c.insert_reserved.ensures.key ∙ c.in-Some.ensures.key_is_next) c.insert_reserved.ensures.updates c.in-Err.ensures.stays
