use Rattle.std.proofs.Common.{◌∙◌, sym}
use Rattle.executor_parts.proofs.Outputs.{put-back-gives}
use Rattle.executor_parts.proofs.group.TaskGroup.cancel_number.Goals as goal

pub returns-in-Some-refused-clause-none_more : goal.returns-in-Some-refused-clause-none_more
returns-in-Some-refused-clause-none_more g c =
    put-back-gives c.args.self.now.members c.try_remove.new.self c.insert_reserved.new.self c.args.number _ c.in-Some.entry _ (sym c.in-Some.ensures.value) c.in-Some.ensures.updates (c.insert_reserved.ensures.key ∙ c.in-Some.ensures.key_is_next) c.insert_reserved.ensures.updates (λ output may. c.cancel.ensures.outputs output (c.first_look-member.ensures.outputs output may))

pub returns-in-None-clause-none_more : goal.returns-in-None-clause-none_more
returns-in-None-clause-none_more g c =
    put-back-gives c.args.self.now.members c.try_remove.new.self c.insert_reserved.new.self c.args.number _ c.in-Some.entry _ (sym c.in-Some.ensures.value) c.in-Some.ensures.updates (c.insert_reserved.ensures.key ∙ c.in-Some.ensures.key_is_next) c.insert_reserved.ensures.updates (λ output may. c.cancel.ensures.outputs output (c.first_look-member.ensures.outputs output may))
