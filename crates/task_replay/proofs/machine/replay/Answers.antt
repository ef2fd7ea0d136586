use Rattle.std.proofs.Common.{◌∙◌, ◌+◌, ap, min, Some, None}
use Rattle.task_core.specs.declared.word.TheConstants.{LIMIT}
use Rattle.task_replay.proofs.Replayed.{plays, nothing_shown, where_yes, where_no, where_counted, is_some}
use Rattle.task_replay.proofs.machine.replay.Goals as goal

pub returns-in-Ok-false-clause-refusal : goal.returns-in-Ok-false-clause-refusal
returns-in-Ok-false-clause-refusal g c = record {
  within = c.loop-i-test.true;
  before = is_some _ c.loop-i.player.machine c.loop-i.invariant.0;
  here = nothing_shown _ (plays (min c.args.limit LIMIT) c.loop-i.i c.args.steps.now c.index-steps-i.result c.loop-i.player.machine None c.loop-i-test.true c.index-steps-i.is c.loop-i.invariant.0
      (λ m e. c.in-Ok-false.ensures.answered m e ∙ where_no c.in-Ok-false.field-0 c.advance.new.self.machine c.in-Ok-false.field-0-test));
}

pub loop-i-preserved : goal.loop-i-preserved
loop-i-preserved g c = (
  plays (min c.args.limit LIMIT) c.loop-i.i c.args.steps.now c.index-steps-i.result c.loop-i.player.machine (Some c.advance.new.self.machine) c.loop-i-test.true c.index-steps-i.is c.loop-i.invariant.0
      (λ m e. c.in-Ok-true.ensures.answered m e ∙ where_yes c.in-Ok-true.field-0 c.advance.new.self.machine c.in-Ok-true.field-0-test),
  c.in-Ok-true.ensures.counted ∙ (where_counted c.in-Ok-true.field-0 c.loop-i.player.steps c.in-Ok-true.field-0-test ∙ ap (λ n. n + 1) c.loop-i.invariant.1),
)
