use Rattle.std.proofs.Common.{rules}
use Rattle.executor.proofs.Widened.{moved}
use Rattle.executor.proofs.posted.widen.Goals as goal

pub loop-number-preserved : goal.loop-number-preserved
loop-number-preserved c = let before = c.loop-number.invariant in record {
  left = search rules;
  room = search rules;
  order = moved _ _ _ _ _ _ _ before.order c.args.numbers.now.distinct (search rules) c.post.ensures.first c.post.ensures.joins;
}
