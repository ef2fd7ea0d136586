use Rattle.std.proofs.Common.{rules}
use Rattle.std.proofs.lemmas.List.Elements.{All-push, All-same}
use Rattle.work_queues.specs.Closing.{IsEmpty}
use Rattle.work_queues.proofs.Locking.{each-more}
use Rattle.work_queues.proofs.board.queues.queues.Goals as goal

pub loop-number-preserved : goal.loop-number-preserved
loop-number-preserved g c = let added = c.push_reserved.ensures.items in let before = c.loop-number.invariant in (
  search rules,
  search rules,
  each-more _ _ _ _ _ added before.0 before.2 (search rules),
  All-same IsEmpty _ _ added (All-push IsEmpty _ _ before.3 c.in-Ok.ensures.empty),
)
