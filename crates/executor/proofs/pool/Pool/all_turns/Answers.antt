use Rattle.std.proofs.Common.{◌≡◌, ◌∙◌, sym}
use Rattle.executor.proofs.Counted.{longer, numbered-more}
use Rattle.executor.proofs.pool.Pool.all_turns.Goals as goal

pub loop-worker-preserved : goal.loop-worker-preserved
loop-worker-preserved g c = (longer _ _ _ c.in_ok-push.ensures.items c.loop-worker.invariant.0, numbered-more (λ i turns. turns.worker.number ≡ i) _ _ _ c.in_ok-push.ensures.items c.loop-worker.invariant.1 (c.in_ok-turns.ensures.worker ∙ sym c.loop-worker.invariant.0))
