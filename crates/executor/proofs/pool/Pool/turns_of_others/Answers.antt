use Rattle.std.proofs.Common.{◌≡◌, ◌+◌, ◌∙◌, ℕ, refl, sym, ap}
use Rattle.executor.proofs.Counted.{longer, numbered-more}
use Rattle.executor.proofs.pool.Pool.turns_of_others.Goals as goal

pub loop-worker-preserved : goal.loop-worker-preserved
loop-worker-preserved g c = (
  ap (λ (n : ℕ). n + 1) (longer _ _ _ c.in_ok-push.ensures.items refl) ∙ ap (λ (n : ℕ). n + 1) c.loop-worker.invariant.0,
  numbered-more (λ i turns. turns.worker.number ≡ i + 1) _ _ _ c.in_ok-push.ensures.items c.loop-worker.invariant.1 (c.in_ok-turns.ensures.worker ∙ sym c.loop-worker.invariant.0),
)
