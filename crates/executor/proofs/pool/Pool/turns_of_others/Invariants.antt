use Rattle.std.proofs.Common.{◌≡◌, ◌+◌, ℕ, length}
use mathlib.Core.Option.{some}
use lib.ListN.{get_elem?}
use Rattle.executor.proofs.pool.Pool.turns_of_others.Given as goal

abbrev pub invariant-loop-worker : goal.invariant-loop-worker
invariant-loop-worker g l = (length l.others.items + 1 ≡ l.worker) × ((i : ℕ) (turns : _) → get_elem? l.others.items i ≡ some turns → turns.worker.number ≡ i + 1)
