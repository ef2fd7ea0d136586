use Rattle.std.proofs.Common.{◌≡◌, length}
use Rattle.executor.proofs.pool.Pool.numbers.Given as goal

abbrev pub invariant-loop-worker : goal.invariant-loop-worker
invariant-loop-worker g l = length l.workers.items ≡ l.worker
