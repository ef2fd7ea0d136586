use Rattle.std.specs.Prelude.{◌≡◌, ◌+◌, ◌%◌, ◌^◌}
use Rattle.work_queues.specs.declared.crew.worker.WorkerCounts.{WorkerCounts}

-- each number is the sum of both, which wraps
pub record IsSum (first second sum : WorkerCounts) : Type 0 where
  pub found : sum.found ≡ (first.found + second.found) % 2 ^ 64
  pub stolen : sum.stolen ≡ (first.stolen + second.stolen) % 2 ^ 64
  pub sleeps : sum.sleeps ≡ (first.sleeps + second.sleeps) % 2 ^ 64
