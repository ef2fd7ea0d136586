use Rattle.std.proofs.Common.{◌≡◌}
use Rattle.work_queues.proofs.bells.Bells.interrupt_all.Given as goal

abbrev pub invariant-loop-worker : goal.invariant-loop-worker
invariant-loop-worker l = l.all.next ≡ l.worker
