use Rattle.std.proofs.Common.{◌≡◌}
use Rattle.work_queues.specs.Sleep.{left_of}
use Rattle.work_queues.proofs.bells.Bells.wake_first.Given as goal

abbrev pub invariant-loop-worker : goal.invariant-loop-worker
invariant-loop-worker l = (l.seat.table_id ≡ l.self.table.shared.table_id) × (l.seat.me ≡ (left_of l.initial.seat.me.0 0 l.worker, l.initial.seat.me.1))
