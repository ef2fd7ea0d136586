use Rattle.std.proofs.Common.{◌≡◌}
use Rattle.work_queues.proofs.bells.Bells.shows_none.Given as goal

abbrev pub invariant-loop-queue : goal.invariant-loop-queue
invariant-loop-queue l = (l.seat.table_id ≡ l.self.table.shared.table_id) × (l.seat.me.0.seen ≡ l.queue)
