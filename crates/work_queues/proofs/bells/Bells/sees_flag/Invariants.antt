use Rattle.std.proofs.Common.{◌≡◌}
use Rattle.work_queues.specs.Sleep.{left_of}
use Rattle.work_queues.proofs.bells.Bells.sees_flag.Given as goal

abbrev pub invariant-loop-flag : goal.invariant-loop-flag
invariant-loop-flag l = (l.seat.table_id ≡ l.self.table.shared.table_id) × (l.seat.me ≡ (left_of l.initial.seat.me.0 l.flag 0, l.initial.seat.me.1))
