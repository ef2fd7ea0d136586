use Rattle.std.proofs.Common.{◌≡◌, ◌+◌, ◌++◌}
use Rattle.std.specs.VecDeque.{deque_len, deque_capacity}
use Rattle.work_queues.proofs.moving.shift.Given as goal

abbrev pub invariant-loop : goal.invariant-loop
invariant-loop g l = (l.to.items ++ l.from.items ≡ l.initial.to.items ++ l.initial.from.items) × (deque_len l.to ≡ deque_len l.initial.to + l.counter) × (deque_len l.from + l.counter ≡ deque_len l.initial.from) × (deque_capacity l.to ≡ deque_capacity l.initial.to)
