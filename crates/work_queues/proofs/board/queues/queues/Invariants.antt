use Rattle.std.proofs.Common.{◌≡◌, ℕ, ◌+◌, ◌≤◌, length, vec_capacity}
use Rattle.std.specs.List.{All}
use Rattle.std.specs.VecDeque.{deque_capacity}
use mathlib.Core.Option.{some}
use lib.ListN.{get_elem?}
use Rattle.work_queues.specs.Closing.{IsEmpty}
use Rattle.work_queues.specs.Duties.{IsStored}
use Rattle.work_queues.proofs.board.queues.queues.Given as goal

abbrev pub invariant-loop-number : goal.invariant-loop-number
invariant-loop-number g l = (length l.queues.items ≡ l.number) × (l.bells.workers + 1 ≤ vec_capacity l.queues)
    × ((i : ℕ) (queue : _) → get_elem? l.queues.items i ≡ some queue → IsStored l.bells.table.shared.table_id i queue × (deque_capacity queue.items ≡ l.room))
    × All IsEmpty l.queues.items
