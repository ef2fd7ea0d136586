-- Room for an item in a queue of a board.
use Rattle.std.specs.Prelude.{◌≡◌, ◌<◌, ◌≤◌}
use Rattle.std.specs.Arc.{arc_value}
use Rattle.std.specs.VecDeque.{deque_len, deque_capacity}
use Rattle.work_queues.specs.declared.board.Board.{Board}
use Rattle.work_queues.specs.declared.board.reserving.Reserved.{Reserved}
use Rattle.work_queues.specs.declared.queue.Queue.{Queue}
use Rattle.work_queues.specs.Board.{HasQueue}
use Rattle.work_queues.specs.Duties.{IsStored}

-- it has a queue of this board alone, in which there is room for an item
abbrev pub HasRoom : {T A : Type 0} → Board T A → Reserved T A → Type 0
HasRoom {T} {A} board reserved = (reserved.visit.seat.table_id ≡ board.table.shared.table_id) × (reserved.queue ≤ (arc_value board.bells).workers)
    × (held : Queue T A) × HasQueue reserved.queue reserved.visit.seat.me held × IsStored (arc_value board.bells).table.shared.table_id reserved.queue held × (deque_len held.items < deque_capacity held.items)
