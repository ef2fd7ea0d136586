-- Queues whose items come out as their board ends.
use Rattle.std.specs.Prelude.{◌≡◌, ℕ, ◌-◌, []}
use Rattle.work_queues.specs.declared.board.closing.ClosedBoard.{ClosedBoard}
use Rattle.work_queues.specs.declared.queue.Queue.{Queue}

-- it has no item
abbrev pub IsEmpty : {T A : Type 0} → Queue T A → Type 0
IsEmpty queue = queue.items.items ≡ []

-- how many queues have not come out yet
abbrev pub queues_left : {T A : Type 0} → ClosedBoard T A → ℕ
queues_left closed = closed.table.slots.len - closed.next
