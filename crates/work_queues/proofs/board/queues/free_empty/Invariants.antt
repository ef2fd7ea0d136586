use Rattle.std.proofs.Common.{length}
use Rattle.std.specs.List.{All}
use Rattle.work_queues.specs.Closing.{IsEmpty}
use Rattle.work_queues.proofs.board.queues.free_empty.Given as goal

abbrev pub invariant-loop-queue : goal.invariant-loop-queue
invariant-loop-queue g l = All IsEmpty l.queues.items

abbrev pub decreases-loop-queue : goal.decreases-loop-queue
decreases-loop-queue g l = length l.queues.items
