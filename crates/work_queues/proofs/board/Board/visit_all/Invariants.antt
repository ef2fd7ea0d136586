use Rattle.std.proofs.Common.{◌≡◌}
use Rattle.work_queues.proofs.board.Board.visit_all.Given as goal

abbrev pub invariant-loop-queue : goal.invariant-loop-queue
invariant-loop-queue g l = l.all.next ≡ l.queue
