use Rattle.std.proofs.Common.{rules}
use Rattle.work_queues.proofs.Locking.{opens}
use Rattle.work_queues.proofs.board.Board.new.Goals as goal

pub new-requires : goal.new-requires
new-requires g c = opens _ _ _ _ _ _ (search rules) (search rules) (λ i queue at. (c.in_ok-queues.ensures.each i queue at).0)
