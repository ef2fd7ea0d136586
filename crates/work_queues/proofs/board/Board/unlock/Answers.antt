use Rattle.std.proofs.Common.{rules}
use Rattle.work_queues.proofs.Locking.{unlocks}
use Rattle.work_queues.proofs.board.Board.unlock.Goals as goal

pub store-requires : goal.store-requires
store-requires g c = (search rules, search rules, unlocks _ _ _ _ _ _ _ _ c.args.queue c.requires.held.0 (search rules) (search rules) c.requires.held.1 (search rules))
