use Rattle.std.proofs.Common.{rules}
use Rattle.work_queues.specs.Duties.{IsStored}
use Rattle.work_queues.proofs.Locking.{lends, stored_again}
use Rattle.work_queues.proofs.board.Board.pop.Goals as goal

pub slot_mut-held-requires : goal.slot_mut-held-requires
slot_mut-held-requires g c = (search rules, lends _ _ _ c.lock-visit.ensures.2)

pub unlock-requires-clause-held : goal.unlock-requires-clause-held
unlock-requires-clause-held g c = stored_again IsStored _ _ _ _ c.publish-woken.new.self c.lock-visit.ensures.2 (search rules)
