use Rattle.std.proofs.Common.{rules}
use Rattle.work_queues.specs.Duties.{IsStored}
use Rattle.work_queues.proofs.Locking.{lends, stored_again}
use Rattle.work_queues.proofs.board.Board.reserve.Goals as goal

pub slot_mut-held-requires : goal.slot_mut-held-requires
slot_mut-held-requires g c = (search rules, lends _ _ _ c.lock-visit.ensures.2)

pub unlock-requires-clause-held : goal.unlock-requires-clause-held
unlock-requires-clause-held g c = stored_again IsStored _ _ _ _ c.reserve.new.self c.lock-visit.ensures.2 (search rules)

pub returns-in-Ok-clause-room : goal.returns-in-Ok-clause-room
returns-in-Ok-clause-room g c = (
  search rules,
  search rules,
  (stored_again IsStored _ _ _ _ c.reserve.new.self c.lock-visit.ensures.2 (search rules)).0,
  (stored_again IsStored _ _ _ _ c.reserve.new.self c.lock-visit.ensures.2 (search rules)).1,
  (stored_again IsStored _ _ _ _ c.reserve.new.self c.lock-visit.ensures.2 (search rules)).2,
  search rules,
)
