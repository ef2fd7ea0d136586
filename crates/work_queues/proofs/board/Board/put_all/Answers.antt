use Rattle.std.proofs.Common.{rules}
use Rattle.work_queues.specs.Duties.{IsStored}
use Rattle.work_queues.proofs.Locking.{between, lends, stored_again}
use Rattle.work_queues.proofs.board.Board.put_all.Goals as goal

pub slot_mut-held-requires : goal.slot_mut-held-requires
slot_mut-held-requires g c = (search rules, lends _ _ _ c.lock-visit.ensures.2)

pub unlock-requires-clause-held : goal.unlock-requires-clause-held
unlock-requires-clause-held g c = stored_again IsStored _ _ _ _ c.publish-woken.new.self c.lock-visit.ensures.2 (search rules)

pub returns-clause-put : goal.returns-clause-put
returns-clause-put g c = let t = between c.put_all-put.new.self.items.items _ c.slot_mut-held.result.now.items.items _ c.put_all-put.ensures.order (search rules) in (t.0, t.2)
