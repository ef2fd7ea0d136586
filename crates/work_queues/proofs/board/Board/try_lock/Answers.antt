use Rattle.std.proofs.Common.{rules}
use mathlib.Core.Option.{none}
use Rattle.work_queues.specs.Duties.{IsStored}
use Rattle.work_queues.proofs.Locking.{sits, locks, locked}
use Rattle.work_queues.proofs.board.Board.try_lock.Goals as goal

pub load_new_seat-seen-requires : goal.load_new_seat-seen-requires
load_new_seat-seen-requires g c = (search rules, sits _ _ _ _ _ _)

pub compare_exchange-requires : goal.compare_exchange-requires
compare_exchange-requires g c = (search rules, search rules, locks _ _ _ _ _ _ _ _ c.args.queue none (search rules) (search rules) (search rules))

pub returns-then-compare_exchange-eq-UNLOCKED : goal.returns-then-compare_exchange-eq-UNLOCKED
returns-then-compare_exchange-eq-UNLOCKED g c =
    let t = locked IsStored (c.args.self.now.table.shared.key.table.shared.table_id) c.args.queue c.load_new_seat-seen.result.1.me c.compare_exchange.new.seat.me (c.compare_exchange.ensures.2.0 (search rules) c.args.queue (search rules)) (search rules) in
    (search rules, t.0, t.1, search rules)
