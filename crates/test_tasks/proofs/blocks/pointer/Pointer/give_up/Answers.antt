use Rattle.test_tasks.proofs.Keeps.{parts, fewer}
use Rattle.test_tasks.proofs.blocks.pointer.Pointer.give_up.Goals as goal

-- src/pointer.rt:110:30
pub part-found-requires : goal.part-found-requires
part-found-requires g c = let seat = c.args.self.seat in let is = c.args.self.seated.1 in record { block = c.args.self.seated.0; allowed = parts seat.id seat.me is; shares = fewer seat.id seat.me is }
