use Rattle.std.proofs.Common.{[]}
use Rattle.test_tasks.specs.Counting.{view}
use Rattle.test_tasks.proofs.Keeps.{enters, gains, grows}
use Rattle.test_tasks.proofs.blocks.pointer.Pointer.gain_from.Goals as goal

-- src/pointer.rt:59:29
pub load_new_seat-seat-requires : goal.load_new_seat-seat-requires
load_new_seat-seat-requires g c = record { allowed = enters (view 1, []) }

-- src/pointer.rt:60:30
pub gain-found-requires : goal.gain-found-requires
gain-found-requires g c = let seat = c.load_new_seat-seat.result.1 in let is = c.load_new_seat-seat.ensures.seat in record { block = is.0; allowed = gains seat.id seat.me c.args.old is.2 c.requires; shares = grows seat.id seat.me c.args.old is.2 c.requires }
