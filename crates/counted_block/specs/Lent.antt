-- What becomes of a seat when the slot that it lends is written.
use Rattle.std.specs.Prelude.{◌∷◌}
use Rattle.counted_block.specs.declared.place.Place.TheVariants.{First}
use Rattle.counted_block.specs.declared.seat.Seat.{Seat}
use Rattle.atomic_table.specs.Table.{rest}

-- the same seat, whose newest slot is the first and has what was written
abbrev pub seat_with : {S W V : Type 0} → Seat S W V → S → Seat S W V
seat_with before written = let others = rest before.me.1 in record { marker = before.marker; block = before.block; id = before.id; me = (before.me.0, (0, First written) ∷ others) }
