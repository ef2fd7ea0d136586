-- What a handle's place has: a share of a cell that is there or gone, and a party.
use Rattle.std.specs.Prelude.{◌≡◌, true, false}
use Rattle.task_cell.specs.Calls.{limit_of}
use Rattle.task_exports.specs.declared.hand.Hand.{Hand}

-- two hands of one cell
abbrev pub SameCell : Hand → Hand → Type 0
SameCell x y = (x.share.maybe.id ≡ y.share.maybe.id) × (x.share.maybe.value ≡ y.share.maybe.value)

-- two hands of the same bits, which are the address of their block
abbrev pub SameBits : Hand → Hand → Type 0
SameBits x y = y.share.maybe.id ≡ x.share.maybe.id

-- the share is there, and the party is one of its cell
abbrev pub IsLive : Hand → Type 0
IsLive x = (x.share.maybe.there ≡ true) × (x.party.seat.block ≡ x.share.maybe.id) × (limit_of x.party ≡ x.share.maybe.key.limit)

-- the last share is there, and the party is one of its cell
abbrev pub IsLast : Hand → Type 0
IsLast x = ((x.share.maybe.there ≡ false) × (x.share.maybe.last ≡ true)) × (x.party.seat.block ≡ x.share.maybe.id) × (limit_of x.party ≡ x.share.maybe.key.limit)

-- the share is gone
abbrev pub IsGone : Hand → Type 0
IsGone x = (x.share.maybe.there ≡ false) × (x.share.maybe.last ≡ false)

-- the record of a call by the hand x: its share is gone, and it has the same bits
abbrev pub IsRecordOf : Hand → Hand → Type 0
IsRecordOf x k = IsGone k × SameBits x k
