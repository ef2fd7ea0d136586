-- The party of a hand, and what a step keeps of a place.
use Rattle.std.specs.declared.alloc.Global.{Global}
use Rattle.std.specs.Prelude.{◌≡◌, ℕ, true, Option, Some, None}
use Rattle.counted_block.specs.Blocks.{BlockId}
use Rattle.task_cell.specs.Calls.{limit_of}
use Rattle.task_cell.specs.declared.cell.Cell.{Cell}
use Rattle.task_exports.specs.Hands.{SameBits}
use Rattle.task_exports.specs.declared.hand.Hand.{Hand}
use Rattle.task_exports.specs.declared.handle.Handle.{Handle}

-- what a function of hands answers, as a type
abbrev pub type_of : {P : Type 0} → (Hand → P) → Type 0
type_of {P} f = P

-- the type of a hand's party
abbrev pub CellParty : Type 0
CellParty = type_of (λ (x : Hand). x.party)

-- the party of a hand, where there is one
abbrev pub party_in : Option Hand → Option CellParty
party_in None = None
party_in (Some k) = Some k.party

-- which cell it is, and its limit of references
abbrev pub cell_in : Hand → BlockId × Cell Unit Unit Unit Global
cell_in x = (x.share.maybe.id, x.share.maybe.value)

-- the limit of references of its cell
abbrev pub limit_at : Hand → ℕ
limit_at x = x.share.maybe.key.limit

-- a share of the same cell is there still
abbrev pub Stays : Hand → Hand → Type 0
Stays x y = (y.share.maybe.there ≡ true) × SameBits x y × (y.share.maybe.value ≡ x.share.maybe.value) × (limit_at y ≡ limit_at x)

-- a share of the same cell lies in the place as before
abbrev pub Keeps : Handle → Handle → Type 0
Keeps h k =
    (k.there ≡ true) × (k.hand.share.maybe.there ≡ true) × SameBits h.hand k.hand × (k.hand.share.maybe.value ≡ h.hand.share.maybe.value)
    × (limit_at k.hand ≡ limit_at h.hand)

-- the party is one of the cell whose share lies in the place
abbrev pub IsAt : CellParty → Handle → Type 0
IsAt p k = (k.there ≡ true) × (k.hand.share.maybe.there ≡ true) × (p.seat.block ≡ k.hand.share.maybe.id) × (limit_of p ≡ limit_at k.hand)
