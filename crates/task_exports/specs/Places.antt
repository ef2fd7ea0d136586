-- What the caller's memory has at a place.
use Rattle.std.specs.Prelude.{◌≡◌, Bool, true, false, [], ◌∷◌, Option, Some, None}
use base.Fraction.{full_share}
use base.Fml.{Fml, ftrue, fex, fsep}
use mir.Val.{Val}
use denote.RawPtr.{Ptr, lies_at, room_at}
use Rattle.counted_block.specs.Blocks.{place}
use Rattle.task_exports.specs.contracts.hand.Hand.{the_row as hand_row}
use Rattle.task_exports.specs.contracts.hand.Grip.{the_row as grip_row}

-- a hand, or room for one
abbrev pub hand_if : Bool → Ptr → hand_row.Denot → Fml
hand_if true p x = lies_at hand_row full_share p x
hand_if false p x = room_at hand_row p

-- a hold, or room for one
abbrev pub grip_if : Bool → Ptr → grip_row.Denot → Fml
grip_if true p x = lies_at grip_row full_share p x
grip_if false p x = room_at grip_row p

-- what a handle owns, whatever its bits are
abbrev pub owned : hand_row.Denot → Fml
owned x = fex Val (λ v. hand_row.own_val x (v ∷ []))

-- the pointer is the address of its block
abbrev pub address_of : Ptr → hand_row.Denot → Fml
address_of p x = fex (p ≡ place x.share.maybe.id) (λ _. ftrue)

-- what a handle owns whose bits are the address of its block
abbrev pub owned_at : Ptr → hand_row.Denot → Fml
owned_at p x = fsep (address_of p x) (owned x)

-- the same where there is such a handle
abbrev pub owned_if : Option hand_row.Denot → Fml
owned_if None = ftrue
owned_if (Some x) = owned x
