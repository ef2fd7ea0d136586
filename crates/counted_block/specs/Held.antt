-- The block's memory: the words, the slots and the value of an `Inner`, and the right to free it.
use Rattle.std.specs.Prelude.{◌≡◌, ℕ, ◌+◌, Bool}
use mathlib.Core.Option.{Option}
use mir.Syntax.{Ty}
use base.Fraction.{full_share}
use base.Stored.{Gv}
use base.Fml.{Lft, Fml, Share, fsep, fall, fwand}
use denote.RattleType.{RattleType}
use denote.RawPtr.{Ptr, lies_at, ◌+ₚ◌}
use denote.Memory.{part_at}
use denote.Sharing.{said, beside}
use denote.Struct.Lending.{lent_at}
use Rattle.std.specs.Box.Ownership.{box_owns}
use Rattle.atomic_table.specs.Table.{State}
use Rattle.atomic_table.specs.Seated.{fact}
use Rattle.counted_block.specs.declared.place.Place.{Place}
use Rattle.counted_block.specs.Layout.{at_first, at_second, at_value}
use Rattle.counted_block.specs.Blocks.{BlockId, life, place, is_one, is_all, of_holds, of_shares, of_last, words_in, parts_if, hold_parts_if, kept, remains_if, owner_owns, owner_shares}
use Rattle.counted_block.specs.contracts.inner.Inner.{the_row}

module _ (R Q T : RattleType) (t : Ty → Ptr → Fml) (z : BlockId) (x : T.Denot) where
  -- the value lies in its place in the block
  abbrev pub value_there : Fml
  value_there = lies_at T full_share (place z +ₚ at_value R Q T) x

  -- both slots lie in the block, with these contents
  abbrev pub slots_there : R.Denot × Q.Denot → Fml
  slots_there s = fsep (part_at R full_share s.0 z.block (z.offset + at_first R)) (part_at Q full_share s.1 z.block (z.offset + at_second R Q))

  -- the words, the slots and the value make the box again
  abbrev pub boxed : (ℕ × ℕ) × (R.Denot × Q.Denot) → Fml
  boxed m = fwand (fsep (words_in z m.0.0 m.0.1) (fsep (slots_there m.1) value_there)) (box_owns t (the_row R Q T) (place z) record { word = m.0.0; holds = m.0.1; first = m.1.0; second = m.1.1; value = x })

  -- the same, whatever words and slots hold by then
  abbrev pub rebox : Fml
  rebox = fall ((ℕ × ℕ) × (R.Denot × Q.Denot)) boxed

  -- what is lent beside the slots while anything is out
  abbrev pub content : Fml
  content = fsep value_there rebox

  -- the value as it is lent for a lifetime, to be looked at
  abbrev pub looked_at : Lft → Fml
  looked_at = lent_at T (place z +ₚ at_value R Q T) x

module _ (R Q T : RattleType) {V : Type 0} (c : V → Gv) (holds : State (Place R.Denot Q.Denot) V → Type 0) (out : ℕ → ℕ) (t : Ty → Ptr → Fml) (z : BlockId) (x : T.Denot) where
  -- the block's invariant, in which the value and the right to free the box are lent
  abbrev pub kept_of : Fml
  kept_of = kept R Q c holds out (content R Q T t z x) z

  -- the pointer is to this block
  abbrev pub lies_in : Ptr → Fml
  lies_in p = fact (p ≡ place z)

  module _ (p : Ptr) where
    module _ (much : Share → Type 0) (i : ℕ) where
      -- what an owner of this kind owns, which is a pointer
      abbrev pub owner_of : Fml
      owner_of = fsep (lies_in p) (owner_owns kept_of (looked_at R Q T t z x) much i z)

      -- what a `&` to it has
      abbrev pub owner_shown : Lft → Fml
      owner_shown = beside (said (lies_in p)) (owner_shares kept_of (looked_at R Q T t z x) much i z)

    -- that of a share, of a hold and of the last share
    abbrev pub share_of : Fml
    share_of = owner_of is_one of_shares

    abbrev pub share_shown : Lft → Fml
    share_shown = owner_shown is_one of_shares

    abbrev pub hold_of : Fml
    hold_of = owner_of is_one of_holds

    abbrev pub hold_shown : Lft → Fml
    hold_shown = owner_shown is_one of_holds

    abbrev pub last_of : Fml
    last_of = owner_of is_all of_last

    abbrev pub last_shown : Lft → Fml
    last_shown = owner_shown is_all of_last

    -- a share or the last share, where a step made or left one, and else what every one of them has
    abbrev pub maybe_share_of : Bool → Bool → Fml
    maybe_share_of y last = fsep (lies_in p) (fsep (parts_if y last z) (fsep kept_of (looked_at R Q T t z x (life z))))

    -- the same of a hold
    abbrev pub maybe_hold_of : Bool → Fml
    maybe_hold_of y = fsep (lies_in p) (fsep (hold_parts_if y z) (fsep kept_of (looked_at R Q T t z x (life z))))

    -- what an ended share or hold leaves to its owner: all of the memory where it got the block
    abbrev pub remains_of : Bool → Option (ℕ × V) → Fml
    remains_of y seat = fsep (lies_in p) (remains_if R Q c holds out (content R Q T t z x) z y seat)
