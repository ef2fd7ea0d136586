use Rattle.std.specs.Prelude.{ℕ, Option, Some, None}
use Rattle.slab.specs.Slab.{Slab, get}

module _ {H : Type 0} where
  -- what is in the place, if there is one
  abbrev pub inside : Option (Option H) → Option H
  inside None = None
  inside (Some handle) = handle

  -- what is in the place of this slot
  abbrev pub held : Slab (Option H) → ℕ → Option H
  held places slot = inside (get places slot)
