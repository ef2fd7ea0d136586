use Rattle.std.specs.Prelude.{◌≡◌, ℕ, Option, Result, true, false}
use Rattle.slab.specs.Slab.{Slab, slab_len}
use Rattle.executor_parts.specs.declared.id.Entry.{Entry}
use Rattle.executor_parts.specs.Members.{Leaves, SameMembers, IfNext, is_over, came_out}
use Rattle.executor_parts.specs.Generations.{StaySpent}

module _ {T U E : Type 0} where
  -- what a call does that takes the next member out of a group, where `number` is that of what came out
  pub record TakesNext (number : U → ℕ) (had_joined : ℕ) (old : Slab (Entry T)) (next : Result (Option U) E) (have_joined : ℕ) (new : Slab (Entry T)) : Type 0 where
    pub empty : slab_len old ≡ 0 → is_over next ≡ true
    pub leaves : IfNext next (λ ended. Leaves old new (number ended))
    pub stays : came_out next ≡ false → SameMembers old new
    pub len : came_out next ≡ false → slab_len new ≡ slab_len old
    pub spent : StaySpent had_joined old have_joined new
    pub room : new.capacity ≡ old.capacity
