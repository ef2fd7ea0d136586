use Rattle.std.specs.Prelude.{◌≡◌, ◌≢◌, ◌<◌, ℕ, Option, Some, option_map}
use Rattle.slab.specs.Slab.{Slab, get}
use Rattle.executor_parts.specs.declared.id.MemberId.{MemberId}
use Rattle.executor_parts.specs.declared.id.Entry.{Entry}

module _ {T : Type 0} where
  -- the generation of the member of this number, if there is one
  abbrev pub generation_at : Slab (Entry T) → ℕ → Option ℕ
  generation_at members number = option_map (λ entry. entry.generation) (get members number)

  -- each number is that of the same member, or of none, as before
  abbrev pub SameGenerations : Slab (Entry T) → Slab (Entry T) → Type 0
  SameGenerations old new = (number : ℕ) → generation_at new number ≡ generation_at old number

  -- the id refers to nobody
  abbrev pub IsNobody : Slab (Entry T) → MemberId → Type 0
  IsNobody members id = generation_at members id.number ≢ Some id.generation

  -- this many have joined, the member of this id among them, and the id refers to nobody
  pub record IsSpent (joined : ℕ) (members : Slab (Entry T)) (id : MemberId) : Type 0 where
    pub given : id.generation < joined
    pub nobody : IsNobody members id

  -- each id that was spent still is
  abbrev pub StaySpent : ℕ → Slab (Entry T) → ℕ → Slab (Entry T) → Type 0
  StaySpent had_joined old have_joined new = (id : MemberId) → IsSpent had_joined old id → IsSpent have_joined new id
