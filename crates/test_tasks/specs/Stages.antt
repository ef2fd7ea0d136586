-- The rules of the blocks that have one seat.
use Rattle.std.specs.Prelude.{◌≡◌, ℕ, zero, suc, [], ◌∷◌}
use mathlib.Core.Option.{some}
use Rattle.atomic_table.specs.Table.{State}
use Rattle.counted_block.specs.declared.place.Place.{Place}
use Rattle.counted_block.specs.declared.place.Place.TheVariants.{First, Second}

-- two shares at the first stage, then one, and then none
abbrev pub word_at : ℕ → ℕ
word_at zero = 2
word_at (suc zero) = 1
word_at (suc (suc n)) = 0

-- one share before the slots are taken and after it, and then none
abbrev pub shares_at : ℕ → ℕ
shares_at zero = 1
shares_at (suc n) = word_at (suc n)

module _ {S : Type 0} where
  -- one seat, whose stage says what the word is
  abbrev pub Staged : State S ℕ → Type 0
  Staged s = (stage : ℕ) × (s.views ≡ stage ∷ []) × (s.words ≡ word_at stage ∷ [])

module _ {S W : Type 0} where
  -- the same, and the slots are at home at the first stage
  abbrev pub Taken : State (Place S W) ℕ → Type 0
  Taken s = (stage : ℕ) × (s.views ≡ stage ∷ []) × (s.words ≡ shares_at stage ∷ []) × (stage ≡ 0 → (x : S) × (y : W) × (s.homes ≡ some (First x) ∷ some (Second y) ∷ []))
