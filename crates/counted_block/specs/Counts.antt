-- What a step asks beside `Allows`: how many shares are out after it.
use Rattle.std.specs.Prelude.{◌≡◌, ◌⊎◌, ℕ, ◌+◌, ◌<◌, ◌==◌, Bool, true, false, length, slice_index}
use lib.ListN.{get_elem?}
use mathlib.Core.Option.{some}
use Rattle.atomic_table.specs.Table.{State, Me, keeps, stepped}
use Rattle.counted_block.specs.Blocks.{word_of}

module _ {S V : Type 0} where
  -- whatever the block is when the word becomes f of what it was, as many are out as before
  abbrev pub Same : (State S V → Type 0) → (ℕ → ℕ) → ℕ → V → (ℕ → ℕ) → Type 0
  Same holds out id v f = (s : State S V) → holds s → get_elem? s.views id ≡ some v → out (f (word_of s)) ≡ out (word_of s)

  -- one more, where the number that is found says so
  abbrev pub More : (State S V → Type 0) → (ℕ → ℕ) → ℕ → V → (ℕ → ℕ) → (ℕ → Bool) → Type 0
  More holds out id v f counts = (s : State S V) → holds s → get_elem? s.views id ≡ some v
      → (counts (word_of s) ≡ false) × (out (f (word_of s)) ≡ out (word_of s)) ⊎ (counts (word_of s) ≡ true) × (out (f (word_of s)) ≡ out (word_of s) + 1) × (out (word_of s) + 1 < 4611686018427387904)

  -- one less, where it says so, and it says too whether none is left
  abbrev pub Less : (State S V → Type 0) → (ℕ → ℕ) → ℕ → V → (ℕ → ℕ) → (ℕ → Bool) → (ℕ → Bool) → Type 0
  Less holds out id v f counts lasts = (s : State S V) → holds s → get_elem? s.views id ≡ some v
      → (counts (word_of s) ≡ false) × (out (f (word_of s)) ≡ out (word_of s)) ⊎ (counts (word_of s) ≡ true) × (out (f (word_of s)) + 1 ≡ out (word_of s)) × (lasts (word_of s) ≡ out (f (word_of s)) == 0)

  -- a seat goes on by itself: an `Allows` of a load, whose act is `keeps`
  abbrev pub Notes : (State S V → Type 0) → ℕ → Me S V → (ℕ → Me S V → Type 0) → Type 0
  Notes holds id me then = (s : State S V) → holds s → length s.homes ≡ 2 → get_elem? s.views id ≡ some me.0 → slice_index s.words 0 < 18446744073709551616
      → (w : V) × holds (stepped s 0 (slice_index s.words 0) id me.1 w keeps) × then (slice_index s.words 0) (w, me.1)
