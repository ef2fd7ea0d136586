-- The rule of a pointer's block: the word is the number of owners.
use Rattle.std.specs.Prelude.{◌≡◌, ℕ, ◌+◌, ◌<◌, Bool, ◌==◌, List, [], ◌∷◌, length, MatchBool}
use Rattle.atomic_table.specs.Table.{State, Step, Me}
use Rattle.counted_block.specs.Blocks.{word_of}
use Rattle.test_tasks.specs.declared.blocks.law.View.{View}

-- what a seat knows: for how many owners it stands
abbrev pub view : ℕ → View
view n = record { owners = n }

-- how many owners there are
abbrev pub total : List View → ℕ
total [] = 0
total (v ∷ vs) = v.owners + total vs

module _ {S : Type 0} where
  -- the rule: the word counts the owners
  abbrev pub Agrees : State S View → Type 0
  Agrees s = (length s.words ≡ 1) × (total s.views ≡ word_of s) × (word_of s < 4611686018427387904)

  -- a new seat stands for nobody
  abbrev pub Entered : Step S → Me S View → ℕ → Me S View → Type 0
  Entered s before n after = after.0 ≡ view 0

  -- a share comes where the exchange is made
  abbrev pub gains_share : Step S → ℕ → Bool
  gains_share s n = n == s.first

  -- the seat stands for one owner where the exchange is made
  abbrev pub Gained : Step S → Me S View → ℕ → Me S View → Type 0
  Gained s before n after = MatchBool (n == s.first) (after.0 ≡ view 1) (after.0 ≡ view 0)

  -- the seat stands for nobody
  abbrev pub Parted : Step S → Me S View → ℕ → Me S View → Type 0
  Parted s before n after = after.0 ≡ view 0
