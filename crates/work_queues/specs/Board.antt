-- The rule of a board, whose queues have the flags of some bells. Words are counted in steps of `padding`: at step i is the word of queue i, 0 unlocked, 1 locked.
use Rattle.std.specs.Prelude.{◌≡◌, ◌≢◌, ℕ, ◌+◌, ◌*◌, ◌≤◌, [], ◌∷◌, length, slice_index}
use mathlib.Core.Option.{some}
use lib.ListN.{get_elem?}
use Rattle.atomic_table.specs.Seated.{TableId}
use Rattle.atomic_table.specs.Table.{State, Me, Step, rest}
use Rattle.work_queues.specs.Sleep.{padding}
use Rattle.work_queues.specs.declared.room.Room.{Room}

-- what each seat knows: which bells the board has
abbrev pub room : TableId → Room
room id = record { bells = id }

module _ {S : Type 0} where
  -- the rule: a queue that nobody has locked lies in its slot, beside its flag
  pub record Orderly (IsStored : TableId → ℕ → S → Type 0) (bells : TableId) (n : ℕ) (s : State S Room) : Type 0 where
    pub sized : length s.words ≡ padding * (n + 1)
    pub stored : length s.homes ≡ n + 1
    -- each seat knows the bells
    pub known : (port : ℕ) (v : Room) → get_elem? s.views port ≡ some v → v ≡ room bells
    -- a queue that is not locked is at home, with its flag at these bells
    pub home : (i : ℕ) → i ≤ n → slice_index s.words (padding * i) ≢ 1 → (queue : S) × (get_elem? s.homes i ≡ some (some queue)) × IsStored bells i queue

  -- the seat has queue i alone
  abbrev pub HasQueue : ℕ → Me S Room → S → Type 0
  HasQueue i me queue = me.1 ≡ (i, queue) ∷ []

  -- a load makes a seat, which has no queue
  abbrev pub Sits : Step S → Me S Room → ℕ → Me S Room → Type 0
  Sits step before found after = after ≡ (before.0, [])

  -- a queue that was not locked is, and the seat has it
  abbrev pub Locks : (TableId → ℕ → S → Type 0) → Step S → Me S Room → ℕ → Me S Room → Type 0
  Locks IsStored step before found after =
      (found ≡ step.first → (i : ℕ) → step.word ≡ padding * i → (queue : S) × (after ≡ (before.0, (i, queue) ∷ before.1)) × IsStored before.0.bells i queue) × (found ≢ step.first → after ≡ before)

  -- the queue is given back
  abbrev pub Unlocks : Step S → Me S Room → ℕ → Me S Room → Type 0
  Unlocks step before found after = after ≡ (before.0, rest before.1)
