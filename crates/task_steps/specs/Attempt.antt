-- An attempt to change the word by compare and exchange.
use Rattle.std.specs.Prelude.{ℕ, Bool, false, List, [], ◌∷◌, Option, Some, None, if◌then◌else◌}
use Rattle.task_core.specs.Word.{State}
use Rattle.task_core.specs.Rows.{written}
use Rattle.task_core.specs.declared.acts.Act.{Act}

-- the words that the change applies to, by the limit of references; its row, which is what it finds there; by the row its acts, and whether it
-- makes or ends a share of the block, and whether that one was the last; the words that end the attempt, and its acts then
pub record Attempt (Row : Type 0) : Type 0 where
  pub applies : ℕ → State → Bool
  pub row : State → Row
  pub acts : Row → List Act
  pub counts : Row → Bool
  pub lasts : Row → Bool
  pub ends : ℕ → State → Bool
  pub acts_at_end : State → List Act

-- the word that acts in a row leave
abbrev pub word_after : State → List Act → State
word_after w [] = w
word_after w (a ∷ more) = word_after (written a w) more

module _ {Row : Type 0} where
  -- the acts of the change on this word
  abbrev pub acts_on : Attempt Row → State → List Act
  acts_on a w = a.acts (a.row w)

  -- whether the change makes or ends a share on this word
  abbrev pub counts_on : Attempt Row → State → Bool
  counts_on a w = a.counts (a.row w)

  -- whether the change ends the last share
  abbrev pub lasts_on : Attempt Row → State → Bool
  lasts_on a w = a.lasts (a.row w)

  -- the word that the change writes on this one, and its row
  abbrev pub next_of : Attempt Row → ℕ → State → Option (State × Row)
  next_of a limit w = if a.applies limit w then Some (word_after w (acts_on a w), a.row w) else None

-- no word ends the attempt
abbrev pub no_end : ℕ → State → Bool
no_end limit w = false

-- nothing is done at the end of an attempt
abbrev pub no_acts : State → List Act
no_acts w = []

-- there is one row
abbrev pub only : State → Unit {0}
only w = tt
