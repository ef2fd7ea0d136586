-- How many shares of a task's block are out, by its word, and which steps change that.
use Rattle.std.specs.Prelude.{◌≡◌, ℕ, ◌+◌, ◌==◌, Bool, true, false, ◌&&◌, ◌||◌, nat_lt, Option, List, [], ◌∷◌}
use prog.Atomic.{either}
use Rattle.atomic_table.specs.Table.{Me, Step}
use Rattle.counted_block.specs.Counts.{More, Less}
use Rattle.task_core.specs.Word.{State, bit, state_of, number_of}
use Rattle.task_core.specs.declared.acts.Act.{Act}
use Rattle.task_core.specs.declared.acts.Act.TheVariants.{EmptySlots}
use Rattle.task_steps.specs.declared.table.Tries.{Tries}
use Rattle.task_steps.specs.declared.table.View.{View}
use Rattle.task_steps.specs.declared.table.Deed.{Deed}
use Rattle.task_steps.specs.Values.{Values}
use Rattle.task_steps.specs.Rule.{TaskPlace, RuleHolds}
use Rattle.task_steps.specs.Attempts.{Names, having_seen}
use Rattle.task_steps.specs.Attempt.{Attempt, word_after, acts_on, counts_on, lasts_on}

-- how many handles a word counts: one for each reference, and the Task
abbrev pub handles : State → ℕ
handles w = w.references + bit w.task

-- how many shares are out, by the number in the word: one for each handle
abbrev pub shares_out : ℕ → ℕ
shares_out n = handles (state_of n)

-- the party has emptied the places: it had the last handle
abbrev pub is_emptying : Act → Bool
is_emptying EmptySlots = true
is_emptying _ = false

-- one of these deeds has emptied the places
abbrev pub has_emptied : List Deed → Bool
has_emptied [] = false
has_emptied (d ∷ earlier) = is_emptying d.act || has_emptied earlier

-- a Runnable, a run or a waker is left
abbrev pub has_references : State → Bool
has_references w = nat_lt 0 w.references

-- an exchange counts where it was made, by the word that it was made on
abbrev pub counted : {S : Type 0} → (State → Bool) → Step S → ℕ → Bool
counted counts st n = (n == st.first) && counts (state_of n)

module _ {F T A : Type 0} (values : Values F T) where
  -- whatever the party has seen, each exchange of its attempt brings a share where the change counts
  abbrev pub MayBring : {Row : Type 0} → ℕ → ℕ → Me (TaskPlace F T A) View → Attempt Row → Type 0
  MayBring limit id me a =
      (t : Option Tries) (w : State) → a.applies limit w ≡ true → Names w t
      → More (RuleHolds {A = A} values limit) shares_out id (having_seen t me.0) (λ n. either (n == number_of w) (number_of (word_after w (acts_on a w))) n)
      (λ n. (n == number_of w) && counts_on a (state_of n))

  -- whatever the party has seen, each exchange of its attempt gives a share up where the change counts, the last one where it says so
  abbrev pub MayGive : {Row : Type 0} → ℕ → ℕ → Me (TaskPlace F T A) View → Attempt Row → Type 0
  MayGive limit id me a =
      (t : Option Tries) (w : State) → a.applies limit w ≡ true → Names w t
      → Less (RuleHolds {A = A} values limit) shares_out id (having_seen t me.0) (λ n. either (n == number_of w) (number_of (word_after w (acts_on a w))) n)
      (λ n. (n == number_of w) && counts_on a (state_of n)) (λ n. lasts_on a (state_of n))
