-- What a party knows of the word that it finds, by what it has seen before.
use Rattle.std.specs.Prelude.{◌≡◌, ℕ, true, false, List}
use Rattle.atomic_table.specs.Table.{Me, Step}
use Rattle.task_core.specs.Word.{HasRoom, State, state_of, is_open}
use Rattle.task_core.specs.declared.acts.Act.{Act}
use Rattle.task_steps.specs.declared.table.Deed.{Deed}
use Rattle.task_steps.specs.declared.table.View.{View}
use Rattle.task_steps.specs.PollScripts.{has_ended}
use Rattle.task_steps.specs.Values.{Values}
use Rattle.task_steps.specs.Rule.{TaskPlace}
use Rattle.task_steps.specs.Steps.{head_of, Makes, saw_over, saw_closed, saw_ended}

-- what it has seen of the task's end is still so, and the count has room for one more
pub record Knows (ds : List Deed) (w : State) : Type 0 where
  pub over : saw_over ds ≡ true → is_open w ≡ false
  pub closed : saw_closed ds ≡ true → w.closed ≡ true
  pub ended : saw_ended ds ≡ true → has_ended w ≡ true
  pub room : HasRoom w

module _ {F T A : Type 0} where
  -- what a step tells that always makes its acts, and what is known of the word that it finds
  abbrev pub known : Values F T → (State → List Act) → Step (TaskPlace F T A) → Me (TaskPlace F T A) View → ℕ → Me (TaskPlace F T A) View → Type 0
  known values acts st m r m' = Makes values (acts (state_of r)) (state_of r) m m' × Knows (head_of m.0.members).deeds (state_of r)
