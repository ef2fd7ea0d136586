-- What lies in the places of a cell when its last share is closed.
use Rattle.std.specs.Prelude.{◌≡◌, ℕ, true, List, ◌∷◌, None}
use mathlib.Core.Option.{some}
use lib.ListN.{get_elem?}
use Rattle.atomic_table.specs.Table.{State as Board}
use Rattle.task_steps.specs.declared.table.Member.{Member}
use Rattle.task_steps.specs.declared.table.View.{View}
use Rattle.task_steps.specs.Rule.{TaskPlace, IsEmpty, Waits, WorkAtHome, AwaiterAtHome, RuleHolds}
use Rattle.task_steps.specs.Shares.{has_emptied}
use Rattle.task_steps.specs.Values.{Values}

module _ {F T A : Type 0} where
  -- both places are at home, and nothing lies there
  pub record NothingLies (s : Board (TaskPlace F T A) View) : Type 0 where
    pub work : WorkAtHome s.homes IsEmpty
    pub awaiter : AwaiterAtHome s.homes (Waits None)

-- the same wherever the rule holds, and a party has emptied the places, as who closes the last share has
abbrev pub EmptyAtClose : {F T : Type 0} → Values F T → Type 0 → Type 0
EmptyAtClose {F} {T} values A =
    (limit : ℕ) (s : Board (TaskPlace F T A) View) → RuleHolds {A = A} values limit s → (id : ℕ) (v : View) (u : Member) (us : List Member)
    → get_elem? s.views id ≡ some v → v.members ≡ u ∷ us → has_emptied u.deeds ≡ true → NothingLies s
