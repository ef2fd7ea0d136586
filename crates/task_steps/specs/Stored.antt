-- By which poll an awaiter was stored.
use Rattle.std.specs.Prelude.{ℕ, List, [], ◌∷◌}
use Rattle.task_steps.specs.declared.kept.StoredAwaiter.{StoredAwaiter}
use Rattle.task_steps.specs.declared.table.Member.{Member}
use Rattle.task_steps.specs.declared.table.View.{View}
use Rattle.task_steps.specs.Standing.{poll_number}

-- the number of the poll that the first party of a seat is in
abbrev pub poll_of : View → ℕ
poll_of v = number_at v.members
  where
    number_at : List Member → ℕ
    number_at [] = 0
    number_at (u ∷ us) = poll_number u.at

-- the number of the poll that has stored this awaiter
abbrev pub stored_by : {A : Type 0} → StoredAwaiter A → ℕ
stored_by s = poll_of s.by.view
