-- What a waker may do, and what its seat knows after it.
use Rattle.std.specs.Prelude.{ℕ, Bool, true, false, List, [], ◌∷◌, ◌≡◌}
use Rattle.atomic_table.specs.Table.{Me, Step}
use Rattle.task_core.specs.Word.{HasRoom, state_of}
use Rattle.task_laws.specs.declared.positions.Position.TheVariants.{At}
use Rattle.task_laws.specs.declared.positions.Rest.{Rest}
use Rattle.task_laws.specs.declared.positions.Rest.TheVariants.{Waker, Lent}
use Rattle.task_steps.specs.declared.table.Member.{Member}
use Rattle.task_steps.specs.declared.table.View.{View}
use Rattle.task_steps.specs.Attempts.{observed}
use Rattle.task_steps.specs.Rule.{TaskPlace, view, fresh}
use Rattle.task_steps.specs.Values.{Values}
use Rattle.task_steps.specs.WakerScripts.{to_wake}

-- who may ask for a wake: a waker, and a lent one
abbrev pub may_call : Rest → Bool
may_call Waker = true
may_call Lent = true
may_call _ = false

module _ {F T A : Type 0} where
  -- who has a waker by reference gets a party of its own, and the count of the word that it finds has room for one more
  abbrev pub borrowing : Step (TaskPlace F T A) → Me (TaskPlace F T A) View → ℕ → Me (TaskPlace F T A) View → Type 0
  borrowing st m r m' = (m' ≡ (view m.0.limit (fresh (At Lent) ∷ []), [])) × HasRoom (state_of r)

  -- who has a waker by reference gets a party of its own, which has looked at the word for a wake
  abbrev pub waking_anew : Values F T → Step (TaskPlace F T A) → Me (TaskPlace F T A) View → ℕ → Me (TaskPlace F T A) View → Type 0
  waking_anew values st m r m' = observed values to_wake st (view m.0.limit (fresh (At Lent) ∷ []), []) r m'

-- all but the newest party
abbrev pub others : List Member → List Member
others [] = []
others (u ∷ []) = []
others (u ∷ w ∷ us) = u ∷ others (w ∷ us)

-- the newest party alone
abbrev pub newest_of : List Member → List Member
newest_of [] = []
newest_of (u ∷ []) = u ∷ []
newest_of (u ∷ w ∷ us) = newest_of (w ∷ us)

-- the newest party of a seat gets a seat of its own
abbrev pub without_newest : View → View
without_newest v = view v.limit (others v.members)

-- the seat that the newest party gets
abbrev pub newest : View → View
newest v = view v.limit (newest_of v.members)
