-- What a queue knows of a task whose Runnable it has.
use Rattle.std.specs.Prelude.{◌≡◌, ℕ, true, []}
use mathlib.Core.Option.{some}
use lib.ListN.{get_elem?}
use Rattle.task_core.specs.Word.{State}
use Rattle.task_laws.specs.declared.positions.Position.{Position}
use Rattle.task_laws.specs.declared.positions.Position.TheVariants.{Polling}
use Rattle.task_laws.specs.Machine.{Machine}
use Rattle.task_laws.specs.Holders.{is_runner}
use Rattle.task_steps.specs.Standing.{as_runnable}
use Rattle.task_steps.specs.Witness.{Witness}

-- no other party has a Runnable of the task or runs it, and nobody polls its future
pub record IsSole (m : Machine) (number : ℕ) : Type 0 where
  pub only : (k : ℕ) (p : Position) → get_elem? m.parties k ≡ some p → is_runner p ≡ true → k ≡ number
  pub not_polled : (k : ℕ) → get_elem? m.parties k ≡ some Polling → ⊥

-- in the interleaving that ends in this word
abbrev pub IsSoleRunnable : ℕ → State → Type 0
IsSoleRunnable limit word = (w : Witness limit word as_runnable []) × IsSole w.machine w.number
