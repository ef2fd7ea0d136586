-- What a caller is told of all that happened to its task.
use Rattle.std.specs.Prelude.{◌≡◌, ℕ, List, Some}
use mathlib.Core.Option.{some}
use lib.ListN.{get_elem?}
use Rattle.atomic_table.specs.Table.{Me, Step}
use Rattle.task_core.specs.Word.{State, state_of}
use Rattle.task_laws.specs.Machine.{Machine, run}
use Rattle.task_laws.specs.Theorem.{Laws}
use Rattle.task_laws.specs.declared.positions.Position.{Position}
use Rattle.task_steps.specs.declared.table.Deed.{Deed}
use Rattle.task_steps.specs.declared.table.View.{View}
use Rattle.task_steps.specs.Rule.{TaskPlace, Entry, Reaches, steps_of, DidLast}
use Rattle.task_steps.specs.Steps.{head_of}

-- an interleaving of the machine, from the spawn of a task with this limit, ends in this word; all laws hold of it, and in it a party stands here,
-- and did last these deeds, the newest first
pub record Witness (limit : ℕ) (word : State) (at : Position) (deeds : List Deed) : Type 0 where
  pub machine : Machine
  pub log : List Entry
  pub reached : Reaches limit log machine
  pub ran : run limit (steps_of log) ≡ Some machine
  pub laws : Laws machine
  pub word_is : word ≡ machine.word
  pub number : ℕ
  pub did : DidLast number log deeds
  pub stands : get_elem? machine.parties number ≡ some at

module _ {F T A : Type 0} where
  -- the first party of a seat is told this, by the word that is found; the seat stays as it is
  abbrev pub witnessed : Step (TaskPlace F T A) → Me (TaskPlace F T A) View → ℕ → Me (TaskPlace F T A) View → Type 0
  witnessed st m r m' = let u = head_of m.0.members in (m' ≡ m) × Witness m.0.limit (state_of r) u.at u.deeds
