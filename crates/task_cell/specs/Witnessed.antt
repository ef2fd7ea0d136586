-- What a party is told of the interleaving of its task.
use Rattle.std.specs.Prelude.{ℕ, List, [], Option, Some, None}
use Rattle.task_core.specs.Word.{State, state_of}
use Rattle.task_laws.specs.declared.positions.Position.{Position}
use Rattle.task_steps.specs.declared.table.Deed.{Deed}
use Rattle.task_steps.specs.Deeds.{after}
use Rattle.task_steps.specs.Witness.{Witness}
use Rattle.task_cell.specs.declared.cell.Party.{Party}
use Rattle.task_cell.specs.Calls.{deeds, position, limit_of}

-- at the end of some interleaving a party stands here, and did last this path, the oldest deed first
abbrev pub WasMade : ℕ → Position → List Deed → Type 0
WasMade limit at path = ∥ ((word : State) × Witness limit word at (after path [])) ∥₁

module _ {F T A : Type 0} where
  -- an interleaving ends in this word, in which the party did last what its list says, and stands where it stands
  abbrev pub Witnesses : Party F T A → State → Type 0
  Witnesses p word = Witness (limit_of p) word (position p) (deeds p)

  -- the same of some word
  abbrev pub IsWitnessed : Party F T A → Type 0
  IsWitnessed p = ∥ ((word : State) × Witnesses p word) ∥₁

  -- the same of a word that is answered, if one is
  abbrev pub LastWordIf : Option ℕ → Party F T A → Type 0
  LastWordIf None p = Unit {0}
  LastWordIf (Some word) p = Witnesses p (state_of word)
