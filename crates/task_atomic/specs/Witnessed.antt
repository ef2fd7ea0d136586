-- 10 of 12: what a caller learns of the small task from a witness, which `witness` of each handle and the record of a call give.
use Rattle.std.specs.Prelude.{◌≡◌, ℕ, true, List, ◌∷◌, [], ◌++◌, Some}
use Rattle.task_core.specs.Word.{State}
use Rattle.task_core.specs.declared.acts.Act.TheVariants.{EndCall}
use Rattle.task_laws.specs.declared.positions.Position.{Position}
use Rattle.task_laws.specs.Machine.{opening}
use Rattle.task_steps.specs.declared.table.Deed.{Deed}
use Rattle.task_steps.specs.Deeds.{act, after}
use Rattle.task_steps.specs.Rule.{steps_of}
use Rattle.task_steps.specs.Witness.{Witness}
use Rattle.task_atomic.specs.Small.{small_task, spawned, all_acted}
use Rattle.task_atomic.specs.Atomic.{small_steps, acts_in}
use Rattle.task_atomic.specs.CodeActs.{IsCall}
use Rattle.task_atomic.specs.Nesting.{calls_nest, IsWholeRun}

-- its interleaving is a run of the small task from the spawn, which ends in the word; each call among the deeds of its party made the acts of its path;
-- and where its calls nest, it is a whole run
pub record IsExplained (limit : ℕ) (word : State) (at : Position) (ds : List Deed) (w : Witness limit word at ds) : Type 0 where
  pub runs : all_acted limit (acts_in (small_steps (Some (opening limit)) (steps_of w.log))) (Some spawned) ≡ Some (small_task word)
  pub calls : (newer path older : List Deed) → ds ≡ newer ++ after (path ++ act EndCall ∷ []) older → IsCall limit w.number newer (path ++ act EndCall ∷ []) w.log
  pub whole : calls_nest w.log ≡ true → IsWholeRun limit w.log w.machine

-- so it is of every witness
abbrev pub WitnessesExplain : Type 0
WitnessesExplain = (limit : ℕ) (word : State) (at : Position) (ds : List Deed) (w : Witness limit word at ds) → IsExplained limit word at ds w
