-- 8 of 12: the log of the rule is a run of the small task that ends in the present word; each deed of the code in it is its act, at its moment; and
-- the acts of a call are those of its path, in this order, between the first deed of the call and its answer.
use Rattle.std.specs.Prelude.{◌≡◌, ℕ, eqb, List, [], ◌∷◌, ◌++◌, Option, Some, None, slice_get, slice_index, if◌then◌else◌}
use mathlib.Core.Option.{some}
use lib.ListN.{get_elem?}
use Rattle.atomic_table.specs.Table.{State as Board}
use Rattle.task_core.specs.Word.{number_of}
use Rattle.task_core.specs.declared.acts.Act.TheVariants.{EndCall}
use Rattle.task_laws.specs.declared.positions.Position.{Position}
use Rattle.task_laws.specs.Machine.{Machine, opening, scene, run}
use Rattle.task_laws.specs.Table.{Outcome, rule}
use Rattle.task_steps.specs.declared.table.Deed.{Deed}
use Rattle.task_steps.specs.declared.table.Member.{Member}
use Rattle.task_steps.specs.declared.table.View.{View}
use Rattle.task_steps.specs.Deeds.{act, after}
use Rattle.task_steps.specs.Values.{Values}
use Rattle.task_steps.specs.Rule.{TaskPlace, Entry, Reaches, steps_of, deeds_of, DidLast, RuleHolds}
use Rattle.task_atomic.specs.Small.{small_task, SmallAct, spawned, acted, all_acted}
use Rattle.task_atomic.specs.Atomic.{act_of, SmallStep, small_steps, acts_in}
use Rattle.task_atomic.specs.Calls.{and_act}
use Rattle.task_atomic.specs.Deeds.{act_by, acts_of}

-- the machine that this step found, after the earlier ones: what its party leaves there is the act of its deed, which the next deed tells of a look
pub record IsAct (limit : ℕ) (earlier : List Entry) (e : Entry) (next : Deed) : Type 0 where
  pub machine : Machine
  pub reached : Reaches limit earlier machine
  pub at : Position
  pub stands : slice_get machine.parties e.party ≡ Some at
  pub left : Outcome
  pub leaves : rule (scene machine) e.deed.act at ≡ Some left
  pub is : act_of e.deed.act left.next ≡ act_by e.deed.act e.deed.found (next ∷ [])
  pub atomic : acted machine.limit (act_of e.deed.act left.next) (small_task machine.word) ≡ Some (small_task left.word)

-- wherever a party made a step, and then another, in an interleaving of the rule: the newest of a list stands first
abbrev pub DeedsAreActs : Type 0
DeedsAreActs = (limit : ℕ) (later earlier : List Entry) (e : Entry) (m : Machine) → Reaches limit (later ++ e ∷ earlier) m
    → (newer : List Deed) (next : Deed) → deeds_of e.party later ≡ newer ++ next ∷ [] → IsAct limit earlier e next

-- the acts of one party, among those of all
abbrev pub acts_by : ℕ → List SmallStep → List SmallAct
acts_by k [] = []
acts_by k (s ∷ steps) = if eqb s.party k then and_act s.act (acts_by k steps) else acts_by k steps

-- who made the newest step, and who the oldest
abbrev pub newest : List Entry → Option ℕ
newest [] = None
newest (e ∷ earlier) = Some e.party

-- who made the oldest step
abbrev pub oldest : List Entry → Option ℕ
oldest [] = None
oldest (e ∷ []) = Some e.party
oldest (e ∷ d ∷ earlier) = oldest (d ∷ earlier)

-- a call of party k in an interleaving, which did these deeds since: the steps from its first deed to its answer are this part of the run of the
-- small task, and its acts among them are those of the path
pub record IsCall (limit k : ℕ) (newer path : List Deed) (log : List Entry) : Type 0 where
  pub since : List Entry
  pub during : List Entry
  pub before : List Entry
  pub cut : log ≡ since ++ (during ++ before)
  pub later : deeds_of k since ≡ newer
  pub did : deeds_of k during ≡ after path []
  pub begins : oldest during ≡ Some k
  pub answers : newest during ≡ Some k
  pub part : small_steps (Some (opening limit)) (steps_of log)
      ≡ small_steps (Some (opening limit)) (steps_of before)
      ++ (small_steps (run limit (steps_of before)) (steps_of during) ++ small_steps (run limit (steps_of (during ++ before))) (steps_of since))
  pub acts : acts_by k (small_steps (run limit (steps_of before)) (steps_of during)) ≡ acts_of path

-- wherever a party did this last in an interleaving, and a call among it
abbrev pub CallsAreActs : Type 0
CallsAreActs = (limit : ℕ) (log : List Entry) (m : Machine) → Reaches limit log m → (k : ℕ) (ds : List Deed) → DidLast k log ds
    → (newer path older : List Deed) → ds ≡ newer ++ after (path ++ act EndCall ∷ []) older → IsCall limit k newer (path ++ act EndCall ∷ []) log

module _ {F T A : Type 0} where
  -- an interleaving ends in the present word, and is a run of the small task; in it a party stands here, and did this last
  pub record IsRunOf (limit : ℕ) (s : Board (TaskPlace F T A) View) (at : Position) (ds : List Deed) : Type 0 where
    pub machine : Machine
    pub log : List Entry
    pub reached : Reaches limit log machine
    pub word_is : slice_index s.words 0 ≡ number_of machine.word
    pub runs : all_acted limit (acts_in (small_steps (Some (opening limit)) (steps_of log))) (Some spawned) ≡ Some (small_task machine.word)
    pub party : ℕ
    pub stands : slice_get machine.parties party ≡ Some at
    pub did : DidLast party log ds

-- the same wherever the rule of a cell holds, for each party of a seat
abbrev pub CellsAreRuns : {F T : Type 0} → Values F T → Type 0 → Type 0
CellsAreRuns {F} {T} values A =
    (limit : ℕ) (s : Board (TaskPlace F T A) View) → RuleHolds {A = A} values limit s → (id index : ℕ) (v : View) (u : Member)
    → get_elem? s.views id ≡ some v → get_elem? v.members index ≡ some u → IsRunOf limit s u.at u.deeds
