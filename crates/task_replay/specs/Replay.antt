-- A machine that is replayed: how it stands, and what a replay may answer.
use Rattle.std.specs.Prelude.{◌≡◌, ℕ, ◌+◌, ◌<◌, List, [], length, take, Option, Some, None, IsSome}
use Rattle.task_core.specs.Word.{State}
use Rattle.task_laws.specs.declared.positions.Rest.TheVariants.{Task}
use Rattle.task_laws.specs.declared.positions.Position.{Position}
use Rattle.task_laws.specs.declared.positions.Position.TheVariants.{At}
use Rattle.task_laws.specs.Table.{Slots, Scene, Outcome}
use Rattle.task_laws.specs.Machine.{Machine, Step, step, run}
use Rattle.task_replay.specs.Line.{listed}
use Rattle.task_replay.specs.declared.machine.Slots.{Slots as SlotsHeld}
use Rattle.task_replay.specs.declared.table.Scene.{Scene as SceneFound}
use Rattle.task_replay.specs.declared.table.Effect.{Effect}
use Rattle.task_replay.specs.declared.machine.ReplayError.{ReplayError}
use Rattle.task_replay.specs.declared.machine.ReplayError.TheVariants.{NotAllowed, NoMemory}

-- how many polls the Task that rests there has begun
abbrev pub begun : Position → ℕ
begun (At (Task n)) = n
begun _ = 0

-- slots and a scene of the code, as the table has them
abbrev pub slots_of : SlotsHeld → Slots
slots_of s = record { future = s.future; output = s.output; awaiter = s.awaiter }

-- what the code says that a party finds, as a scene of the table
abbrev pub scene_of : SceneFound → Scene
scene_of s = record { limit = s.limit; word = s.word; slots = slots_of s.slots }

-- what a party leaves, without what is told of it
abbrev pub untold : Option Outcome → Option Outcome
untold None = None
untold (Some o) = Some (record o { told = [] })

-- what the code says that a party leaves, as an outcome of the table
abbrev pub outcome_of : Effect → Outcome
outcome_of left = record { word = left.word; slots = slots_of left.slots; next = left.next; born = listed left.added; told = [] }

-- how a machine stands: all of it but its trace
pub record Standing : Type 0 where
  pub limit : ℕ
  pub word : State
  pub slots : Slots
  pub parties : List Position

-- how this machine stands
abbrev pub standing : Machine → Standing
standing m = record { limit = m.limit; word = m.word; slots = m.slots; parties = m.parties }

-- the same, where the steps to it were allowed
abbrev pub stands : Option Machine → Option Standing
stands None = None
stands (Some m) = Some (standing m)

-- what a party finds at a machine that stands so
abbrev pub scene_at : Standing → Scene
scene_at now = record { limit = now.limit; word = now.word; slots = now.slots }

-- a step at a machine that stands so leaves it so, or is not allowed, whatever its trace
abbrev pub StepsTo : Standing → Step → Option Standing → Type 0
StepsTo now s next = (m : Machine) → standing m ≡ now → stands (step m s) ≡ next

-- a list of this many steps ends in a machine that stands so
abbrev pub Played : Standing → ℕ → Type 0
Played now count = (steps : List Step) × ((length steps ≡ count) × (stands (run now.limit steps) ≡ Some now))

-- the steps before number i are allowed, and that one is not
pub record FailsAt (limit : ℕ) (steps : List Step) (i : ℕ) : Type 0 where
  pub within : i < length steps
  pub before : IsSome (run limit (take i steps))
  pub here : run limit (take (i + 1) steps) ≡ None

-- a refusal that names a step is right; one for want of memory says nothing of the steps
abbrev pub IsRight : ℕ → List Step → ReplayError → Type 0
IsRight limit steps (NotAllowed i) = FailsAt limit steps i
IsRight limit steps NoMemory = Unit {0}
