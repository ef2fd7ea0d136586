-- 4 of 16: what a party finds at a step, and what it leaves.
use Rattle.std.specs.Prelude.{ℕ, Bool, if◌then◌else◌, List, [], Option, Some, None}
use Rattle.task_core.specs.Word.{State}
use Rattle.task_laws.specs.Event.{Event}
use Rattle.task_laws.specs.Position.{Position}

-- what the three slots hold: the future, the output, and the awaiter's clone of that poll
pub record Slots : Type 0 where
  pub future : Bool
  pub output : Bool
  pub awaiter : Option ℕ

-- what a party finds: the limit, the word and the slots
pub record Scene : Type 0 where
  pub limit : ℕ
  pub word : State
  pub slots : Slots

-- what a party leaves: the word, the slots, its own next position, the parties that it adds, and what is told of it, newest first
pub record Outcome : Type 0 where
  pub word : State
  pub slots : Slots
  pub next : Position
  pub born : List Position
  pub told : List Event

-- what is left where the condition holds, and None elsewhere
abbrev pub when : Bool → Outcome → Option Outcome
when b o = if b then Some o else None

-- a step that touches no slot
abbrev pub leaves_slots : Scene → State → Position → List Position → List Event → Outcome
leaves_slots s w next born told = record { word = w; slots = s.slots; next = next; born = born; told = told }

-- an act on the slots
abbrev pub changes_slots : Scene → State → Slots → Position → List Event → Outcome
changes_slots s w slots next told = record { word = w; slots = slots; next = next; born = []; told = told }
