-- 10 of 16: the machine, any number of parties, of which one at a time makes a step.
use Rattle.std.specs.Prelude.{ℕ, ◌+◌, Bool, true, false, List, [], ◌∷◌, ◌++◌, Option, Some, None, slice_get, slice_set}
use Rattle.task_core.specs.Word.{State, bit, opening_word}
use Rattle.task_laws.specs.Event.{Event, Made, BySpawn, CallBegins}
use Rattle.task_laws.specs.Position.{Position, At, Runnable, Task, Lent, Act}
use Rattle.task_laws.specs.Table.{Slots, Scene, Outcome, rule}

-- how many parties stand at such a position
abbrev pub how_many : (Position → Bool) → List Position → ℕ
how_many p [] = 0
how_many p (x ∷ xs) = bit (p x) + how_many p xs

-- the task, all its parties, and what has happened, newest first
pub record Machine : Type 0 where
  pub limit : ℕ
  pub word : State
  pub slots : Slots
  pub parties : List Position
  pub trace : List Event

-- after a spawn: party 0 is the Runnable, party 1 the Task, and party 2 the waker that is lent to each call by reference
abbrev pub opening : ℕ → Machine
opening limit = record {
  limit = limit;
  word = opening_word;
  slots = record { future = true; output = false; awaiter = None };
  parties = At Runnable ∷ At (Task 0) ∷ At Lent ∷ [];
  trace = Made BySpawn ∷ [];
}

-- who makes which act
pub record Step : Type 0 where
  pub party : ℕ
  pub act : Act

-- the first act of a call begins it
abbrev pub begins : Position → List Event
begins (At r) = CallBegins ∷ []
begins _ = []

-- what a party of the machine finds
abbrev pub scene : Machine → Scene
scene m = record { limit = m.limit; word = m.word; slots = m.slots }

-- the machine after what the party leaves
abbrev pub after : Machine → ℕ → Position → Option Outcome → Option Machine
after m i p None = None
after m i p (Some o) = Some (record {
  limit = m.limit;
  word = o.word;
  slots = o.slots;
  parties = slice_set m.parties i o.next ++ o.born;
  trace = o.told ++ (begins p ++ m.trace);
})

-- the machine after an act of a party that stands there
abbrev pub moves : Machine → ℕ → Act → Option Position → Option Machine
moves m i act None = None
moves m i act (Some p) = after m i p (rule (scene m) act p)

-- one step: None where it is not allowed
abbrev pub step : Machine → Step → Option Machine
step m s = moves m s.party s.act (slice_get m.parties s.party)

-- a list of steps, the first one first
abbrev pub run_from : Option Machine → List Step → Option Machine
run_from m [] = m
run_from None (s ∷ steps) = None
run_from (Some m) (s ∷ steps) = run_from (step m s) steps

-- a list of steps from the spawn on
abbrev pub run : ℕ → List Step → Option Machine
run limit steps = run_from (Some (opening limit)) steps
