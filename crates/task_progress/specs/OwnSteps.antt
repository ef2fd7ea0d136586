-- The steps of one party, whatever the others do: at most 16 for each of its calls, of which five write the word.
use Rattle.std.specs.Prelude.{◌≡◌, ℕ, ◌+◌, ◌*◌, ◌≤◌, if◌then◌else◌, nat_eq, List, [], ◌∷◌, Option, Some, None, slice_get}
use Rattle.task_core.specs.Word.{bit}
use Rattle.task_laws.specs.declared.positions.Position.{Position}
use Rattle.task_laws.specs.Machine.{Machine, Step, begins, step, run_from}
use Rattle.task_laws.specs.Event.{Event}
use Rattle.task_laws.specs.Laws.{how_often}
use Rattle.task_core.specs.Rows.{writes_word}
use Rattle.task_progress.specs.StepsLeft.{steps_left, writes_left}

-- how many of the steps are made by party i, and how many of these write the word
abbrev pub own_steps : ℕ → List Step → ℕ
own_steps i [] = 0
own_steps i (s ∷ steps) = bit (nat_eq s.party i) + own_steps i steps

-- how many steps of party i write the word
abbrev pub own_writes : ℕ → List Step → ℕ
own_writes i [] = 0
own_writes i (s ∷ steps) = (if nat_eq s.party i then bit (writes_word s.act) else 0) + own_writes i steps

-- how many calls a step of a party at that position begins
abbrev pub begins_at : Option Position → ℕ
begins_at None = 0
begins_at (Some p) = how_often Event.CallBegins (begins p)

-- how many calls party i begins by these steps
abbrev pub begun_by : ℕ → Option Machine → List Step → ℕ
begun_by i None steps = 0
begun_by i (Some m) [] = 0
begun_by i (Some m) (s ∷ steps) = (if nat_eq s.party i then begins_at (slice_get m.parties i) else 0) + begun_by i (step m s) steps

-- party i stands at p in m: its steps, with those left at the end, are at most those left at p and 16 for each call that it begins
pub record OwnStepsBounded (m : Machine) (made : List Step) (now : Machine) (i : ℕ) (p : Position) : Type 0 where
  pub next : Position
  pub at : slice_get now.parties i ≡ Some next
  pub steps : own_steps i made + steps_left next ≤ steps_left p + 16 * begun_by i (Some m) made
  pub writes : own_writes i made + writes_left next ≤ writes_left p + 5 * begun_by i (Some m) made

-- from every machine, for every list of steps and every party
abbrev pub EachPartyIsBounded : Type 0
EachPartyIsBounded = (m : Machine) (steps : List Step) (now : Machine) → run_from (Some m) steps ≡ Some now → (i : ℕ) (p : Position)
    → slice_get m.parties i ≡ Some p → OwnStepsBounded m steps now i p
