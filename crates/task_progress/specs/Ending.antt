-- Calls end: each by its own steps, while all others stand still; and all together.
use Rattle.std.specs.Prelude.{◌≡◌, ℕ, ◌≤◌, ◌⊎◌, List, [], ◌∷◌, length, Some, slice_get}
use Rattle.task_laws.specs.declared.positions.Rest.{Rest}
use Rattle.task_laws.specs.declared.positions.Position.{Position}
use Rattle.task_laws.specs.declared.positions.Position.TheVariants.{At}
use Rattle.task_core.specs.declared.acts.Act.{Act}
use Rattle.task_laws.specs.Machine.{Machine, Step, step, run_from, run}
use Rattle.task_laws.specs.Event.{Event}
use Rattle.task_laws.specs.Laws.{how_often}
use Rattle.task_progress.specs.StepsLeft.{total, in_call, steps_left}

-- the steps of party i that make these acts
abbrev pub alone : ℕ → List Act → List Step
alone i [] = []
alone i (act ∷ acts) = record { party = i; act = act } ∷ alone i acts

-- party i stands at p: its call ends by its own acts, of which there are at most as many as were left
pub record EndsCall (m : Machine) (i : ℕ) (p : Position) : Type 0 where
  pub acts : List Act
  pub now : Machine
  pub rest : Rest
  pub short : length acts ≤ steps_left p
  pub leads : run_from (Some m) (alone i acts) ≡ Some now
  pub ends : slice_get now.parties i ≡ Some (At rest)
  pub begun : how_often Event.CallBegins now.trace ≡ how_often Event.CallBegins m.trace

-- after every list of steps, wherever the other parties stand still
abbrev pub EachEndsAlone : Type 0
EachEndsAlone = (limit : ℕ) (steps : List Step) (m : Machine) → run limit steps ≡ Some m → (i : ℕ) (p : Position)
    → slice_get m.parties i ≡ Some p → EndsCall m i p

-- no call is in progress
abbrev pub NoCallInProgress : Machine → Type 0
NoCallInProgress m = total in_call m.parties ≡ 0

-- all calls in progress end by some steps, and no other begins
pub record CallsEnd (m : Machine) : Type 0 where
  pub steps : List Step
  pub now : Machine
  pub short : length steps ≤ total steps_left m.parties
  pub leads : run_from (Some m) steps ≡ Some now
  pub none_in_progress : NoCallInProgress now
  pub begun : how_often Event.CallBegins now.trace ≡ how_often Event.CallBegins m.trace

-- after every list of steps
abbrev pub AllCallsEnd : Type 0
AllCallsEnd = (limit : ℕ) (steps : List Step) (m : Machine) → run limit steps ≡ Some m → CallsEnd m

-- a step of a call in progress
pub record HasStep (m : Machine) : Type 0 where
  pub by : Step
  pub now : Machine
  pub leads : step m by ≡ Some now
  pub begun : how_often Event.CallBegins now.trace ≡ how_often Event.CallBegins m.trace

-- after every list of steps: so a run in which no call begins can be continued until none is in progress
abbrev pub NeverStuck : Type 0
NeverStuck = (limit : ℕ) (steps : List Step) (m : Machine) → run limit steps ≡ Some m → NoCallInProgress m ⊎ HasStep m
