-- Two tables of moves that differ from the machine's own in one row, and what progress is lost by each.
use Rattle.std.specs.Prelude.{◌≡◌, ℕ, ◌+◌, ◌*◌, ◌≤◌, true, not, List, [], ◌∷◌, length, Option, Some, None, is_some, slice_get}
use Rattle.task_core.specs.Rows.{found, written}
use Rattle.task_laws.specs.declared.positions.Position.{Position}
use Rattle.task_laws.specs.declared.positions.Position.TheVariants.{Notifier}
use Rattle.task_core.specs.declared.acts.Act.{Act}
use Rattle.task_core.specs.declared.acts.Act.TheVariants.{MissNotify, FindNotify}
use Rattle.task_laws.specs.Table.{Scene, Outcome, leaves_slots, where_found, rule}
use Rattle.task_laws.specs.Machine.{Machine, Step, opening, scene, after, run}
use Rattle.task_laws.specs.Event.{Event}
use Rattle.task_laws.specs.Laws.{how_often, count, is_call_end}
use Rattle.task_laws.specs.Theorem.{Laws}
use Rattle.task_progress.specs.StepsLeft.{total, in_call}
use Rattle.task_progress.specs.Ending.{alone}

-- a table says what a party leaves by an act, as `rule` does for the machine
abbrev pub Table : Type 0
Table = Scene → Act → Position → Option Outcome

-- a notifier that misses looks again, until the registration or the other notifier has ended
abbrev pub looks_again : Table
looks_again s MissNotify (Notifier way) =
    where_found (found s.limit MissNotify s.word) (Some (leaves_slots s (written MissNotify s.word) (Notifier way) [] []))
looks_again s act p = rule s act p

-- a poll gives its registration up only where no notifier is found, so it waits for one that is
abbrev pub waits_for_notifier : Table
waits_for_notifier s FindNotify p = where_found (not s.word.notifying) (rule s FindNotify p)
waits_for_notifier s act p = rule s act p

-- it differs from the machine's own in this act alone
abbrev pub DiffersIn : Act → Table → Type 0
DiffersIn act table = (s : Scene) (other : Act) (p : Position) → ¬ (other ≡ act) → table s other p ≡ rule s other p

-- the machine by that table
abbrev pub moves_by : Table → Machine → ℕ → Act → Option Position → Option Machine
moves_by table m i act None = None
moves_by table m i act (Some p) = after m i p (table (scene m) act p)

-- one step by a table
abbrev pub step_by : Table → Machine → Step → Option Machine
step_by table m s = moves_by table m s.party s.act (slice_get m.parties s.party)

-- a list of steps by a table
abbrev pub run_from_by : Table → Option Machine → List Step → Option Machine
run_from_by table m [] = m
run_from_by table None (s ∷ steps) = None
run_from_by table (Some m) (s ∷ steps) = run_from_by table (step_by table m s) steps

-- the same from the spawn on
abbrev pub run_by : Table → ℕ → List Step → Option Machine
run_by table limit steps = run_from_by table (Some (opening limit)) steps

-- a number for each position falls with each step in a call, as `steps_left` does by the machine's own table
abbrev pub FallsBy : Table → (Position → ℕ) → Type 0
FallsBy table left =
    (s : Scene) (act : Act) (p : Position) (o : Outcome) → in_call p ≡ 1 → table s act p ≡ Some o → left o.next + 1 ≤ left p

-- such a number with one more for each call begun bounds the steps, as `steps_left` and 16 do
abbrev pub AreBoundedBy : Table → (Position → ℕ) → ℕ → Type 0
AreBoundedBy table left each = (m : Machine) (steps : List Step) (now : Machine) → run_from_by table (Some m) steps ≡ Some now
    → length steps + total left now.parties + each * how_often Event.CallBegins m.trace
    ≤ total left m.parties + each * how_often Event.CallBegins now.trace

-- party i has an act that it may make now
pub record HasAct (table : Table) (m : Machine) (i : ℕ) : Type 0 where
  pub act : Act
  pub allowed : is_some (step_by table m (record { party = i; act = act })) ≡ true

-- after every list of steps, each party in a call has one
abbrev pub EachHasAct : Table → Type 0
EachHasAct table = (limit : ℕ) (steps : List Step) (m : Machine) → run_by table limit steps ≡ Some m → (i : ℕ) (p : Position)
    → slice_get m.parties i ≡ Some p → in_call p ≡ 1 → HasAct table m i

-- calls are bounded, and each party in a call has an act: the clauses `steps` and `may_step` of `progress`, for a table
pub record Progresses (table : Table) : Type 0 where
  pub left : Position → ℕ
  pub each : ℕ
  pub falls : FallsBy table left
  pub bounded : AreBoundedBy table left each
  pub may_step : EachHasAct table

-- A state that the machine reaches, and the table too, and n steps more by the table: all are of one party, and no call begins or ends by
-- them.
pub record GoesOn (table : Table) (limit n : ℕ) : Type 0 where
  pub steps : List Step
  pub before : Machine
  pub reached : run limit steps ≡ Some before
  pub reached_by : run_by table limit steps ≡ Some before
  pub party : ℕ
  pub acts : List Act
  pub now : Machine
  pub leads : run_from_by table (Some before) (alone party acts) ≡ Some now
  pub long : length acts ≡ n
  pub begun : how_often Event.CallBegins now.trace ≡ how_often Event.CallBegins before.trace
  pub ended : count is_call_end now.trace ≡ count is_call_end before.trace

-- A state that the machine reaches, and the table too, in which a party in a call has no act by the table.
pub record StandsStill (table : Table) (limit : ℕ) : Type 0 where
  pub steps : List Step
  pub now : Machine
  pub reached : run limit steps ≡ Some now
  pub reached_by : run_by table limit steps ≡ Some now
  pub party : ℕ
  pub position : Position
  pub at : slice_get now.parties party ≡ Some position
  pub calls : in_call position ≡ 1
  pub none : (act : Act) → step_by table now (record { party = party; act = act }) ≡ None

-- by the first table one call makes any number of steps, so no number falls with each, and none bounds them
pub record LooksAgain : Type 0 where
  pub one_row : DiffersIn MissNotify looks_again
  pub goes_on : (limit n : ℕ) → GoesOn looks_again limit n
  pub never_falls : (left : Position → ℕ) → ¬ (FallsBy looks_again left)
  pub unbounded : (left : Position → ℕ) (each : ℕ) → ¬ (AreBoundedBy looks_again left each)
  pub refused : ¬ (Progresses looks_again)

-- by the second one a party stands still in its call, though all laws hold of each state that is reached by it
pub record WaitsForNotifier : Type 0 where
  pub one_row : DiffersIn FindNotify waits_for_notifier
  pub stands_still : (limit : ℕ) → StandsStill waits_for_notifier limit
  pub refused : ¬ (Progresses waits_for_notifier)
  pub laws_hold : (limit : ℕ) (steps : List Step) (m : Machine) → run_by waits_for_notifier limit steps ≡ Some m → Laws m
