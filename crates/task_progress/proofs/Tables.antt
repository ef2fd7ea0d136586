-- Tables of moves: the machine's own progresses, and two that differ from it in one row do not.
use Rattle.std.proofs.Common.{◌≡◌, ℕ, zero, suc, ◌+◌, ◌≤◌, ◌∙◌, Bool, true, false, List, [], ◌∷◌, length, Option, Some, None, refl, sym, ap, subst, arith}
use Rattle.std.specs.Prelude.{not, is_some, slice_get}
use Rattle.task_progress.proofs.Vocabulary.{Position, At, Notifier, OfDrop, Act, DiscardOpen, MissNotify, BeginNotify, FindNotify, BeginRegister, EndRegister, Look, DropFuture, CloneAwaiter, StoreAwaiter, Unschedule}
use Rattle.task_progress.proofs.Vocabulary.{EndCall, Scene, Outcome, where_found, rule, Machine, Step, opening, scene, begins, after, moves, step, run_from, run, Event, how_often, laws_hold}
use Rattle.task_progress.specs.StepsLeft.{total, in_call, steps_left}
use Rattle.task_progress.specs.Waiting.{next_act}
use Rattle.task_progress.specs.Ending.{alone}
use Rattle.task_progress.specs.Tables.{Table, looks_again, waits_for_notifier, DiffersIn, moves_by, step_by, run_from_by, FallsBy, AreBoundedBy, EachHasAct, Progresses, GoesOn, StandsStill, LooksAgain, WaitsForNotifier}
use Rattle.task_progress.proofs.Rows.{NearTo, near}
use Rattle.task_progress.proofs.Sums.{steps_are_bounded}
use Rattle.task_progress.proofs.Waits.{no_call_waits}

-- by its own table the machine is the machine
same_moves : (m : Machine) (i : ℕ) (act : Act) (at : Option Position) → moves_by rule m i act at ≡ moves m i act at
same_moves m i act None = refl
same_moves m i act (Some p) = refl

same_step : (m : Machine) (s : Step) → step_by rule m s ≡ step m s
same_step m s = same_moves m s.party s.act (slice_get m.parties s.party)

same_run : (o : Option Machine) (steps : List Step) → run_from_by rule o steps ≡ run_from o steps
same_run None [] = refl
same_run (Some m) [] = refl
same_run None (s ∷ steps) = refl
same_run (Some m) (s ∷ steps) = same_run (step_by rule m s) steps ∙ ap (λ o. run_from o steps) (same_step m s)

own_bounded : AreBoundedBy rule steps_left 16
own_bounded m steps now e = (steps_are_bounded m steps now (sym (same_run (Some m) steps) ∙ e)).steps

none_begun : (p : Position) → in_call p ≡ 1 → how_often Event.CallBegins (begins p) ≡ 0
none_begun (At r) e = absurd (cc)
none_begun p e = refl

own_falls : FallsBy rule steps_left
own_falls s act p o calls e =
    let nears : NearTo act p (Some o) = subst (NearTo act p) e (near act p s) in
    omega (arith, nears.own_steps, none_begun p calls)

own_acts : EachHasAct rule
own_acts limit steps m e i p at calls = record {
  act = next_act m.word p;
  allowed = ap is_some (same_step m (record { party = i; act = next_act m.word p })) ∙ no_call_waits limit steps m (sym (same_run (Some (opening limit)) steps) ∙ e) i p at calls;
}

pub own_progresses : Progresses rule
own_progresses = record { left = steps_left; each = 16; falls = own_falls; bounded = own_bounded; may_step = own_acts }

-- a machine that is reached
abbrev known : Option Machine → Machine
known None = opening 0
known (Some m) = m

abbrev polls : List Act
polls = Look ∷ CloneAwaiter ∷ BeginRegister ∷ StoreAwaiter ∷ EndRegister ∷ Look ∷ EndCall ∷ []

abbrev then_does : ℕ → List Act → List Step → List Step
then_does i [] later = later
then_does i (act ∷ acts) later = record { party = i; act = act } ∷ then_does i acts later

-- a second poll registers while a Runnable's drop is about to take the awaiter of the first one
abbrev registers : List Step
registers = then_does 1 polls (then_does 1 (Look ∷ CloneAwaiter ∷ BeginRegister ∷ []) (then_does 0 (DiscardOpen ∷ DropFuture ∷ Unschedule ∷ []) []))

abbrev registering : ℕ → Machine
registering limit = known (run limit registers)

abbrev miss : Step
miss = record { party = 0; act = MissNotify }

-- the same after its first miss
abbrev missed : ℕ → Machine
missed limit = known (step_by looks_again (registering limit) miss)

abbrev misses : ℕ → List Act
misses zero = []
misses (suc n) = MissNotify ∷ misses n

stays_missed : (limit n : ℕ) → run_from_by looks_again (Some (missed limit)) (alone 0 (misses n)) ≡ Some (missed limit)
stays_missed limit zero = refl
stays_missed limit (suc n) = stays_missed limit n

long_misses : (n : ℕ) → length (misses n) ≡ n
long_misses zero = refl
long_misses (suc n) = ap suc (long_misses n)

goes_on_looking : (limit n : ℕ) → GoesOn looks_again limit n
goes_on_looking limit zero = record {
  steps = registers;
  before = registering limit;
  reached = refl;
  reached_by = refl;
  party = 0;
  acts = [];
  now = registering limit;
  leads = refl;
  long = refl;
  begun = refl;
  ended = refl;
}
goes_on_looking limit (suc n) = record {
  steps = registers;
  before = registering limit;
  reached = refl;
  reached_by = refl;
  party = 0;
  acts = misses (suc n);
  now = missed limit;
  leads = stays_missed limit n;
  long = long_misses (suc n);
  begun = refl;
  ended = refl;
}

long_alone : (i : ℕ) (acts : List Act) → length (alone i acts) ≡ length acts
long_alone i [] = refl
long_alone i (act ∷ acts) = ap suc (long_alone i acts)

-- more steps than the numbers allow
too_many : (made now before calls begun : ℕ) → made + now + calls ≤ before + begun → begun ≡ calls → made ≡ suc before → ⊥
too_many made now before calls begun more same long = absurd (omega arith)

looks_unbounded : (left : Position → ℕ) (each : ℕ) → ¬ (AreBoundedBy looks_again left each)
looks_unbounded left each bounded =
    let n = total left (registering 0).parties in
    too_many _ _ n _ _ (bounded (registering 0) (alone 0 (misses (suc n))) (missed 0) (stays_missed 0 n)) refl
    (long_alone 0 (misses (suc n)) ∙ long_misses (suc n))

never_falls : (left : Position → ℕ) → ¬ (FallsBy looks_again left)
never_falls left falls = no_less (left (Notifier OfDrop)) (falls (scene (registering 0)) MissNotify (Notifier OfDrop) _ refl refl)
  where
    no_less : (n : ℕ) → ¬ (n + 1 ≤ n)
    no_less n e = absurd (omega arith)

in_one_row : DiffersIn MissNotify looks_again
in_one_row s MissNotify p differs = absurd (differs refl)
in_one_row s other p differs = refl

pub looks_again_refused : LooksAgain
looks_again_refused = record {
  one_row = in_one_row;
  goes_on = goes_on_looking;
  never_falls = never_falls;
  unbounded = looks_unbounded;
  refused = λ progresses. looks_unbounded progresses.left progresses.each progresses.bounded;
}

-- a second poll is about to register while a Runnable's drop takes the awaiter of the first one
abbrev notifies : List Step
notifies = then_does 1 polls (then_does 1 (Look ∷ CloneAwaiter ∷ []) (then_does 0 (DiscardOpen ∷ DropFuture ∷ Unschedule ∷ BeginNotify ∷ []) []))

abbrev notifying : ℕ → Machine
notifying limit = known (run limit notifies)

no_act : (limit : ℕ) (act : Act) → step_by waits_for_notifier (notifying limit) (record { party = 1; act = act }) ≡ None
no_act limit FindNotify = refl
no_act limit act = refl

stands_still : (limit : ℕ) → StandsStill waits_for_notifier limit
stands_still limit = record {
  steps = notifies;
  now = notifying limit;
  reached = refl;
  reached_by = refl;
  party = 1;
  position = _;
  at = refl;
  calls = refl;
  none = no_act limit;
}

no_act_is_none : (table : Table) (limit : ℕ) → StandsStill table limit → ¬ (EachHasAct table)
no_act_is_none table limit still each =
    let has = each limit still.steps still.now still.reached_by still.party still.position still.at still.calls in
    let is_none : is_some (step_by table still.now (record { party = still.party; act = has.act })) ≡ false = ap is_some (still.none has.act) in
    let yes = has.allowed in absurd (cc)

-- it allows no step that the machine does not allow, so the laws hold
where_some : (b : Bool) (o : Option Outcome) (left : Outcome) → where_found b o ≡ Some left → o ≡ Some left
where_some b None left e = cc
where_some true (Some o) left e = e
where_some false (Some o) left e = absurd (cc)

allows_less : (s : Scene) (act : Act) (p : Position) (left : Outcome) → waits_for_notifier s act p ≡ Some left → rule s act p ≡ Some left
allows_less s FindNotify p left e = where_some (not s.word.notifying) (rule s FindNotify p) left e
allows_less s act p left e = e

after_less : (m : Machine) (i : ℕ) (p : Position) (few own : Option Outcome) (now : Machine) → ((left : Outcome) → few ≡ Some left → own ≡ Some left)
    → after m i p few ≡ Some now → after m i p own ≡ Some now
after_less m i p None own now less e = absurd (cc)
after_less m i p (Some left) own now less e = ap (after m i p) (less left refl) ∙ e

moves_less : (m : Machine) (i : ℕ) (act : Act) (at : Option Position) (now : Machine) → moves_by waits_for_notifier m i act at ≡ Some now → moves m i act at ≡ Some now
moves_less m i act None now e = e
moves_less m i act (Some p) now e = after_less m i p (waits_for_notifier (scene m) act p) (rule (scene m) act p) now (allows_less (scene m) act p) e

steps_less : (m : Machine) (s : Step) (few : Option Machine) (steps : List Step) (now : Machine) → step_by waits_for_notifier m s ≡ few
    → ((m1 : Machine) → run_from_by waits_for_notifier (Some m1) steps ≡ Some now → run_from (Some m1) steps ≡ Some now)
    → run_from_by waits_for_notifier few steps ≡ Some now → run_from (step m s) steps ≡ Some now
steps_less m s None [] now is later e = absurd (cc)
steps_less m s None (t ∷ steps) now is later e = absurd (cc)
steps_less m s (Some m1) steps now is later e =
    ap (λ o. run_from o steps) (moves_less m s.party s.act (slice_get m.parties s.party) m1 is) ∙ later m1 e

runs_less : (m : Machine) (steps : List Step) (now : Machine) → run_from_by waits_for_notifier (Some m) steps ≡ Some now → run_from (Some m) steps ≡ Some now
runs_less m [] now e = e
runs_less m (s ∷ steps) now e = steps_less m s (step_by waits_for_notifier m s) steps now refl (λ m1 e1. runs_less m1 steps now e1) e

waits_in_one_row : DiffersIn FindNotify waits_for_notifier
waits_in_one_row s FindNotify p differs = absurd (differs refl)
waits_in_one_row s other p differs = refl

pub waits_refused : WaitsForNotifier
waits_refused = record {
  one_row = waits_in_one_row;
  stands_still = stands_still;
  refused = λ progresses. no_act_is_none waits_for_notifier 0 (stands_still 0) progresses.may_step;
  laws_hold = λ limit steps m e. laws_hold limit steps m (runs_less (opening limit) steps m e);
}
