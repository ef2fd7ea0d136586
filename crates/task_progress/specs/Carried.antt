-- A due wake is carried: by one party, whose own steps lead to a poll, and no other party's step holds it up.
use Rattle.std.specs.Prelude.{◌≡◌, ℕ, ◌+◌, ◌≤◌, ◌⊎◌, Bool, true, false, not, ◌&&◌, List, [], ◌∷◌, Option, Some, None, slice_get, nat_lt}
use Rattle.task_core.specs.Word.{bit, is_open}
use Rattle.task_core.specs.declared.acts.Act.{Act}
use Rattle.task_core.specs.declared.acts.Act.TheVariants.{StartPoll, HandOver, GainReference, FindLimit, RefuseGain, EndCall}
use Rattle.task_laws.specs.declared.positions.Position.{Position}
use Rattle.task_laws.specs.declared.positions.Position.TheVariants.{At, CallEnding, Deliverer, Starting, Polling, Pending, Ready, ReadyFutureDropped, OutputStored}
use Rattle.task_laws.specs.declared.positions.Rest.TheVariants.{Runnable}
use Rattle.task_laws.specs.Machine.{Machine, Step, run, run_from, step, how_many}
use Rattle.task_laws.specs.Laws.{wake_is_due}
use Rattle.task_progress.specs.StepsLeft.{total}

-- how many of its own steps a party has left at most until it begins a poll, or the task is over; none of a party that carries nothing
abbrev pub distance : Position → ℕ
distance (At Runnable) = 2
distance (CallEnding answer Runnable) = 2
distance Starting = 1
distance (Deliverer woken next) = 3
distance Pending = 4
distance Polling = 5
distance Ready = 3
distance ReadyFutureDropped = 2
distance OutputStored = 1
distance _ = 0

-- whether a party carries a due wake
abbrev pub carries : Position → Bool
carries p = nat_lt 0 (distance p)

-- the executor moves a Runnable on, or takes a waker of it, which is no step towards the poll
abbrev pub is_aside : Act → Position → Bool
is_aside HandOver (At Runnable) = true
is_aside GainReference (At Runnable) = true
is_aside FindLimit (At Runnable) = true
is_aside RefuseGain (At Runnable) = true
is_aside EndCall (CallEnding answer Runnable) = true
is_aside _ _ = false

-- a run that has taken its Runnable up, and has not polled yet
abbrev pub is_starting : Position → Bool
is_starting Starting = true
is_starting _ = false

-- a poll of the future begins
abbrev pub is_start_poll : Act → Bool
is_start_poll StartPoll = true
is_start_poll _ = false

-- a poll is owed: the task is open, and a wake is due, or was taken up by a run that has not polled yet
abbrev pub IsOwed : Machine → Type 0
IsOwed m = (is_open m.word ≡ true) × ((wake_is_due m.trace ≡ true) ⊎ (1 ≤ how_many is_starting m.parties))

-- after every list of steps, while a poll is owed: one party carries it; and after each step, unless a poll begins or the task is over by it, a poll
-- is owed still, the distance is no longer, and it is shorter where the party that carries it has stepped, but not aside
abbrev pub DueWakesAreCarried : Type 0
DueWakesAreCarried =
    (limit : ℕ) (steps : List Step) (m : Machine) → run limit steps ≡ Some m → IsOwed m
    → (how_many carries m.parties ≡ 1)
    × ((s : Step) (p : Position) (now : Machine) → slice_get m.parties s.party ≡ Some p → step m s ≡ Some now → is_start_poll s.act ≡ false → is_open now.word ≡ true
    → IsOwed now × (total distance now.parties + bit (carries p && not (is_aside s.act p)) ≤ total distance m.parties))

-- whether no poll begins by these steps
abbrev pub starts_none : List Step → Bool
starts_none [] = true
starts_none (s ∷ steps) = not (is_start_poll s.act) && starts_none steps

-- how often the party that carries it steps, but not aside
abbrev pub is_carried : Option Position → Act → ℕ
is_carried None act = 0
is_carried (Some p) act = bit (carries p && not (is_aside act p))

-- how many of these steps are such
abbrev pub carried : Option Machine → List Step → ℕ
carried None steps = 0
carried (Some m) [] = 0
carried (Some m) (s ∷ steps) = is_carried (slice_get m.parties s.party) s.act + carried (step m s) steps

-- so whatever is done, as long as no poll begins and the task is open: a poll is owed, and these steps are four at most
abbrev pub DueWakesLeadToPolls : Type 0
DueWakesLeadToPolls =
    (limit : ℕ) (steps : List Step) (m : Machine) → run limit steps ≡ Some m → IsOwed m → (later : List Step) (now : Machine)
    → run_from (Some m) later ≡ Some now → starts_none later ≡ true → is_open now.word ≡ true → IsOwed now × (carried (Some m) later ≤ 4)
