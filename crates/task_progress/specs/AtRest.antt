-- Where calls lead: a due wake to a poll, and every task to rest, where no call is in progress and no Runnable exists.
use Rattle.std.specs.Prelude.{◌≡◌, ℕ, ◌+◌, ◌≤◌, ◌⊎◌, Bool, true, false, List, [], ◌∷◌, length, Some, slice_get}
use Rattle.task_core.specs.Word.{bit, is_open}
use Rattle.task_laws.specs.Event.{FuturePollBegins, TakenUp, CallBegins}
use Rattle.task_laws.specs.declared.positions.Rest.TheVariants.{Runnable}
use Rattle.task_laws.specs.declared.positions.Position.{Position}
use Rattle.task_laws.specs.declared.positions.Position.TheVariants.{At, CallEnding, Deliverer}
use Rattle.task_core.specs.declared.acts.Act.{Act}
use Rattle.task_core.specs.declared.acts.Act.TheVariants.{StartRun, TakeUpClosed, StartPoll}
use Rattle.task_laws.specs.Machine.{Machine, Step, run_from, run, how_many}
use Rattle.task_laws.specs.Event.{Event}
use Rattle.task_laws.specs.Laws.{how_often, count, is_output_end, wake_is_due}
use Rattle.task_laws.specs.Laws.{pending_poll, was_woken}
use Rattle.task_laws.specs.Holders.{is_waker}
use Rattle.task_progress.specs.Ending.{NoCallInProgress, CallsEnd}

-- a Runnable between two calls
abbrev pub is_runnable : Position → Bool
is_runnable (At Runnable) = true
is_runnable _ = false

-- what holds of a task at rest
pub record IsAtRest (m : Machine) : Type 0 where
  -- nothing is due
  pub scheduled : m.word.scheduled ≡ false
  pub running : m.word.running ≡ false
  pub registering : m.word.registering ≡ false
  pub notifying : m.word.notifying ≡ false
  pub no_wake_due : wake_is_due m.trace ≡ false
  -- an open task has a waker or its Task
  pub waits : is_open m.word ≡ true → (1 ≤ how_many is_waker m.parties) ⊎ (m.word.task ≡ true)
  -- one that is over has dropped its future once, has ended its outputs unless the Task may claim one, and has woken its awaiter
  pub future : is_open m.word ≡ false → how_often Event.FutureDropped m.trace ≡ 1
  pub output : is_open m.word ≡ false
      → (count is_output_end m.trace ≡ how_often Event.FutureReady m.trace)
      ⊎ ((m.word.completed ≡ true) × (m.word.closed ≡ false) × (m.word.task ≡ true))
  pub awaiter : is_open m.word ≡ false → m.word.task ≡ true → (i : ℕ) → pending_poll m.trace ≡ Some i → was_woken i m.trace ≡ true

-- after every list of steps, where no call is in progress and no Runnable exists
abbrev pub WithoutWorkAtRest : Type 0
WithoutWorkAtRest = (limit : ℕ) (steps : List Step) (m : Machine) → run limit steps ≡ Some m → NoCallInProgress m
    → how_many is_runnable m.parties ≡ 0 → IsAtRest m

-- a Runnable whose run polls the future by its first two acts
pub record PollsNext (m : Machine) : Type 0 where
  pub party : ℕ
  pub now : Machine
  pub at : slice_get m.parties party ≡ Some (At Runnable)
  pub leads : run_from (Some m) (record { party = party; act = StartRun } ∷ record { party = party; act = StartPoll } ∷ []) ≡ Some now
  pub told : now.trace ≡ FuturePollBegins ∷ TakenUp ∷ CallBegins ∷ m.trace

-- after every list of steps, where no call is in progress and a wake is due: one Runnable exists, and its run polls
abbrev pub DueWakesArePolled : Type 0
DueWakesArePolled =
    (limit : ℕ) (steps : List Step) (m : Machine) → run limit steps ≡ Some m → NoCallInProgress m → wake_is_due m.trace ≡ true
    → (how_many is_runnable m.parties ≡ 1) × PollsNext m

-- a run starts
abbrev pub is_run_start : Act → Bool
is_run_start StartRun = true
is_run_start TakeUpClosed = true
is_run_start _ = false

-- how many runs these steps start
abbrev pub runs_in : List Step → ℕ
runs_in [] = 0
runs_in (s ∷ steps) = bit (is_run_start s.act) + runs_in steps

-- Steps that lead to rest, chosen with the answers of foreign code, also of a poll in progress: the calls in progress end, and at most two runs follow.
pub record ComesToRest (m : Machine) : Type 0 where
  pub ending : CallsEnd m
  pub runs : List Step
  pub now : Machine
  pub leads : run_from (Some ending.now) runs ≡ Some now
  pub short : length runs ≤ 24
  pub begun : how_often Event.CallBegins now.trace ≤ how_often Event.CallBegins m.trace + 2
  -- no other call begins
  pub only_runs : how_often Event.CallBegins now.trace ≤ how_often Event.CallBegins m.trace + runs_in runs
  pub none_in_progress : NoCallInProgress now
  pub no_runnable : how_many is_runnable now.parties ≡ 0
  pub at_rest : IsAtRest now
  -- a wake that was due is followed by a poll, or the task was over once the calls in progress had ended
  pub polled : wake_is_due m.trace ≡ true
      → (how_often Event.FuturePollBegins m.trace + 1 ≤ how_often Event.FuturePollBegins now.trace) ⊎ (is_open ending.now.word ≡ false)

-- after every list of steps
abbrev pub AllComeToRest : Type 0
AllComeToRest = (limit : ℕ) (steps : List Step) (m : Machine) → run limit steps ≡ Some m → ComesToRest m

-- the wake is due, or the task is over; and once no call is in progress, the run of a Runnable polls, or the task is over
pub record StaysDue (now : Machine) : Type 0 where
  pub due : (wake_is_due now.trace ≡ true) ⊎ (is_open now.word ≡ false)
  pub polled : NoCallInProgress now → (PollsNext now) ⊎ (is_open now.word ≡ false)

-- after every list of steps, where a wake is due: whatever the calls in progress do until a call begins
abbrev pub DueWakesStay : Type 0
DueWakesStay = (limit : ℕ) (steps : List Step) (m : Machine) → run limit steps ≡ Some m → wake_is_due m.trace ≡ true
    → (later : List Step) (now : Machine) → run_from (Some m) later ≡ Some now
    → how_often Event.CallBegins now.trace ≡ how_often Event.CallBegins m.trace
    → StaysDue now

-- a Runnable, or a party that is about to hand one over
abbrev pub has_runnable : Position → Bool
has_runnable (At Runnable) = true
has_runnable (CallEnding answer Runnable) = true
has_runnable (Deliverer woken next) = true
has_runnable _ = false

-- a closed task stays closed, and no later step makes a Runnable
abbrev pub ClosedMakesNoRunnable : Type 0
ClosedMakesNoRunnable = (limit : ℕ) (steps : List Step) (m : Machine) → run limit steps ≡ Some m → m.word.closed ≡ true
    → (later : List Step) (now : Machine) → run_from (Some m) later ≡ Some now
    → (now.word.closed ≡ true) × (how_many has_runnable now.parties ≤ how_many has_runnable m.parties)

-- once a run has started, whatever is done until a call begins: where no call is in progress any more, the task is at rest, or closed
abbrev pub RunsLeadToRest : Type 0
RunsLeadToRest = (limit : ℕ) (steps : List Step) (m : Machine) → run limit steps ≡ Some m → m.word.scheduled ≡ false
    → (later : List Step) (now : Machine) → run_from (Some m) later ≡ Some now
    → how_often Event.CallBegins now.trace ≡ how_often Event.CallBegins m.trace
    → NoCallInProgress now → IsAtRest now ⊎ (now.word.closed ≡ true)

-- once the Runnable of a closed task was taken up, whatever is done: whenever no call is in progress, the task is at rest
abbrev pub ClosedLeadsToRest : Type 0
ClosedLeadsToRest =
    (limit : ℕ) (steps : List Step) (m : Machine) → run limit steps ≡ Some m → m.word.closed ≡ true → how_many has_runnable m.parties ≡ 0
    → (later : List Step) (now : Machine) → run_from (Some m) later ≡ Some now → NoCallInProgress now → IsAtRest now
