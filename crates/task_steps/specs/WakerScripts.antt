-- The acts that the steps make by which a waker is gained, wakes and is dropped.
use Rattle.std.specs.Prelude.{ℕ, Bool, true, false, not, ◌&&◌, nat_lt, if◌then◌else◌, List, [], ◌∷◌}
use Rattle.task_core.specs.Word.{State, is_open}
use Rattle.task_core.specs.Rows.{found}
use Rattle.task_laws.specs.Table.{is_held}
use Rattle.task_core.specs.declared.acts.Act.{Act}
use Rattle.task_core.specs.declared.acts.Act.TheVariants.{GainReference, FindLimit, DropWaker, DropLastWaker, OrphanTask}
use Rattle.task_core.specs.declared.acts.Act.TheVariants.{CloseOrphan, WakeOver, WakeScheduled, WakeRunning, WakeIdle, EndCall}
use Rattle.task_steps.specs.Attempt.{Attempt, only}
use Rattle.task_steps.specs.declared.found.Dropped.{Dropped}
use Rattle.task_steps.specs.declared.found.Dropped.TheVariants.{Shared, Last, Orphaned}
use Rattle.task_steps.specs.declared.found.Woken.{Woken}
use Rattle.task_steps.specs.declared.found.Woken.TheVariants.{Scheduled, Running, Idle}

-- the count is at the limit
abbrev pub at_limit : ℕ → State → Bool
at_limit limit w = not (nat_lt w.references limit)

-- a reference is gained for a new waker, where the task has a handle; at the limit the call ends
abbrev pub to_gain : Attempt (Unit {0})
to_gain = record {
  applies = λ limit w. is_held w && found limit GainReference w;
  row = only;
  acts = λ row. GainReference ∷ EndCall ∷ [];
  counts = λ row. true;
  lasts = λ row. false;
  ends = at_limit;
  acts_at_end = λ w. FindLimit ∷ EndCall ∷ [];
}

-- what a wake of an open task finds
abbrev pub woken_by : State → Woken
woken_by w = if found 0 WakeIdle w then Idle else (if found 0 WakeRunning w then Running else Scheduled)

-- the task is woken by these acts
abbrev pub waking_task : Woken → List Act
waking_task Idle = WakeIdle ∷ EndCall ∷ []
waking_task Running = WakeRunning ∷ EndCall ∷ []
waking_task Scheduled = WakeScheduled ∷ EndCall ∷ []

-- a wake finds the task idle, with a share for a Runnable
abbrev pub brings_runnable : Woken → Bool
brings_runnable Idle = true
brings_runnable _ = false

-- a wake finds that the task is over
abbrev pub is_over : ℕ → State → Bool
is_over limit w = found limit WakeOver w

-- a wake of a task that is over ends
abbrev pub to_wake : Attempt Woken
to_wake = record {
  applies = λ limit w. is_held w && is_open w;
  row = woken_by;
  acts = waking_task;
  counts = brings_runnable;
  lasts = λ row. false;
  ends = is_over;
  acts_at_end = λ w. WakeOver ∷ EndCall ∷ [];
}

-- whether there are other handles than the one that gives its reference up
abbrev pub others_left : State → Bool
others_left w = found 0 DropWaker w

-- what a drop finds that takes its reference off this word
abbrev pub dropped_by : State → Dropped
dropped_by w = if others_left w then Shared else (if is_open w then Orphaned else Last)

-- the acts of that drop
abbrev pub dropping_as : Dropped → List Act
dropping_as Shared = DropWaker ∷ EndCall ∷ []
dropping_as Orphaned = OrphanTask ∷ []
dropping_as Last = DropLastWaker ∷ []

-- a waker is dropped
abbrev pub dropping_waker : State → List Act
dropping_waker w = dropping_as (dropped_by w)

-- a waker is dropped with its share, where other shares are left
abbrev pub ends_waker : Dropped → Bool
ends_waker Shared = true
ends_waker _ = false

-- the last waker closes the task that nobody has
abbrev pub closing_orphan : State → List Act
closing_orphan w = CloseOrphan ∷ []
