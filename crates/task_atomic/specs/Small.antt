-- 1 of 12: a task as its callers see it: when each act on it may be made, what the act leaves of it, and what it answers.
use Rattle.std.specs.Prelude.{ℕ, ◌+◌, ◌-◌, Bool, true, false, not, ◌&&◌, ◌||◌, nat_lt, if◌then◌else◌, List, [], ◌∷◌, Option, Some, None}
use Rattle.task_core.specs.Word.{State}
use Rattle.task_core.specs.Local.{Phase, Idle, Queued, Polled, PolledAndWoken, Done}

-- its phase, whether it is closed, whether its Task exists, and how many Runnables, runs and wakers there are
pub record SmallTask : Type 0 where
  pub phase : Phase
  pub closed : Bool
  pub has_task : Bool
  pub references : ℕ

-- after a spawn
abbrev pub spawned : SmallTask
spawned = record { phase = Queued; closed = false; has_task = true; references = 1 }

-- no handle is left but one Runnable, whose run drops the future
abbrev pub orphaned : SmallTask
orphaned = record { phase = Queued; closed = true; has_task = false; references = 1 }

-- what is asked of its phase
abbrev pub is_idle : Phase → Bool
is_idle Idle = true
is_idle _ = false

-- a Runnable exists
abbrev pub is_queued : Phase → Bool
is_queued Queued = true
is_queued _ = false

-- a run polls the future
abbrev pub is_polled : Phase → Bool
is_polled Polled = true
is_polled PolledAndWoken = true
is_polled _ = false

-- a run polls the future, and a wake has come meanwhile
abbrev pub is_woken : Phase → Bool
is_woken PolledAndWoken = true
is_woken _ = false

-- the future is gone
abbrev pub is_done : Phase → Bool
is_done Done = true
is_done _ = false

-- what is asked of the task: it is over
abbrev pub is_over : SmallTask → Bool
is_over s = is_done s.phase || s.closed

-- it is done, and its output is neither claimed nor given up
abbrev pub has_output : SmallTask → Bool
has_output s = is_done s.phase && not s.closed

-- its Task, a Runnable, a run or a waker exists
abbrev pub has_handle : SmallTask → Bool
has_handle s = s.has_task || nat_lt 0 s.references

-- a Runnable is made of an idle task
abbrev pub queue : SmallTask → SmallTask
queue s = record s { phase = Queued; references = s.references + 1 }

-- a wake queues an idle task, and marks one that is polled
abbrev pub wake : SmallTask → SmallTask
wake s = if is_over s then s else woken s.phase
  where
    woken : Phase → SmallTask
    woken Idle = queue s
    woken Polled = record s { phase = PolledAndWoken }
    woken _ = s

-- closed by a cancel, which queues an idle task for its future to be dropped; by the drop of a Runnable; or as its output is taken or given up
abbrev pub close : SmallTask → SmallTask
close s = record s { closed = true }

-- a cancel closes a task that is not over, and makes a Runnable of an idle one
abbrev pub cancel : SmallTask → SmallTask
cancel s = if is_over s then s else (if is_idle s.phase then close (queue s) else close s)

-- the Task is given up: without another handle a closed task is gone, and an open one is closed
abbrev pub detach : SmallTask → SmallTask
detach s = if nat_lt 0 s.references || s.closed then record s { has_task = false } else orphaned

-- a run starts, with a poll unless the task is closed; and ends after one that was ready, and after one that was pending
abbrev pub start : SmallTask → SmallTask
start s = if s.closed then s else record s { phase = Polled }

-- a run ends with an output; without a Task nobody may claim it, and the task is closed
abbrev pub end_ready : SmallTask → SmallTask
end_ready s = record s { phase = Done; closed = s.closed || not s.has_task }

-- a run ends without one: a closed task is done, a woken one is queued again, and any other is idle, or orphaned without a handle
abbrev pub end_pending : SmallTask → SmallTask
end_pending s =
    if s.closed then record s { phase = Done }
    else (if is_woken s.phase then record s { phase = Queued }
    else (if nat_lt 1 s.references || s.has_task then record s { phase = Idle; references = s.references - 1 } else orphaned))

-- an act, with what it answers
pub data SmallAct : Type 0 where
  Gains : Bool → SmallAct  -- whether a waker was gained
  Drops Orphans Wakes Discards Cancels Claims GivesOutputUp Detaches Starts EndsUnpolled EndsReady : SmallAct
  EndsPending : Bool → SmallAct  -- whether the open task was woken meanwhile
  SeesFinished : Bool → SmallAct  -- whether the task is over
  SeesPending SeesClosed : SmallAct  -- that it is not done; that it is done without an output
  NoAct : SmallAct

-- whether the answer is this
abbrev pub same : Bool → Bool → Bool
same true b = b
same false b = not b

-- what an act leaves, where it may be made
abbrev pub only_if : Bool → SmallTask → Option SmallTask
only_if may s = if may then Some s else None

-- what an act leaves, and None where it may not be made with this answer: `Drops` is of a waker or of a run's reference, `Orphans` comes after
-- it where no handle is left, and the Task alone makes the acts from `Cancels` to `Detaches`, and sees
abbrev pub acted : ℕ → SmallAct → SmallTask → Option SmallTask
acted limit (Gains true) s = only_if (has_handle s && nat_lt s.references limit) (record s { references = s.references + 1 })
acted limit (Gains false) s = only_if (not (nat_lt s.references limit)) s
acted limit Drops s = only_if (nat_lt 0 s.references) (record s { references = s.references - 1 })
acted limit Orphans s = only_if (is_idle s.phase && not s.closed && not (has_handle s)) orphaned
acted limit Wakes s = only_if (has_handle s || is_over s) (wake s)
acted limit Discards s = only_if (is_queued s.phase) (close s)
acted limit Cancels s = only_if s.has_task (cancel s)
acted limit Claims s = only_if (s.has_task && has_output s) (close s)
acted limit GivesOutputUp s = only_if (s.has_task && has_output s) (close s)
acted limit Detaches s = only_if (s.has_task && not (has_output s)) (detach s)
acted limit Starts s = only_if (is_queued s.phase) (start s)
acted limit EndsUnpolled s = only_if (is_queued s.phase && s.closed) (record s { phase = Done })
acted limit EndsReady s = only_if (is_polled s.phase) (end_ready s)
acted limit (EndsPending woken) s = only_if (is_polled s.phase && same woken (is_woken s.phase && not s.closed)) (end_pending s)
acted limit (SeesFinished finished) s = only_if (s.has_task && same finished (is_over s)) s
acted limit SeesPending s = only_if (s.has_task && not (is_done s.phase)) s
acted limit SeesClosed s = only_if (s.has_task && is_done s.phase && s.closed) s
acted limit NoAct s = Some s

-- the small task after a list of acts, the first one first
abbrev pub all_acted : ℕ → List SmallAct → Option SmallTask → Option SmallTask
all_acted limit [] s = s
all_acted limit (act ∷ acts) None = None
all_acted limit (act ∷ acts) (Some s) = all_acted limit acts (acted limit act s)

-- how the small task is read from the word
abbrev pub phase_of : State → Phase
phase_of w =
    if w.scheduled then (if w.running then PolledAndWoken else Queued)
    else (if w.running then Polled else (if w.completed || w.closed then Done else Idle))

-- the small task that the word shows
abbrev pub small_task : State → SmallTask
small_task w = record { phase = phase_of w; closed = w.closed; has_task = w.task; references = w.references }
