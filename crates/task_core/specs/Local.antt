-- 5 of 6: the task of one thread, what each call makes of it, and what the call hands out.
use Rattle.std.specs.Prelude.{ℕ, ◌+◌, ◌-◌, Bool, true, false, not, ◌&&◌, ◌||◌, nat_eq, nat_lt, if◌then◌else◌, Option, Some, None}
use Rattle.task_core.specs.declared.traits.Poll.{Poll}
use Rattle.task_core.specs.declared.traits.Poll.TheVariants.{Pending, Ready}
use Rattle.task_core.specs.declared.traits.TaskPoll.{TaskPoll}
use Rattle.task_core.specs.declared.traits.TaskPoll.TheVariants as answer
use Rattle.task_core.specs.Word.{bit}

-- where the future stands: at home, due to be polled, being polled, being polled and due once more, gone
pub data Phase : Type 0 where
  Idle Queued Polled PolledAndWoken Done : Phase

-- an awaiter: stored and to be woken, or stored and forgotten
pub data Awaiter (A : Type 0) : Type 0 where
  NoAwaiter : Awaiter A
  Due Forgotten : A → Awaiter A

-- the task: its future, output and awaiter are of any types
pub record Local (F T A : Type 0) : Type 0 where
  pub phase : Phase
  pub closed : Bool
  pub has_task : Bool  -- the Task exists
  pub wakers : ℕ  -- how many hold a reference
  pub future : Option F
  pub output : Option T
  pub awaiter : Awaiter A

-- the task after a call, and what the call hands out
pub record Effect (F T A : Type 0) : Type 0 where
  pub task : Local F T A
  pub future : Option F
  pub output : Option T
  pub queue : Option Bool  -- the Runnable to be handed over, with `woken_while_running`
  pub wake : Option A  -- the awaiter to be woken
  pub dropped : Option A  -- the awaiter to be dropped
  pub emptied : Bool  -- nobody is left

-- the task becomes this, and nothing is handed out
abbrev pub becomes : {F T A : Type 0} → Local F T A → Effect F T A
becomes t = record { task = t; future = None; output = None; queue = None; wake = None; dropped = None; emptied = false }

-- a due awaiter, and one that is stored at all
abbrev pub due : {A : Type 0} → Awaiter A → Option A
due NoAwaiter = None
due (Due a) = Some a
due (Forgotten a) = None

-- the awaiter that is stored, due or forgotten
abbrev pub stored : {A : Type 0} → Awaiter A → Option A
stored NoAwaiter = None
stored (Due a) = Some a
stored (Forgotten a) = Some a

-- what stays where a due awaiter is taken, and where a stored one is forgotten
abbrev pub without_due : {A : Type 0} → Awaiter A → Awaiter A
without_due NoAwaiter = NoAwaiter
without_due (Due a) = NoAwaiter
without_due (Forgotten a) = Forgotten a

-- a stored awaiter is not to be woken any more
abbrev pub forgets : {A : Type 0} → Awaiter A → Awaiter A
forgets NoAwaiter = NoAwaiter
forgets (Due a) = Forgotten a
forgets (Forgotten a) = Forgotten a

-- a due awaiter goes to be woken
abbrev pub takes : {F T A : Type 0} → Effect F T A → Effect F T A
takes r = record r { task = record (r.task) { awaiter = without_due r.task.awaiter }; wake = due r.task.awaiter }

-- a Runnable, or the run or the drop that took it up, holds a reference
abbrev pub holds_reference : Phase → Bool
holds_reference Queued = true
holds_reference Polled = true
holds_reference PolledAndWoken = true
holds_reference Idle = false
holds_reference Done = false

-- neither the Task nor a reference is left
abbrev pub none_left : {F T A : Type 0} → Bool → Local F T A → Bool
none_left held t = not t.has_task && nat_eq t.wakers 0 && not held

-- with no Task and no reference left the task is emptied
abbrev pub empties_if : {F T A : Type 0} → Bool → Effect F T A → Effect F T A
empties_if true r = record r { task = record (r.task) { awaiter = NoAwaiter }; dropped = stored r.task.awaiter; emptied = true }
empties_if false r = r

-- what a call makes of the task, which is emptied where nobody is left
abbrev pub empties : {F T A : Type 0} → Effect F T A → Effect F T A
empties r = empties_if (none_left (holds_reference r.task.phase) r.task) r

-- nobody is left to wake it: it is closed, and queued for the last time
abbrev pub orphaned : {F T A : Type 0} → Local F T A → Effect F T A
orphaned t = record (becomes (record t { phase = Queued; closed = true; awaiter = forgets t.awaiter })) { queue = Some false }

-- THE ROWS, up to what they take and empty

-- `start` of an open task: the future goes to be polled
abbrev pub polls : {F T A : Type 0} → Local F T A → Local F T A
polls t = record t { phase = Polled; future = None }

-- the future goes without a poll, and the task is closed
abbrev pub dropped_unpolled : {F T A : Type 0} → Local F T A → Effect F T A
dropped_unpolled t = record (becomes (record t { phase = Done; closed = true; future = None })) { future = t.future }

-- `settle` with Ready: the output waits for the Task; where nobody may claim it, it goes to be dropped, and the task is closed
abbrev pub settles_ready : {F T A : Type 0} → T → Local F T A → Effect F T A
settles_ready out t =
    if t.has_task && not t.closed then becomes (record t { phase = Done; output = Some out })
    else record (becomes (record t { phase = Done; closed = true })) { output = Some out }

-- Pending without a wake: the task is idle, or orphaned where nobody is left to wake it
abbrev pub settles_open : {F T A : Type 0} → F → Local F T A → Effect F T A
settles_open f t =
    if t.has_task || nat_lt 0 t.wakers then becomes (record t { phase = Idle; future = Some f })
    else orphaned (record t { future = Some f })

-- Pending with a wake meanwhile: the task is queued again
abbrev pub queued_again : {F T A : Type 0} → F → Local F T A → Effect F T A
queued_again f t = record (becomes (record t { phase = Queued; future = Some f })) { queue = Some true }

-- one of the two: the phase says whether a wake came meanwhile
abbrev pub settled_at : {F T A : Type 0} → Phase → F → Local F T A → Effect F T A
settled_at PolledAndWoken f t = queued_again f t
settled_at _ f t = settles_open f t

-- `settle` with Pending, of a task that is not closed
abbrev pub settles_pending : {F T A : Type 0} → F → Local F T A → Effect F T A
settles_pending f t = settled_at t.phase f t

-- `wake`, by where the future stands
abbrev pub wakes_at : {F T A : Type 0} → Phase → Local F T A → Effect F T A
wakes_at Idle t = record (becomes (record t { phase = Queued })) { queue = Some false }
wakes_at Polled t = becomes (if t.closed then t else record t { phase = PolledAndWoken })
wakes_at _ t = becomes t

-- a wake queues an idle task, and has an open one that is polled be queued after it
abbrev pub wakes : {F T A : Type 0} → Local F T A → Effect F T A
wakes t = wakes_at t.phase t

-- `drop_waker`, once there is a waker less, by where the future stands
abbrev pub loses_at : {F T A : Type 0} → Phase → Local F T A → Effect F T A
loses_at Idle t = if not t.has_task && nat_eq t.wakers 0 then orphaned t else becomes t
loses_at _ t = becomes t

-- there is a waker less; an idle task without a handle is closed, and queued for the last time
abbrev pub loses_waker : {F T A : Type 0} → Local F T A → Effect F T A
loses_waker t = loses_at t.phase (record t { wakers = t.wakers - 1 })

-- `cancel` closes the task, and queues it where it was idle
abbrev pub cancels_at : {F T A : Type 0} → Phase → Local F T A → Effect F T A
cancels_at Idle t = record (becomes (record t { phase = Queued; closed = true })) { queue = Some false }
cancels_at Done t = becomes t
cancels_at _ t = becomes (record t { closed = true })

-- `detach`, once an output was handed out
abbrev pub detaches_at : {F T A : Type 0} → Phase → Local F T A → Effect F T A
detaches_at Idle t = if nat_eq t.wakers 0 then orphaned (record t { has_task = false }) else becomes (record t { has_task = false })
detaches_at _ t = becomes (record t { has_task = false })

-- the future is gone
abbrev pub is_done : Phase → Bool
is_done Done = true
is_done _ = false

-- a finished task gives its output to the Task, or drops it for it
abbrev pub gives_output : {F T A : Type 0} → Local F T A → Effect F T A
gives_output t = record (becomes (record t { closed = true; output = None })) { output = t.output }

-- `is_finished`: the task is closed or done
abbrev pub finished : {F T A : Type 0} → Local F T A → Bool
finished t = t.closed || is_done t.phase

-- THE CALLS OF A TASK OF ONE THREAD, each as its row

-- `new`: it is queued, with its Task and without wakers
abbrev pub opening_task : {F T A : Type 0} → F → Local F T A
opening_task f = record { phase = Queued; closed = false; has_task = true; wakers = 0; future = Some f; output = None; awaiter = NoAwaiter }

-- `discard_runnable`, and `start` of a closed task: it ends unpolled
abbrev pub discards : {F T A : Type 0} → Local F T A → Effect F T A
discards t = empties (takes (dropped_unpolled t))

-- `start`: the future is to be polled, or the closed task has ended, or nothing was due
pub data Started (F T A : Type 0) : Type 0 where
  IsPolled IsEnded IsNotDue : Effect F T A → Started F T A

-- only a queued task is due
abbrev pub starts_at : {F T A : Type 0} → Phase → Local F T A → Started F T A
starts_at Queued t = if t.closed then IsEnded (discards t) else IsPolled (record (becomes (polls t)) { future = t.future })
starts_at _ t = IsNotDue (becomes t)

-- what `start` makes of the task
abbrev pub starts : {F T A : Type 0} → Local F T A → Started F T A
starts t = starts_at t.phase t

-- `settle`: the poll of the future has answered
abbrev pub settles : {F T A : Type 0} → F → Poll T → Local F T A → Effect F T A
settles f (Ready output) t = empties (takes (record (settles_ready output t) { future = Some f }))
settles f Pending t =
    if t.closed then empties (takes (record (becomes (record t { phase = Done })) { future = Some f })) else settles_pending f t

-- `add_waker`: where the references, of wakers and of the Runnable or its run, are below the limit
abbrev pub references : {F T A : Type 0} → Local F T A → ℕ
references t = t.wakers + bit (holds_reference t.phase)

-- one reference more is within the limit
abbrev pub has_room : {F T A : Type 0} → ℕ → Local F T A → Bool
has_room limit t = nat_lt (references t) limit

-- there is a waker more, where there is room
abbrev pub gains_waker : {F T A : Type 0} → ℕ → Local F T A → Effect F T A
gains_waker limit t = becomes (if has_room limit t then record t { wakers = t.wakers + 1 } else t)

-- `drop_waker`, by which the task is emptied where nobody is left
abbrev pub drops_waker : {F T A : Type 0} → Local F T A → Effect F T A
drops_waker t = empties (loses_waker t)

-- `cancel`: a task that is over stays; of any other a due awaiter goes to be woken
abbrev pub cancels : {F T A : Type 0} → Local F T A → Effect F T A
cancels t = if finished t then becomes t else takes (cancels_at t.phase t)

-- the Task is gone
abbrev pub without_task : {F T A : Type 0} → Effect F T A → Effect F T A
without_task r = record r { task = record (r.task) { has_task = false } }

-- the Task goes, and an output that it has not claimed is handed out
abbrev pub detaches : {F T A : Type 0} → Local F T A → Effect F T A
detaches t = empties (if is_done t.phase && not t.closed then without_task (gives_output t) else detaches_at t.phase t)

-- `poll`: what it answers, and the task after it
pub record Answered (F T A : Type 0) : Type 0 where
  pub answer : TaskPoll (Option T)
  pub effect : Effect F T A

-- `poll` of a task that is done: its output, if nobody had it, and the stored awaiter is dropped where it wakes the same as the caller's, else
-- woken
abbrev pub claims : {F T A : Type 0} → Bool → Local F T A → Answered F T A
claims same t = record {
  answer = answer.Ready t.output;
  effect = record (becomes (record t { closed = true; output = None; awaiter = NoAwaiter })) {
    wake = if same then None else stored t.awaiter;
    dropped = if same then stored t.awaiter else None;
  };
}

-- `poll` of another task: the clone of the caller's awaiter is stored, if there is one
abbrev pub registers : {F T A : Type 0} → Option A → Local F T A → Answered F T A
registers None t = record { answer = answer.Refused; effect = becomes t }
registers (Some clone) t =
    record { answer = answer.Pending; effect = record (becomes (record t { awaiter = Due clone })) { dropped = stored t.awaiter } }

-- what can be seen of it
abbrev pub is_queued : Phase → Bool
is_queued Queued = true
is_queued _ = false

-- a run polls the future
abbrev pub is_started : Phase → Bool
is_started Polled = true
is_started PolledAndWoken = true
is_started _ = false

-- it is done, and neither the Task nor a waker is left
abbrev pub is_emptied : {F T A : Type 0} → Local F T A → Bool
is_emptied t = is_done t.phase && not t.has_task && nat_eq t.wakers 0
