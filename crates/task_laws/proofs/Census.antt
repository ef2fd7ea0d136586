-- How many parties stand where.
use Rattle.std.proofs.Common.{ℕ, ◌+◌, List, [], ◌∷◌}
use Rattle.task_laws.specs.Position.{Rest, Runnable, Waker, Lent, Ended, Task, ClosedRun, DroppedRunnable, NotifyingCall, OfRun, OfDrop, OfCancel, OfPoll, OfClaim, OnceDelivered, ThenEnds, ThenTask, ThenNotifies, Position, At, CallEnding, Deliverer, Starting, Polling, Pending, Ready, ReadyFutureDropped, OutputStored, PendingFutureDropped, FutureInHand, FutureGone, OutputInHand, GivingUp, Emptier, Notifier, Taker, Releaser, AwaiterInHand, OrphanHolder, Registrar, HasClone, UnusedClone, Storing, Registered, TookBack, CloneInHand, Looking, SawOutput, TookOutput, OldAwaiterInHand, Answering, OutputCloser, Detacher}

-- each party of the first fourteen holds a reference
pub record Census : Type 0 where
  pub queued : ℕ  -- Runnables that exist
  pub starting : ℕ
  pub polling : ℕ
  pub pending : ℕ
  pub ready : ℕ
  pub unstored : ℕ
  pub stored : ℕ
  pub cleared : ℕ
  pub in_hand : ℕ  -- the future of a closed run or a dropped Runnable
  pub gone : ℕ
  pub finishing : ℕ  -- after the end step, with the reference
  pub outputs : ℕ  -- the same, with the output in hand
  pub wakers : ℕ
  pub orphans : ℕ
  pub emptiers : ℕ
  pub tasks : ℕ
  pub claims : ℕ  -- the Task, with the output in hand
  pub others : ℕ  -- in a call, and none of those above but Runnables, wakers and the Task

abbrev pub nobody : Census
nobody = record { queued = 0; starting = 0; polling = 0; pending = 0; ready = 0; unstored = 0; stored = 0; cleared = 0; in_hand = 0; gone = 0; finishing = 0; outputs = 0; wakers = 0; orphans = 0; emptiers = 0; tasks = 0; claims = 0; others = 0 }

abbrev pub plus : Census → Census → Census
plus a b = record { queued = a.queued + b.queued; starting = a.starting + b.starting; polling = a.polling + b.polling; pending = a.pending + b.pending; ready = a.ready + b.ready; unstored = a.unstored + b.unstored; stored = a.stored + b.stored; cleared = a.cleared + b.cleared; in_hand = a.in_hand + b.in_hand; gone = a.gone + b.gone; finishing = a.finishing + b.finishing; outputs = a.outputs + b.outputs; wakers = a.wakers + b.wakers; orphans = a.orphans + b.orphans; emptiers = a.emptiers + b.emptiers; tasks = a.tasks + b.tasks; claims = a.claims + b.claims; others = a.others + b.others }

abbrev pub weigh_rest : Rest → Census
weigh_rest Runnable = record nobody { queued = 1 }
weigh_rest Waker = record nobody { wakers = 1 }
weigh_rest Lent = nobody
weigh_rest Ended = nobody
weigh_rest (Task n) = record nobody { tasks = 1 }

abbrev pub busy : Census → Census
busy a = record a { others = 1 }

-- on the way of a run or a drop a reference is held, on the way of a claim the output
abbrev pub weigh_way : NotifyingCall → Census
weigh_way OfRun = record nobody { finishing = 1 }
weigh_way OfDrop = record nobody { finishing = 1 }
weigh_way (OfCancel n) = record nobody { tasks = 1; others = 1 }
weigh_way (OfPoll n) = record nobody { tasks = 1; others = 1 }
weigh_way (OfClaim n) = record nobody { tasks = 1; claims = 1 }

abbrev pub weigh_after : OnceDelivered → Census
weigh_after (ThenEnds answer) = nobody
weigh_after (ThenTask n) = record nobody { tasks = 1 }
weigh_after (ThenNotifies n) = record nobody { tasks = 1 }

abbrev pub task_at_work : Census
task_at_work = record nobody { tasks = 1; others = 1 }

abbrev pub weigh : Position → Census
weigh (At r) = weigh_rest r
weigh (CallEnding answer r) = busy (weigh_rest r)
weigh (Deliverer woken next) = busy (plus (record nobody { queued = 1 }) (weigh_after next))
weigh Starting = record nobody { starting = 1 }
weigh Polling = record nobody { polling = 1 }
weigh Pending = record nobody { pending = 1 }
weigh Ready = record nobody { ready = 1 }
weigh ReadyFutureDropped = record nobody { unstored = 1 }
weigh OutputStored = record nobody { stored = 1 }
weigh PendingFutureDropped = record nobody { cleared = 1 }
weigh (FutureInHand ClosedRun) = record nobody { in_hand = 1 }
weigh (FutureInHand DroppedRunnable) = record nobody { in_hand = 1 }
weigh (FutureGone closer) = record nobody { gone = 1 }
weigh (OutputInHand notifies) = record nobody { outputs = 1 }
weigh (GivingUp hand answer) = record nobody { finishing = 1 }
weigh (Emptier hand answer) = record nobody { emptiers = 1 }
weigh (Notifier way) = weigh_way way
weigh (Taker way) = weigh_way way
weigh (Releaser hand way) = weigh_way way
weigh (AwaiterInHand i OfRun) = record nobody { others = 1 }
weigh (AwaiterInHand i OfDrop) = record nobody { finishing = 1 }
weigh (AwaiterInHand i (OfCancel n)) = task_at_work
weigh (AwaiterInHand i (OfPoll n)) = task_at_work
weigh (AwaiterInHand i (OfClaim n)) = record nobody { tasks = 1; claims = 1 }
weigh OrphanHolder = record nobody { orphans = 1 }
weigh (Registrar i) = task_at_work
weigh (HasClone i) = task_at_work
weigh (UnusedClone i) = task_at_work
weigh (Storing i) = task_at_work
weigh (Registered i) = task_at_work
weigh (TookBack i) = task_at_work
weigh (CloneInHand i) = task_at_work
weigh (Looking i) = task_at_work
weigh (SawOutput i) = task_at_work
weigh (TookOutput i) = record nobody { tasks = 1; claims = 1 }
weigh (OldAwaiterInHand i old) = task_at_work
weigh (Answering i answer) = task_at_work
weigh OutputCloser = record nobody { tasks = 1; claims = 1 }
weigh Detacher = task_at_work

abbrev pub census : List Position → Census
census [] = nobody
census (p ∷ ps) = plus (weigh p) (census ps)

-- a run, up to its end step; a closed run or a dropped Runnable, up to its end step; a call in progress
abbrev pub runs : Census → ℕ
runs c = c.starting + c.polling + c.pending + c.ready + c.unstored + c.stored + c.cleared

abbrev pub closers : Census → ℕ
closers c = c.in_hand + c.gone

abbrev pub calls : Census → ℕ
calls c = runs c + closers c + c.finishing + c.outputs + c.orphans + c.emptiers + c.claims + c.others
