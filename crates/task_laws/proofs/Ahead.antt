-- What the segment in which a party stands will leave.
use Rattle.std.proofs.Common.{◌≡◌, ℕ, ◌+◌, Bool, true, false, not, ◌&&◌, ◌||◌, cond, List, [], ◌∷◌, ◌++◌, Option, Some, None}
use Rattle.std.specs.Prelude.{nat_lt}
use Rattle.task_laws.proofs.Vocabulary.{State, IsClosed, HasOutput, Nothing, Ran, Event, FutureDropped, OutputDropped, HandedOver, Empties, CloneEnded, TaskPollEnds, ClosedRun, DroppedRunnable, ThenEnds, NotifyingCall, OfRun, OfDrop, OfCancel, OfPoll, OfClaim, Position, At, CallEnding, Deliverer, Starting, Polling, Pending, Ready, ReadyFutureDropped, OutputStored, PendingFutureDropped, FutureInHand, FutureGone, OutputInHand, GivingUp, Emptier, Notifier, Taker, Releaser, AwaiterInHand, OrphanHolder, Registrar, HasClone, Storing}
use Rattle.task_laws.proofs.Vocabulary.{Registered, TookBack, CloneInHand, Looking, SawOutput, TookOutput, OldAwaiterInHand, Answering, OutputCloser, Detacher, Act, WakeIdle, Slots, Scene, Outcome, after_handing_over, notifies, Phase, Idle, Queued, Polled, PolledAndWoken, Done, NoAwaiter, Due, orphaned, is_done, AbstractCell, InPoll, RunDropped, DropDropped, ReadyDropped, PendingDropped, GivesUp, Ends, Clones, Stores, Looks, Detaches, SegmentEnd, stops, ends, woken, ended, with_task, wakes_last, gives_up, takes_due, in_hand}
use Rattle.task_laws.proofs.Vocabulary.{cancel_takes, detaches, answers, asks, reads, looks, stores, wakes_first, begin, go, is_at_rest, is_foreign, asks_foreign, call_of, says_yes, one_if, is_home, awaiter_of, frame_of, seen}
use Rattle.task_laws.proofs.Census.{Census, plus, weigh, census, runs, closers}

-- the reading, by the word
abbrev pub phase_at : State → Phase
phase_at w = cond w.running (cond w.scheduled PolledAndWoken Polled) (cond w.scheduled Queued (cond (w.completed || w.closed) Done Idle))

abbrev pub holders : Census → ℕ
holders c = c.queued + runs c + closers c + c.finishing + c.outputs

abbrev pub cell_at : State → Slots → Census → AbstractCell
cell_at w slots c = record {
  task = record {
    phase = phase_at w;
    closed = w.closed;
    has_task = w.task;
    wakers = c.wakers;
    future = one_if (is_home (phase_at w));
    output = one_if (is_done (phase_at w) && not w.closed);
    awaiter = awaiter_of w slots.awaiter;
  };
  held = nat_lt 0 (holders c);
  storing = w.registering;
  owed = w.registering && w.notifying;
}

-- once an awaiter was taken, or was not
abbrev pub ahead_with : AbstractCell → NotifyingCall → Option ℕ → SegmentEnd
ahead_with c OfRun hand = gives_up c hand [] (Ran false)
ahead_with c OfDrop hand = wakes_first c hand
ahead_with c (OfCancel n) hand = cancel_takes c hand
ahead_with c (OfPoll n) hand = asks c n IsClosed hand
ahead_with c (OfClaim n) hand = asks c n HasOutput hand

abbrev pub nobody_stored : AbstractCell → AbstractCell
nobody_stored c = with_task c (record (c.task) { awaiter = NoAwaiter })

abbrev pub ahead_at : AbstractCell → Slots → NotifyingCall → SegmentEnd
ahead_at c slots (OfPoll n) = ahead_with (nobody_stored c) (OfPoll n) slots.awaiter
ahead_at c slots (OfClaim n) = ahead_with (nobody_stored c) (OfClaim n) slots.awaiter
ahead_at c slots way = ahead_with (takes_due c) way (in_hand c)

abbrev pub ahead : AbstractCell → Slots → Position → SegmentEnd
ahead c slots (CallEnding answer r) = ends c [] answer
ahead c slots (Deliverer woken next) = stops c (HandedOver woken ∷ []) (frame_of (after_handing_over next))
ahead c slots Starting = stops c [] InPoll
ahead c slots Pending = go c InPoll false
ahead c slots Ready = go c InPoll true
ahead c slots ReadyFutureDropped = go c ReadyDropped false
ahead c slots OutputStored = go c ReadyDropped false
ahead c slots PendingFutureDropped = go c PendingDropped false
ahead c slots (FutureInHand ClosedRun) = stops c (FutureDropped ∷ []) RunDropped
ahead c slots (FutureInHand DroppedRunnable) = stops c (FutureDropped ∷ []) DropDropped
ahead c slots (FutureGone ClosedRun) = go c RunDropped false
ahead c slots (FutureGone DroppedRunnable) = go c DropDropped false
ahead c slots (OutputInHand due) = stops c (OutputDropped ∷ []) (frame_of (notifies due OfRun))
ahead c slots (GivingUp (Some i) answer) = gives_up c (Some i) [] (Ran false)
ahead c slots (GivingUp None answer) = gives_up c None [] answer
ahead c slots (Emptier (Some i) answer) = wakes_last (nobody_stored c) (Some i) (Empties ∷ ended slots.awaiter []) (Ran false)
ahead c slots (Emptier None answer) = wakes_last (nobody_stored c) None (Empties ∷ ended slots.awaiter []) answer
ahead c slots (Notifier way) = ahead_at c slots way
ahead c slots (Taker way) = ahead_with (nobody_stored c) way slots.awaiter
ahead c slots (Releaser hand way) = ahead_with c way hand
ahead c slots (AwaiterInHand i OfRun) = stops c (woken i []) (Ends (Ran false))
ahead c slots (AwaiterInHand i OfDrop) = stops c (woken i []) (GivesUp Nothing)
ahead c slots (AwaiterInHand i (OfCancel n)) = stops c (woken i []) (Ends Nothing)
ahead c slots OrphanHolder = stops (record c { task = (orphaned c.task).task; held = true }) (HandedOver false ∷ []) (Ends Nothing)
ahead c slots (HasClone i) = go c (Clones i) true
ahead c slots (Storing i) = stores (record c { task = record (c.task) { awaiter = Due i }; storing = false; owed = false }) i slots.awaiter
ahead c slots (OldAwaiterInHand i old) = stops c (CloneEnded old ∷ []) (Stores i)
ahead c slots (Registered i) = go c (Stores i) false
ahead c slots (TookBack i) = stops (record c { storing = false; owed = false }) (woken i []) (Looks i)
ahead c slots (CloneInHand i) = stops c (woken i []) (Looks i)
ahead c slots (Looking i) = looks c i
ahead c slots (SawOutput i) = reads c i
ahead c slots (TookOutput i) = answers c [] i HasOutput
ahead c slots (Answering i answer) = record { cell = c; told = TaskPollEnds i answer ∷ []; frame = None }
ahead c slots OutputCloser = stops c (OutputDropped ∷ []) Detaches
ahead c slots Detacher = detaches c []
ahead c slots _ = stops c [] InPoll

-- before a step: a call begins, an answer of foreign code is chosen, or the segment goes on
abbrev pub before : ℕ → AbstractCell → Slots → Position → Act → SegmentEnd
before limit c slots (At r) act = begin limit c (call_of r act)
before limit c slots Polling act = go c InPoll (says_yes act)
before limit c slots (Registrar i) act = go c (Clones i) (says_yes act)
before limit c slots (AwaiterInHand j (OfPoll i)) act = go c (frame_of (AwaiterInHand j (OfPoll i))) (says_yes act)
before limit c slots (AwaiterInHand j (OfClaim i)) act = go c (frame_of (AwaiterInHand j (OfClaim i))) (says_yes act)
before limit c slots p act = ahead c slots p

-- after a step: the segment has ended, or goes on
abbrev pub landed : AbstractCell → Slots → Bool → Position → SegmentEnd
landed c slots true q = stops c [] (frame_of q)
landed c slots false q = ahead c slots q

abbrev pub queues : Act → Bool
queues WakeIdle = true
queues _ = false

abbrev pub lands : AbstractCell → Slots → Act → Position → SegmentEnd
lands c slots act q =
    cond (is_at_rest q) (record { cell = c; told = []; frame = None })
    (cond (queues act) (ahead c slots (Deliverer false (ThenEnds Nothing))) (landed c slots (is_foreign act || asks_foreign q) q))

abbrev pub prepend : List Event → SegmentEnd → SegmentEnd
prepend told l = record l { told = l.told ++ told }

-- part by part
pub record Same (a b : SegmentEnd) : Type 0 where
  pub phase : a.cell.task.phase ≡ b.cell.task.phase
  pub closed : a.cell.task.closed ≡ b.cell.task.closed
  pub has_task : a.cell.task.has_task ≡ b.cell.task.has_task
  pub wakers : a.cell.task.wakers ≡ b.cell.task.wakers
  pub future : a.cell.task.future ≡ b.cell.task.future
  pub output : a.cell.task.output ≡ b.cell.task.output
  pub awaiter : a.cell.task.awaiter ≡ b.cell.task.awaiter
  pub held : a.cell.held ≡ b.cell.held
  pub storing : a.cell.storing ≡ b.cell.storing
  pub owed : a.cell.owed ≡ b.cell.owed
  pub told : a.told ≡ b.told
  pub frame : a.frame ≡ b.frame

abbrev pub Landed : Scene → Census → Position → Act → Option Outcome → Type 0
Landed s rest p act None = Unit {0}
Landed s rest p act (Some o) =
    Same (before s.limit (cell_at s.word s.slots (plus (weigh p) rest)) s.slots p act)
    (prepend (seen o.told) (lands (cell_at o.word o.slots (plus (census (o.next ∷ o.born)) rest)) o.slots act o.next))
