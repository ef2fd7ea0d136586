-- The rows of the table, each where the flags are known on which its next position depends. A claim is shown of all acts and positions by a case for each.
use Rattle.std.proofs.Common.{◌≡◌, ℕ, Bool, true, false, Option, Some, None, refl}
use Rattle.task_laws.proofs.Vocabulary.{found, written, Answer, Rest, NotifyingCall, OnceDelivered, Runnable, Waker, Lent, Task, ClosedRun, DroppedRunnable, At}
use Rattle.task_laws.proofs.Vocabulary.{CallEnding, Deliverer, Starting, Polling, Pending, Ready, ReadyFutureDropped, OutputStored, PendingFutureDropped}
use Rattle.task_laws.proofs.Vocabulary.{FutureInHand, FutureGone, OutputInHand, GivingUp, Emptier, Notifier, Taker, Releaser, AwaiterInHand, OrphanHolder}
use Rattle.task_laws.proofs.Vocabulary.{Registrar, HasClone, UnusedClone, Storing, Registered, TookBack, CloneInHand, Looking, SawOutput, TookOutput}
use Rattle.task_laws.proofs.Vocabulary.{OldAwaiterInHand, Answering, OutputCloser, Detacher, GainReference, FindLimit, DropWaker, DropLastWaker, OrphanTask}
use Rattle.task_laws.proofs.Vocabulary.{CloseOrphan, GiveUpReference, GiveUpLastReference, WakeOver, WakeScheduled, WakeRunning, WakeIdle, DiscardOpen}
use Rattle.task_laws.proofs.Vocabulary.{DiscardClosed, CancelOver, CancelBusy, CancelIdle, ClaimOutput, GiveUpOutput, DetachOrphan, DetachLast, Detach}
use Rattle.task_laws.proofs.Vocabulary.{TakeUpClosed, StartRun, Unschedule, Complete, CompleteDetached, EndClosed, Reschedule, EndIdle, EndOrphaned}
use Rattle.task_laws.proofs.Vocabulary.{BeginNotify, MissNotify, FindNotify, BeginRegister, EndNotify, EndRegister, EndRegisterNotified, Look, LookFinished}
use Rattle.task_laws.proofs.Vocabulary.{StartPoll, AnswerPending, AnswerReady, DropFuture, StoreOutput, DropOutput, HandOutOutput, CloneAwaiter, RefuseClone}
use Rattle.task_laws.proofs.Vocabulary.{StoreAwaiter, TakeAwaiter, WakeAwaiter, DropAwaiter, HandOver, EmptySlots, RefuseGain, EndCall}
use Rattle.task_laws.proofs.Vocabulary.{Position, Act, OfPoll, OfClaim, Scene, Outcome, where_found, outcome_at, rule}
use Rattle.task_laws.specs.declared.positions.PollAnswer.{PollAnswer}
use Rattle.task_laws.proofs.Scenes.{InEach, scheduled, running, completed, closed, awaiter, notifying, by_flag, with_awaiter, by_slot}

-- a row is made of the scene as it is found
abbrev pub as_found : Scene → Scene
as_found scene = scene

-- a scene in which these flags are so
abbrev closed_queued : Scene → Scene
closed_queued scene = closed.put true (scheduled.put true scene)

abbrev closed_running : Scene → Scene
closed_running scene = closed.put true (scheduled.put false (running.put true scene))

abbrev ended : Scene → Scene
ended scene = closed.put true (scheduled.put false (running.put false scene))

abbrev with_output : Scene → Scene
with_output scene = closed.put false (completed.put true scene)

abbrev still_open : Scene → Scene
still_open scene = closed.put false (completed.put false scene)

pub data Row : Act → Position → (Scene → Scene) → Type 0 where
  -- references are gained and given up
  gains_runnable : Row GainReference (At Runnable) as_found
  gains_waker : Row GainReference (At Waker) as_found
  gains_lent : Row GainReference (At Lent) as_found
  finds_limit_runnable : Row FindLimit (At Runnable) as_found
  finds_limit_waker : Row FindLimit (At Waker) as_found
  finds_limit_lent : Row FindLimit (At Lent) as_found
  refuses_runnable : Row RefuseGain (At Runnable) as_found
  refuses_waker : Row RefuseGain (At Waker) as_found
  refuses_lent : Row RefuseGain (At Lent) as_found
  drops_waker : Row DropWaker (At Waker) as_found
  drops_last_waker : Row DropLastWaker (At Waker) as_found
  orphans_task : Row OrphanTask (At Waker) as_found
  closes_orphan : Row CloseOrphan OrphanHolder as_found
  gives_up : (hand : Option ℕ) (answer : Answer) → Row GiveUpReference (GivingUp hand answer) as_found
  gives_up_last : (hand : Option ℕ) (answer : Answer) → Row GiveUpLastReference (GivingUp hand answer) as_found
  -- wakes
  wakes_over_waker : Row WakeOver (At Waker) as_found
  wakes_over_lent : Row WakeOver (At Lent) as_found
  wakes_scheduled_waker : Row WakeScheduled (At Waker) as_found
  wakes_scheduled_lent : Row WakeScheduled (At Lent) as_found
  wakes_running_waker : Row WakeRunning (At Waker) as_found
  wakes_running_lent : Row WakeRunning (At Lent) as_found
  wakes_idle_waker : Row WakeIdle (At Waker) as_found
  wakes_idle_lent : Row WakeIdle (At Lent) as_found
  -- closes
  discards_open : Row DiscardOpen (At Runnable) as_found
  discards_closed : Row DiscardClosed (At Runnable) as_found
  cancels_over : (n : ℕ) → Row CancelOver (At (Task n)) as_found
  cancels_busy_awaited : (n : ℕ) → Row CancelBusy (At (Task n)) (awaiter.put true)
  cancels_busy : (n : ℕ) → Row CancelBusy (At (Task n)) (awaiter.put false)
  cancels_idle_awaited : (n : ℕ) → Row CancelIdle (At (Task n)) (awaiter.put true)
  cancels_idle : (n : ℕ) → Row CancelIdle (At (Task n)) (awaiter.put false)
  claims_awaited : (n : ℕ) → Row ClaimOutput (At (Task n)) (awaiter.put true)
  claims : (n : ℕ) → Row ClaimOutput (At (Task n)) (awaiter.put false)
  claims_late_awaited : (n : ℕ) → Row ClaimOutput (SawOutput n) (awaiter.put true)
  claims_late : (n : ℕ) → Row ClaimOutput (SawOutput n) (awaiter.put false)
  gives_up_output : (n : ℕ) → Row GiveUpOutput (At (Task n)) as_found
  detaches_orphan : (n : ℕ) → Row DetachOrphan (At (Task n)) as_found
  detaches_last : (n : ℕ) → Row DetachLast (At (Task n)) as_found
  detaches : (n : ℕ) → Row Detach (At (Task n)) as_found
  detacher_is_last : Row DetachLast Detacher as_found
  detacher_leaves : Row Detach Detacher as_found
  -- a run starts and ends
  takes_up_closed : Row TakeUpClosed (At Runnable) as_found
  starts_run : Row StartRun (At Runnable) as_found
  unschedules_run_awaited : Row Unschedule (FutureGone ClosedRun) (awaiter.put true)
  unschedules_run : Row Unschedule (FutureGone ClosedRun) (awaiter.put false)
  unschedules_drop_awaited : Row Unschedule (FutureGone DroppedRunnable) (awaiter.put true)
  unschedules_drop : Row Unschedule (FutureGone DroppedRunnable) (awaiter.put false)
  completes_awaited : Row Complete OutputStored (awaiter.put true)
  completes : Row Complete OutputStored (awaiter.put false)
  completes_detached_closed : Row CompleteDetached OutputStored (closed.put true)
  completes_detached : Row CompleteDetached OutputStored (closed.put false)
  ends_closed_awaited : Row EndClosed PendingFutureDropped (awaiter.put true)
  ends_closed : Row EndClosed PendingFutureDropped (awaiter.put false)
  reschedules : Row Reschedule Pending as_found
  ends_idle : Row EndIdle Pending as_found
  ends_orphaned : Row EndOrphaned Pending as_found
  -- the handshake begins and ends
  begins_notify : (way : NotifyingCall) → Row BeginNotify (Notifier way) as_found
  misses_notify : (way : NotifyingCall) → Row MissNotify (Notifier way) as_found
  finds_notify : (i : ℕ) → Row FindNotify (HasClone i) as_found
  begins_register : (i : ℕ) → Row BeginRegister (HasClone i) as_found
  ends_notify : (hand : Option ℕ) (way : NotifyingCall) → Row EndNotify (Releaser hand way) as_found
  ends_register : (i : ℕ) → Row EndRegister (Registered i) as_found
  ends_register_notified : (i : ℕ) → Row EndRegisterNotified (TookBack i) as_found
  -- loads
  looks_lent : Row Look (At Lent) as_found
  looks_queued : (n : ℕ) → Row Look (At (Task n)) closed_queued
  looks_running : (n : ℕ) → Row Look (At (Task n)) closed_running
  looks_ended : (n : ℕ) → Row Look (At (Task n)) ended
  looks_open : (n : ℕ) → Row Look (At (Task n)) still_open
  looks_again_queued : (i : ℕ) → Row Look (Looking i) closed_queued
  looks_again_running : (i : ℕ) → Row Look (Looking i) closed_running
  looks_again_ended : (i : ℕ) → Row Look (Looking i) ended
  looks_again_output : (i : ℕ) → Row Look (Looking i) with_output
  looks_again_open : (i : ℕ) → Row Look (Looking i) still_open
  looks_finished : (n : ℕ) → Row LookFinished (At (Task n)) as_found
  -- private acts
  starts_poll : Row StartPoll Starting as_found
  answers_pending : Row AnswerPending Polling as_found
  answers_ready : Row AnswerReady Polling as_found
  drops_future_ready : Row DropFuture Ready as_found
  drops_future_closed : Row DropFuture Pending (closed.put true)
  drops_future_unpolled : Row DropFuture (FutureInHand ClosedRun) as_found
  drops_future_discarded : Row DropFuture (FutureInHand DroppedRunnable) as_found
  stores_output : Row StoreOutput ReadyFutureDropped as_found
  drops_output : (due : Bool) → Row DropOutput (OutputInHand due) as_found
  drops_output_closed : Row DropOutput OutputCloser as_found
  hands_out : (i : ℕ) → Row HandOutOutput (TookOutput i) as_found
  clones_awaiter : (i : ℕ) → Row CloneAwaiter (Registrar i) as_found
  refuses_clone : (i : ℕ) → Row RefuseClone (Registrar i) as_found
  stores_awaiter : (i : ℕ) → Row StoreAwaiter (Storing i) (with_awaiter None)
  stores_over : (i old : ℕ) → Row StoreAwaiter (Storing i) (with_awaiter (Some old))
  takes_back : (i : ℕ) → Row TakeAwaiter (Registered i) (notifying.put true)
  takes_awaiter : (way : NotifyingCall) → Row TakeAwaiter (Taker way) as_found
  wakes_clone : (i : ℕ) → Row WakeAwaiter (CloneInHand i) as_found
  wakes_awaiter : (i : ℕ) (way : NotifyingCall) → Row WakeAwaiter (AwaiterInHand i way) as_found
  drops_old : (i old : ℕ) → Row DropAwaiter (OldAwaiterInHand i old) as_found
  drops_clone : (i : ℕ) → Row DropAwaiter (UnusedClone i) as_found
  drops_awaiter_of_poll : (i n : ℕ) → Row DropAwaiter (AwaiterInHand i (OfPoll n)) as_found
  drops_awaiter_of_claim : (i n : ℕ) → Row DropAwaiter (AwaiterInHand i (OfClaim n)) as_found
  hands_on : Row HandOver (At Runnable) as_found
  hands_over : (woken : Bool) (next : OnceDelivered) → Row HandOver (Deliverer woken next) as_found
  empties : (hand : Option ℕ) (answer : Answer) → Row EmptySlots (Emptier hand answer) (with_awaiter None)
  empties_awaiter : (hand : Option ℕ) (answer : Answer) (old : ℕ) → Row EmptySlots (Emptier hand answer) (with_awaiter (Some old))
  ends_call : (answer : Answer) (rest : Rest) → Row EndCall (CallEnding answer rest) as_found
  ends_poll : (i : ℕ) (answer : PollAnswer) → Row EndCall (Answering i answer) as_found

-- what a row has to show: the claim of what it leaves, in a scene where it is found
abbrev pub Shows : (Act → Position → Scene → Option Outcome → Type 0) → Act → Position → Scene → Type 0
Shows Claim act p scene = found scene.limit act scene.word ≡ true → Claim act p scene (outcome_at scene (written act scene.word) act p)

-- what each row shows, where the table has none there is nothing to show
at_rows : (Claim : Act → Position → Scene → Option Outcome → Type 0) → ((act : Act) (p : Position) (scene : Scene) → Claim act p scene None)
    → ((act : Act) (p : Position) (put : Scene → Scene) → Row act p put → InEach (λ scene. Shows Claim act p (put scene)))
    → (act : Act) (p : Position) → InEach (Shows Claim act p)
at_rows Claim none shown GainReference (At Runnable) = shown _ _ _ gains_runnable
at_rows Claim none shown GainReference (At Waker) = shown _ _ _ gains_waker
at_rows Claim none shown GainReference (At Lent) = shown _ _ _ gains_lent
at_rows Claim none shown FindLimit (At Runnable) = shown _ _ _ finds_limit_runnable
at_rows Claim none shown FindLimit (At Waker) = shown _ _ _ finds_limit_waker
at_rows Claim none shown FindLimit (At Lent) = shown _ _ _ finds_limit_lent
at_rows Claim none shown RefuseGain (At Runnable) = shown _ _ _ refuses_runnable
at_rows Claim none shown RefuseGain (At Waker) = shown _ _ _ refuses_waker
at_rows Claim none shown RefuseGain (At Lent) = shown _ _ _ refuses_lent
at_rows Claim none shown DropWaker (At Waker) = shown _ _ _ drops_waker
at_rows Claim none shown DropLastWaker (At Waker) = shown _ _ _ drops_last_waker
at_rows Claim none shown OrphanTask (At Waker) = shown _ _ _ orphans_task
at_rows Claim none shown CloseOrphan OrphanHolder = shown _ _ _ closes_orphan
at_rows Claim none shown GiveUpReference (GivingUp hand answer) = shown _ _ _ (gives_up hand answer)
at_rows Claim none shown GiveUpLastReference (GivingUp hand answer) = shown _ _ _ (gives_up_last hand answer)
at_rows Claim none shown WakeOver (At Waker) = shown _ _ _ wakes_over_waker
at_rows Claim none shown WakeOver (At Lent) = shown _ _ _ wakes_over_lent
at_rows Claim none shown WakeScheduled (At Waker) = shown _ _ _ wakes_scheduled_waker
at_rows Claim none shown WakeScheduled (At Lent) = shown _ _ _ wakes_scheduled_lent
at_rows Claim none shown WakeRunning (At Waker) = shown _ _ _ wakes_running_waker
at_rows Claim none shown WakeRunning (At Lent) = shown _ _ _ wakes_running_lent
at_rows Claim none shown WakeIdle (At Waker) = shown _ _ _ wakes_idle_waker
at_rows Claim none shown WakeIdle (At Lent) = shown _ _ _ wakes_idle_lent
at_rows Claim none shown DiscardOpen (At Runnable) = shown _ _ _ discards_open
at_rows Claim none shown DiscardClosed (At Runnable) = shown _ _ _ discards_closed
at_rows Claim none shown CancelOver (At (Task n)) = shown _ _ _ (cancels_over n)
at_rows Claim none shown CancelBusy (At (Task n)) = by_flag awaiter (shown _ _ _ (cancels_busy_awaited n)) (shown _ _ _ (cancels_busy n))
at_rows Claim none shown CancelIdle (At (Task n)) = by_flag awaiter (shown _ _ _ (cancels_idle_awaited n)) (shown _ _ _ (cancels_idle n))
at_rows Claim none shown ClaimOutput (At (Task n)) = by_flag awaiter (shown _ _ _ (claims_awaited n)) (shown _ _ _ (claims n))
at_rows Claim none shown ClaimOutput (SawOutput n) = by_flag awaiter (shown _ _ _ (claims_late_awaited n)) (shown _ _ _ (claims_late n))
at_rows Claim none shown GiveUpOutput (At (Task n)) = shown _ _ _ (gives_up_output n)
at_rows Claim none shown DetachOrphan (At (Task n)) = shown _ _ _ (detaches_orphan n)
at_rows Claim none shown DetachLast (At (Task n)) = shown _ _ _ (detaches_last n)
at_rows Claim none shown Detach (At (Task n)) = shown _ _ _ (detaches n)
at_rows Claim none shown DetachLast Detacher = shown _ _ _ detacher_is_last
at_rows Claim none shown Detach Detacher = shown _ _ _ detacher_leaves
at_rows Claim none shown TakeUpClosed (At Runnable) = shown _ _ _ takes_up_closed
at_rows Claim none shown StartRun (At Runnable) = shown _ _ _ starts_run
at_rows Claim none shown Unschedule (FutureGone ClosedRun) = by_flag awaiter (shown _ _ _ unschedules_run_awaited) (shown _ _ _ unschedules_run)
at_rows Claim none shown Unschedule (FutureGone DroppedRunnable) = by_flag awaiter (shown _ _ _ unschedules_drop_awaited) (shown _ _ _ unschedules_drop)
at_rows Claim none shown Complete OutputStored = by_flag awaiter (shown _ _ _ completes_awaited) (shown _ _ _ completes)
at_rows Claim none shown CompleteDetached OutputStored = by_flag closed (shown _ _ _ completes_detached_closed) (shown _ _ _ completes_detached)
at_rows Claim none shown EndClosed PendingFutureDropped = by_flag awaiter (shown _ _ _ ends_closed_awaited) (shown _ _ _ ends_closed)
at_rows Claim none shown Reschedule Pending = shown _ _ _ reschedules
at_rows Claim none shown EndIdle Pending = shown _ _ _ ends_idle
at_rows Claim none shown EndOrphaned Pending = shown _ _ _ ends_orphaned
at_rows Claim none shown BeginNotify (Notifier way) = shown _ _ _ (begins_notify way)
at_rows Claim none shown MissNotify (Notifier way) = shown _ _ _ (misses_notify way)
at_rows Claim none shown FindNotify (HasClone i) = shown _ _ _ (finds_notify i)
at_rows Claim none shown BeginRegister (HasClone i) = shown _ _ _ (begins_register i)
at_rows Claim none shown EndNotify (Releaser hand way) = shown _ _ _ (ends_notify hand way)
at_rows Claim none shown EndRegister (Registered i) = shown _ _ _ (ends_register i)
at_rows Claim none shown EndRegisterNotified (TookBack i) = shown _ _ _ (ends_register_notified i)
at_rows Claim none shown Look (At Lent) = shown _ _ _ looks_lent
at_rows Claim none shown Look (At (Task n)) =
    by_flag closed (by_flag scheduled (shown _ _ _ (looks_queued n)) (by_flag running (shown _ _ _ (looks_running n)) (shown _ _ _ (looks_ended n))))
    (by_flag completed (record { at = λ scene is_found. none _ _ _ }) (shown _ _ _ (looks_open n)))
at_rows Claim none shown Look (Looking i) =
    by_flag closed (by_flag scheduled (shown _ _ _ (looks_again_queued i)) (by_flag running (shown _ _ _ (looks_again_running i)) (shown _ _ _ (looks_again_ended i))))
    (by_flag completed (shown _ _ _ (looks_again_output i)) (shown _ _ _ (looks_again_open i)))
at_rows Claim none shown LookFinished (At (Task n)) = shown _ _ _ (looks_finished n)
at_rows Claim none shown StartPoll Starting = shown _ _ _ starts_poll
at_rows Claim none shown AnswerPending Polling = shown _ _ _ answers_pending
at_rows Claim none shown AnswerReady Polling = shown _ _ _ answers_ready
at_rows Claim none shown DropFuture Ready = shown _ _ _ drops_future_ready
at_rows Claim none shown DropFuture Pending = by_flag closed (shown _ _ _ drops_future_closed) (record { at = λ scene is_found. none _ _ _ })
at_rows Claim none shown DropFuture (FutureInHand ClosedRun) = shown _ _ _ drops_future_unpolled
at_rows Claim none shown DropFuture (FutureInHand DroppedRunnable) = shown _ _ _ drops_future_discarded
at_rows Claim none shown StoreOutput ReadyFutureDropped = shown _ _ _ stores_output
at_rows Claim none shown DropOutput (OutputInHand due) = shown _ _ _ (drops_output due)
at_rows Claim none shown DropOutput OutputCloser = shown _ _ _ drops_output_closed
at_rows Claim none shown HandOutOutput (TookOutput i) = shown _ _ _ (hands_out i)
at_rows Claim none shown CloneAwaiter (Registrar i) = shown _ _ _ (clones_awaiter i)
at_rows Claim none shown RefuseClone (Registrar i) = shown _ _ _ (refuses_clone i)
at_rows Claim none shown StoreAwaiter (Storing i) = by_slot (shown _ _ _ (stores_awaiter i)) (λ old. shown _ _ _ (stores_over i old))
at_rows Claim none shown TakeAwaiter (Registered i) = by_flag notifying (shown _ _ _ (takes_back i)) (record { at = λ scene is_found. none _ _ _ })
at_rows Claim none shown TakeAwaiter (Taker way) = shown _ _ _ (takes_awaiter way)
at_rows Claim none shown WakeAwaiter (CloneInHand i) = shown _ _ _ (wakes_clone i)
at_rows Claim none shown WakeAwaiter (AwaiterInHand i way) = shown _ _ _ (wakes_awaiter i way)
at_rows Claim none shown DropAwaiter (OldAwaiterInHand i old) = shown _ _ _ (drops_old i old)
at_rows Claim none shown DropAwaiter (UnusedClone i) = shown _ _ _ (drops_clone i)
at_rows Claim none shown DropAwaiter (AwaiterInHand i (OfPoll n)) = shown _ _ _ (drops_awaiter_of_poll i n)
at_rows Claim none shown DropAwaiter (AwaiterInHand i (OfClaim n)) = shown _ _ _ (drops_awaiter_of_claim i n)
at_rows Claim none shown HandOver (At Runnable) = shown _ _ _ hands_on
at_rows Claim none shown HandOver (Deliverer woken next) = shown _ _ _ (hands_over woken next)
at_rows Claim none shown EmptySlots (Emptier hand answer) = by_slot (shown _ _ _ (empties hand answer)) (λ old. shown _ _ _ (empties_awaiter hand answer old))
at_rows Claim none shown EndCall (CallEnding answer rest) = shown _ _ _ (ends_call answer rest)
at_rows Claim none shown EndCall (Answering i answer) = shown _ _ _ (ends_poll i answer)
at_rows Claim none shown act p = record { at = λ scene is_found. none act p scene }

if_found : (Claim : Option Outcome → Type 0) → Claim None → (is_found : Bool) (left : Option Outcome) → (is_found ≡ true → Claim left) → Claim (where_found is_found left)
if_found Claim none is_found None shown = none
if_found Claim none true (Some left) shown = shown refl
if_found Claim none false (Some left) shown = none

-- so the rule shows it
pub by_rows : (Claim : Act → Position → Scene → Option Outcome → Type 0) → ((act : Act) (p : Position) (scene : Scene) → Claim act p scene None)
    → ((act : Act) (p : Position) (put : Scene → Scene) → Row act p put → InEach (λ scene. Shows Claim act p (put scene)))
    → (act : Act) (p : Position) (scene : Scene) → Claim act p scene (rule scene act p)
by_rows Claim none shown act p scene =
    if_found (Claim act p scene) (none act p scene) (found scene.limit act scene.word) (outcome_at scene (written act scene.word) act p) ((at_rows Claim none shown act p).at scene)
