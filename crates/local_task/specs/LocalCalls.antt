-- Lists of calls of a task of one thread: each call makes the task into that of its row, and no call is made where its condition does not
-- hold.
use Rattle.std.specs.Prelude.{◌≡◌, ℕ, ◌≤◌, Bool, true, false, not, ◌&&◌, ◌||◌, nat_lt, if◌then◌else◌, List, [], ◌∷◌, Option, Some, None}
use Rattle.std.specs.Prelude.{is_some}
use Rattle.task_core.specs.declared.traits.Poll.{Poll}
use Rattle.task_core.specs.Local.{Phase, Idle, Queued, Local, Effect, due, stored, opening_task, Started, IsPolled, IsEnded, IsNotDue}
use Rattle.task_core.specs.Local.{starts, settles, discards, wakes, gains_waker, drops_waker, cancels, detaches, claims, registers, is_done}
use Rattle.task_core.specs.Local.{is_queued, is_started, is_emptied}

-- a call with its arguments; of a poll, what the clone of the caller's awaiter gave, and whether the stored one wakes the same
pub data Call (F T A : Type 0) : Type 0 where
  Start DiscardRunnable Wake AddWaker DropWaker Cancel Detach : Call F T A
  Settle : F → Poll T → Call F T A
  PollTask : Option A → Bool → Call F T A

-- the condition of a call
abbrev pub may_be_called : {F T A : Type 0} → Call F T A → Local F T A → Bool
may_be_called Start t = true
may_be_called DiscardRunnable t = is_queued t.phase
may_be_called Wake t = true
may_be_called AddWaker t = not (is_emptied t)
may_be_called DropWaker t = nat_lt 0 t.wakers
may_be_called Cancel t = t.has_task
may_be_called Detach t = t.has_task
may_be_called (Settle f polled) t = is_started t.phase
may_be_called (PollTask clone same) t = t.has_task

-- what a `start` hands out, and the task after it, whichever way it went
abbrev pub effect_of_start : {F T A : Type 0} → Started F T A → Effect F T A
effect_of_start (IsPolled effect) = effect
effect_of_start (IsEnded effect) = effect
effect_of_start (IsNotDue effect) = effect

-- the row of a call, for a limit of the references
abbrev pub effect_of_call : {F T A : Type 0} → ℕ → Call F T A → Local F T A → Effect F T A
effect_of_call limit Start t = effect_of_start (starts t)
effect_of_call limit DiscardRunnable t = discards t
effect_of_call limit Wake t = wakes t
effect_of_call limit AddWaker t = gains_waker limit t
effect_of_call limit DropWaker t = drops_waker t
effect_of_call limit Cancel t = cancels t
effect_of_call limit Detach t = detaches t
effect_of_call limit (Settle f polled) t = settles f polled t
effect_of_call limit (PollTask clone same) t = (if is_done t.phase then claims same t else registers clone t).effect

-- the task after one call more; None where it may not be made
abbrev pub then_called : {F T A : Type 0} → ℕ → Call F T A → Option (Local F T A) → Option (Local F T A)
then_called limit call None = None
then_called limit call (Some t) = if may_be_called call t then Some ((effect_of_call limit call t).task) else None

-- the task after the calls, the newest first, from a new one
abbrev pub all_called : {F T A : Type 0} → ℕ → F → List (Call F T A) → Option (Local F T A)
all_called limit f [] = Some (opening_task f)
all_called limit f (call ∷ earlier) = then_called limit call (all_called limit f earlier)

-- at home: not handed out, and not gone
abbrev pub has_future : Phase → Bool
has_future Idle = true
has_future Queued = true
has_future _ = false

-- no Runnable exists, no run polls it, and it is not done
abbrev pub is_idle : Phase → Bool
is_idle Idle = true
is_idle _ = false

-- what holds of a task between any two calls
pub record IsSound (F T A : Type 0) (limit : ℕ) (t : Local F T A) : Type 0 where
  pub future : is_some t.future ≡ has_future t.phase
  pub output : is_some t.output ≡ (is_done t.phase && not t.closed)
  pub open_idle : is_idle t.phase ≡ true → t.closed ≡ false
  pub wakeable : is_idle t.phase ≡ true → t.has_task || nat_lt 0 t.wakers ≡ true  -- somebody is left who may wake it
  pub notified : is_done t.phase ≡ true → is_some (due t.awaiter) ≡ false  -- no awaiter waits for what has come
  -- an awaiter is forgotten only where the Task has gone
  pub remembered : t.has_task ≡ true → is_some (due t.awaiter) ≡ is_some (stored t.awaiter)
  pub empty : is_emptied t ≡ true → is_some (stored t.awaiter) ≡ false
  pub within_limit : t.wakers ≤ limit

-- every list of calls leads to such a task
abbrev pub CallsAreSound : (F T A : Type 0) → ℕ → Type 0
CallsAreSound F T A limit =
    (f : F) (calls : List (Call F T A)) (t : Local F T A) → all_called limit f calls ≡ Some t → IsSound F T A limit t
