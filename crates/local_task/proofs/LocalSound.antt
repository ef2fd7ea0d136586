-- What each call keeps of a task of one thread, and so every list of calls.
use Rattle.std.proofs.Common.{◌≡◌, ℕ, Bool, true, false, not, nat_lt, [], ◌∷◌, Option, Some, None, refl, subst, if◌then◌else◌, arith}
use Rattle.task_core.specs.declared.traits.Poll.TheVariants.{Pending, Ready}
use Rattle.task_core.specs.Local.{Local, opening_task, starts, settles, discards, wakes, gains_waker, drops_waker, cancels, detaches, claims, registers, is_done, is_queued, is_started, is_emptied}
use Rattle.local_task.specs.LocalCalls.{Call, Start, DiscardRunnable, Wake, AddWaker, DropWaker, Cancel, Detach, Settle, PollTask, may_be_called, effect_of_start, effect_of_call, then_called, all_called, IsSound, CallsAreSound}

module _ {F T A : Type 0} where
  opening-sound : (limit : ℕ) (f : F) → IsSound F T A limit (opening_task f)
  opening-sound limit f = record {
    future = refl;
    output = refl;
    open_idle = λ e. cc;
    wakeable = λ e. cc;
    notified = λ e. refl;
    remembered = λ e. refl;
    empty = λ e. refl;
    within_limit = omega arith;
  }

  start-sound : (limit : ℕ) (t : Local F T A) → IsSound F T A limit t → IsSound F T A limit ((effect_of_start (starts t)).task)
  start-sound limit t s = record {
    future = grind (arith, s.future);
    output = grind (arith, s.output, s.open_idle);
    open_idle = grind (arith, s.open_idle);
    wakeable = grind (arith, s.wakeable);
    notified = grind (arith, s.notified);
    remembered = grind (arith, s.remembered);
    empty = grind (arith, s.empty);
    within_limit = grind (arith, s.within_limit);
  }

  discard-sound : (limit : ℕ) (t : Local F T A) → IsSound F T A limit t → is_queued t.phase ≡ true → IsSound F T A limit ((discards t).task)
  discard-sound limit t s m = record {
    future = grind (arith, s.future, m);
    output = grind (arith, s.output, s.open_idle, m);
    open_idle = grind (arith, s.open_idle, m);
    wakeable = grind (arith, s.wakeable, m);
    notified = grind (arith, s.notified, m);
    remembered = grind (arith, s.remembered, m);
    empty = grind (arith, s.empty, m);
    within_limit = grind (arith, s.within_limit, m);
  }

  wake-sound : (limit : ℕ) (t : Local F T A) → IsSound F T A limit t → IsSound F T A limit ((wakes t).task)
  wake-sound limit t s = record {
    future = grind (arith, s.future);
    output = grind (arith, s.output, s.open_idle);
    open_idle = grind (arith, s.open_idle);
    wakeable = grind (arith, s.wakeable);
    notified = grind (arith, s.notified);
    remembered = grind (arith, s.remembered);
    empty = grind (arith, s.empty);
    within_limit = grind (arith, s.within_limit);
  }

  add_waker-sound : (limit : ℕ) (t : Local F T A) → IsSound F T A limit t → not (is_emptied t) ≡ true → IsSound F T A limit ((gains_waker limit t).task)
  add_waker-sound limit t s m = record {
    future = grind (arith, s.future, m);
    output = grind (arith, s.output, s.open_idle, m);
    open_idle = grind (arith, s.open_idle, m);
    wakeable = grind (arith, s.wakeable, m);
    notified = grind (arith, s.notified, m);
    remembered = grind (arith, s.remembered, m);
    empty = grind (arith, s.empty, m);
    within_limit = grind (arith, s.within_limit, m);
  }

  drop_waker-sound : (limit : ℕ) (t : Local F T A) → IsSound F T A limit t → nat_lt 0 t.wakers ≡ true → IsSound F T A limit ((drops_waker t).task)
  drop_waker-sound limit t s m = record {
    future = grind (arith, s.future, m);
    output = grind (arith, s.output, s.open_idle, m);
    open_idle = grind (arith, s.open_idle, m);
    wakeable = grind (arith, s.wakeable, m);
    notified = grind (arith, s.notified, m);
    remembered = grind (arith, s.remembered, m);
    empty = grind (arith, s.empty, m);
    within_limit = grind (arith, s.within_limit, m);
  }

  cancel-sound : (limit : ℕ) (t : Local F T A) → IsSound F T A limit t → t.has_task ≡ true → IsSound F T A limit ((cancels t).task)
  cancel-sound limit t s m = record {
    future = grind (arith, s.future, m);
    output = grind (arith, s.output, s.open_idle, m);
    open_idle = grind (arith, s.open_idle, m);
    wakeable = grind (arith, s.wakeable, m);
    notified = grind (arith, s.notified, m);
    remembered = grind (arith, s.remembered, m);
    empty = grind (arith, s.empty, m);
    within_limit = grind (arith, s.within_limit, m);
  }

  detach-sound : (limit : ℕ) (t : Local F T A) → IsSound F T A limit t → t.has_task ≡ true → IsSound F T A limit ((detaches t).task)
  detach-sound limit t s m = record {
    future = grind (arith, s.future, m);
    output = grind (arith, s.output, s.open_idle, m);
    open_idle = grind (arith, s.open_idle, m);
    wakeable = grind (arith, s.wakeable, m);
    notified = grind (arith, s.notified, m);
    remembered = grind (arith, s.remembered, m);
    empty = grind (arith, s.empty, m);
    within_limit = grind (arith, s.within_limit, m);
  }

  settle_ready-sound : (limit : ℕ) (f : F) (output : T) (t : Local F T A) → IsSound F T A limit t → is_started t.phase ≡ true → IsSound F T A limit ((settles f (Ready output) t).task)
  settle_ready-sound limit f output t s m = record {
    future = grind (arith, s.future, m);
    output = grind (arith, s.output, s.open_idle, m);
    open_idle = grind (arith, s.open_idle, m);
    wakeable = grind (arith, s.wakeable, m);
    notified = grind (arith, s.notified, m);
    remembered = grind (arith, s.remembered, m);
    empty = grind (arith, s.empty, m);
    within_limit = grind (arith, s.within_limit, m);
  }

  settle_pending-sound : (limit : ℕ) (f : F) (t : Local F T A) → IsSound F T A limit t → is_started t.phase ≡ true → IsSound F T A limit ((settles f Pending t).task)
  settle_pending-sound limit f t s m = record {
    future = grind (arith, s.future, m);
    output = grind (arith, s.output, s.open_idle, m);
    open_idle = grind (arith, s.open_idle, m);
    wakeable = grind (arith, s.wakeable, m);
    notified = grind (arith, s.notified, m);
    remembered = grind (arith, s.remembered, m);
    empty = grind (arith, s.empty, m);
    within_limit = grind (arith, s.within_limit, m);
  }

  claim-sound : (limit : ℕ) (same : Bool) (t : Local F T A) → IsSound F T A limit t → t.has_task ≡ true → is_done t.phase ≡ true → IsSound F T A limit (((claims same t).effect).task)
  claim-sound limit same t s m d = record {
    future = grind (arith, s.future, m, d);
    output = grind (arith, s.output, s.open_idle, m, d);
    open_idle = grind (arith, s.open_idle, m, d);
    wakeable = grind (arith, s.wakeable, m, d);
    notified = grind (arith, s.notified, m, d);
    remembered = grind (arith, s.remembered, m, d);
    empty = grind (arith, s.empty, m, d);
    within_limit = grind (arith, s.within_limit, m, d);
  }

  refuse-sound : (limit : ℕ) (t : Local F T A) → IsSound F T A limit t → IsSound F T A limit (((registers None t).effect).task)
  refuse-sound limit t s = record {
    future = grind (arith, s.future);
    output = grind (arith, s.output, s.open_idle);
    open_idle = grind (arith, s.open_idle);
    wakeable = grind (arith, s.wakeable);
    notified = grind (arith, s.notified);
    remembered = grind (arith, s.remembered);
    empty = grind (arith, s.empty);
    within_limit = grind (arith, s.within_limit);
  }

  register-sound : (limit : ℕ) (clone : A) (t : Local F T A) → IsSound F T A limit t → t.has_task ≡ true → is_done t.phase ≡ false → IsSound F T A limit (((registers (Some clone) t).effect).task)
  register-sound limit clone t s m d = record {
    future = grind (arith, s.future, m, d);
    output = grind (arith, s.output, s.open_idle, m, d);
    open_idle = grind (arith, s.open_idle, m, d);
    wakeable = grind (arith, s.wakeable, m, d);
    notified = grind (arith, s.notified, m, d);
    remembered = grind (arith, s.remembered, m, d);
    empty = grind (arith, s.empty, m, d);
    within_limit = grind (arith, s.within_limit, m, d);
  }

  poll-sound : (limit : ℕ) (clone : Option A) (same done : Bool) (t : Local F T A) → is_done t.phase ≡ done → IsSound F T A limit t → t.has_task ≡ true → IsSound F T A limit ((if done then claims same t else registers clone t).effect.task)
  poll-sound limit clone same true t d s m = claim-sound limit same t s m d
  poll-sound limit None same false t d s m = refuse-sound limit t s
  poll-sound limit (Some clone) same false t d s m = register-sound limit clone t s m d

  row-sound : (limit : ℕ) (call : Call F T A) (t : Local F T A) → IsSound F T A limit t → may_be_called call t ≡ true → IsSound F T A limit ((effect_of_call limit call t).task)
  row-sound limit Start t s m = start-sound limit t s
  row-sound limit DiscardRunnable t s m = discard-sound limit t s m
  row-sound limit Wake t s m = wake-sound limit t s
  row-sound limit AddWaker t s m = add_waker-sound limit t s m
  row-sound limit DropWaker t s m = drop_waker-sound limit t s m
  row-sound limit Cancel t s m = cancel-sound limit t s m
  row-sound limit Detach t s m = detach-sound limit t s m
  row-sound limit (Settle f (Ready output)) t s m = settle_ready-sound limit f output t s m
  row-sound limit (Settle f Pending) t s m = settle_pending-sound limit f t s m
  row-sound limit (PollTask clone same) t s m = poll-sound limit clone same (is_done t.phase) t refl s m

  if-sound : (limit : ℕ) (allowed : Bool) (next t : Local F T A) → (allowed ≡ true → IsSound F T A limit next) → (if allowed then Some next else None) ≡ Some t → IsSound F T A limit t
  if-sound limit true next t s e = let same : next ≡ t = cc in subst (IsSound F T A limit) same (s refl)
  if-sound limit false next t s e = absurd (cc)

  then-sound : (limit : ℕ) (call : Call F T A) (before : Option (Local F T A)) (t : Local F T A) → ((u : Local F T A) → before ≡ Some u → IsSound F T A limit u) → then_called limit call before ≡ Some t → IsSound F T A limit t
  then-sound limit call None t s e = absurd (cc)
  then-sound limit call (Some u) t s e = if-sound limit (may_be_called call u) ((effect_of_call limit call u).task) t (row-sound limit call u (s u refl)) e

  pub calls-sound : (limit : ℕ) → CallsAreSound F T A limit
  calls-sound limit f [] t e = let same : opening_task f ≡ t = cc in subst (IsSound F T A limit) same (opening-sound limit f)
  calls-sound limit f (call ∷ earlier) t e = then-sound limit call (all_called limit f earlier) t (λ u. calls-sound limit f earlier u) e
