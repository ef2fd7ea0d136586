-- What stands when no call is in progress.
use Rattle.std.proofs.Common.{◌≡◌, ℕ, ◌+◌, ◌≤◌, ◌⊎◌, zero, suc, Bool, true, false, not, ◌&&◌, ◌||◌, cond, eqb, refl, sym, ap, ◌∙◌, subst, List, [], ◌∷◌, ◌++◌, Some, arith}
use Rattle.std.specs.Prelude.{slice_get, slice_set}
use Rattle.std.proofs.lemmas.Bool.Decides.{nat_tests}
use Rattle.task_progress.proofs.Vocabulary.{State, bit, is_open, FuturePollBegins, TakenUp, CallBegins, Event, Runnable, Position, At, Starting, Polling, StartRun, StartPoll, Outcome, when, Machine, after, moves, step, run_from, how_many, how_often, count, no_call_is_left}
use Rattle.task_progress.proofs.Vocabulary.{is_output_end, wake_is_due, Census, weigh, census, runs, closers, calls, Awaiting, awaiting, fits, Invariant, Stays, always, wakers, laws_of}
use Rattle.task_progress.specs.StepsLeft.{total, in_call}
use Rattle.task_progress.specs.Ending.{NoCallInProgress}
use Rattle.task_progress.specs.AtRest.{is_runnable, IsAtRest, WithoutWorkAtRest, PollsNext, DueWakesArePolled}
use Rattle.task_progress.proofs.Ending.{get_put}

call_one : (p : Position) → in_call p ≡ calls (weigh p)
call_one p = grind arith

pub calls_all : (ps : List Position) → total in_call ps ≡ calls (census ps)
calls_all [] = refl
calls_all (p ∷ ps) = omega (arith, call_one p, calls_all ps)

queued_low : (p : Position) → bit (is_runnable p) ≤ (weigh p).queued
queued_low p = grind arith

queued_high : (p : Position) → (weigh p).queued ≤ bit (is_runnable p) + in_call p
queued_high p = grind arith

runnables_low : (ps : List Position) → how_many is_runnable ps ≤ (census ps).queued
runnables_low [] = omega arith
runnables_low (p ∷ ps) = omega (arith, queued_low p, runnables_low ps)

runnables_high : (ps : List Position) → (census ps).queued ≤ how_many is_runnable ps + total in_call ps
runnables_high [] = omega arith
runnables_high (p ∷ ps) = omega (arith, queued_high p, runnables_high ps)

pub runnables : (m : Machine) → NoCallInProgress m → how_many is_runnable m.parties ≡ (census m.parties).queued
runnables m none_in_progress = omega (arith, runnables_low m.parties, runnables_high m.parties, none_in_progress)

still : (w : State) (c : Census) → calls c ≡ 0 → runs c ≡ bit w.running → c.queued + closers c ≡ cond w.running 0 (bit w.scheduled)
    → (w.running ≡ false) × (bit w.scheduled ≡ c.queued)
still w c busy e f = grind arith

pub stands_still : (m : Machine) → Invariant m → NoCallInProgress m → (m.word.running ≡ false) × (bit m.word.scheduled ≡ (census m.parties).queued)
stands_still m h none_in_progress = still m.word (census m.parties) (omega (arith, calls_all m.parties, none_in_progress)) h.holds.running h.holds.scheduled

no_bit : (b : Bool) → bit b ≡ 0 → b ≡ false
no_bit true e = cc
no_bit false e = refl

one_bit : (b : Bool) → b ≡ true → bit b ≡ 1
one_bit true e = refl
one_bit false e = cc

not_due : (w : State) (due : Bool) → (due ≡ true → (w.scheduled ≡ true) × (is_open w ≡ true)) → w.scheduled ≡ false → due ≡ false
not_due w due e f = grind arith

kept : (w : State) (c : Census) (n : ℕ) → calls c ≡ 0 → c.queued ≡ 0 → w.references ≡ c.queued + runs c + closers c + c.finishing + c.outputs + c.wakers
    → n + c.emptiers + c.orphans ≡ cond w.task 0 (bit (eqb w.references 0)) → (n + c.emptiers ≡ 0) ⊎ (is_open w ≡ false) → is_open w ≡ true
    → (1 ≤ c.wakers) ⊎ (w.task ≡ true)
kept w c n e1 e2 e3 e4 e5 e6 = grind (arith, nat_tests)

future_gone : (w : State) (f : ℕ) (c : Census) (d : ℕ) → calls c ≡ 0 → c.queued ≡ 0 → w.running ≡ false → w.scheduled ≡ false
    → f ≡ c.queued + c.starting + c.polling + c.pending + c.ready + c.in_hand + cond (w.running || w.scheduled) 0 (bit (is_open w)) → d + f ≡ 1
    → is_open w ≡ false → d ≡ 1
future_gone w f c d e1 e2 e3 e4 e5 e6 e7 = grind arith

output_gone : (w : State) (o : ℕ) (c : Census) (e r : ℕ) → calls c ≡ 0 → o ≡ c.stored + c.outputs + c.claims + bit (w.completed && not w.closed)
    → r ≡ e + o + c.ready + c.unstored
    → (w.completed ≡ true → w.closed ≡ false → w.task ≡ true) → (e ≡ r) ⊎ ((w.completed ≡ true) × (w.closed ≡ false) × (w.task ≡ true))
output_gone w o c e r e1 e2 e3 e4 = grind arith

handshake_over : (w : State) (b : Awaiting) (c : ℕ) → c ≡ 0 → b.task_takers + b.registering ≤ c → b.run_takers ≤ c → b.registering ≡ bit w.registering
    → b.run_takers + b.task_takers ≡ cond w.registering 0 (bit w.notifying) → (w.registering ≡ false) × (w.notifying ≡ false)
handshake_over w b c e1 e2 e3 e4 e5 = grind arith

finishing_call : (c : Census) → c.finishing ≤ calls c
finishing_call c = omega arith

dropped_some : (n d : ℕ) → d ≡ 1 → (1 ≤ n) ⊎ (1 ≤ d)
dropped_some n d e = grind arith

task_there : (w : State) (c : Census) (l : ℕ) → c.tasks ≡ bit w.task → l + c.tasks ≡ 1 → w.task ≡ true → l ≡ 0
task_there w c l e f g = grind arith

pub is_at_rest : (m : Machine) → Invariant m → NoCallInProgress m → how_many is_runnable m.parties ≡ 0 → IsAtRest m
is_at_rest m h none_in_progress none =
    let c = census m.parties in
    let idle : calls c ≡ 0 = omega (arith, calls_all m.parties, none_in_progress) in
    let queued : c.queued ≡ 0 = omega (arith, runnables m none_in_progress, none) in
    let running : m.word.running ≡ false = (stands_still m h none_in_progress).0 in
    let scheduled : m.word.scheduled ≡ false = no_bit m.word.scheduled ((stands_still m h none_in_progress).1 ∙ queued) in
    let fit = fits 0 m.parties in
    let takers : (awaiting 0 m.parties).run_takers ≤ calls c = omega (arith, fit.run_takers, finishing_call c) in
    let shakes = handshake_over m.word (awaiting 0 m.parties) (calls c) idle fit.shaking takers (h.shakes 0).registering (h.shakes 0).taking in
    let gone : is_open m.word ≡ false → how_often Event.FutureDropped m.trace ≡ 1 = future_gone m.word (bit m.slots.future) c (how_often Event.FutureDropped m.trace) idle queued running scheduled h.holds.future h.holds.dropped in
    let left : no_call_is_left m.trace = omega (arith, h.holds.calls_left, idle) in
    record {
      scheduled = scheduled;
      running = running;
      registering = shakes.0;
      notifying = shakes.1;
      no_wake_due = not_due m.word (wake_is_due m.trace) h.holds.due scheduled;
      waits = λ opened. subst (λ (n : ℕ). (1 ≤ n) ⊎ (m.word.task ≡ true)) (sym (wakers m.parties)) (kept m.word c (how_often Event.Empties m.trace) idle queued h.holds.references h.holds.emptied h.holds.emptied_closed opened);
      future = gone;
      output = λ over. output_gone m.word (bit m.slots.output) c (count is_output_end m.trace) (how_often Event.FutureReady m.trace) idle h.holds.output h.holds.outputs h.holds.kept;
      awaiter = λ over task i pending. (laws_of m h).awaiters.woken i left (task_there m.word c (how_often Event.TaskGivenUp m.trace) h.holds.task h.holds.task_left task) pending (dropped_some (how_often Event.Completes m.trace) (how_often Event.FutureDropped m.trace) (gone over));
    }

pub without_work_at_rest : WithoutWorkAtRest
without_work_at_rest limit steps m e = is_at_rest m (subst Stays e (always limit steps))

-- a Runnable, if there is one
pub data RunnableIn (ps : List Position) : Type 0 where
  Found : (i : ℕ) → slice_get ps i ≡ Some (At Runnable) → RunnableIn ps
  NoneFound : how_many is_runnable ps ≡ 0 → RunnableIn ps

pub data IsRunnable (p : Position) : Type 0 where
  This : p ≡ At Runnable → IsRunnable p
  Other : is_runnable p ≡ false → IsRunnable p

test_runnable : (p : Position) → IsRunnable p
test_runnable (At Runnable) = This refl
test_runnable p = Other refl

pub find_runnable : (ps : List Position) → RunnableIn ps
find_runnable [] = NoneFound refl
find_runnable (p ∷ ps) = by_one (test_runnable p) (find_runnable ps)
  where
    by_one : IsRunnable p → RunnableIn ps → RunnableIn (p ∷ ps)
    by_one (This is) later = Found zero (ap (λ x. Some x) is)
    by_one (Other differs) (Found i e) = Found (suc i) e
    by_one (Other differs) (NoneFound none) = NoneFound (let zero_bit : bit (is_runnable p) ≡ 0 = ap bit differs in omega (arith, zero_bit, none))

-- the run of a Runnable of a task that is not closed starts, and polls
polls_next : (m : Machine) (i : ℕ) → slice_get m.parties i ≡ Some (At Runnable) → m.word.closed ≡ false → PollsNext m
polls_next m i e opened =
    let w = m.word in
    let o : Outcome = record { word = record w { scheduled = false; running = true }; slots = m.slots; next = Starting; born = []; told = TakenUp ∷ [] } in
    let m1 : Machine = record { limit = m.limit; word = o.word; slots = m.slots; parties = slice_set m.parties i Starting ++ []; trace = TakenUp ∷ CallBegins ∷ m.trace } in
    let one : step m (record { party = i; act = StartRun }) ≡ Some m1 = ap (moves m i StartRun) e ∙ ap (λ b. after m i (At Runnable) (when (not b) o)) opened in
    let there : slice_get m1.parties i ≡ Some Starting = get_put m.parties i (At Runnable) Starting [] e in
    let m2 : Machine = record { limit = m.limit; word = m1.word; slots = m1.slots; parties = slice_set m1.parties i Polling ++ []; trace = FuturePollBegins ∷ TakenUp ∷ CallBegins ∷ m.trace } in
    let two : step m1 (record { party = i; act = StartPoll }) ≡ Some m2 = ap (moves m1 i StartPoll) there in
    record {
      party = i;
      now = m2;
      at = e;
      leads = ap (λ x. run_from x (record { party = i; act = StartPoll } ∷ [])) one ∙ two;
      told = refl;
    }

from_found : (m : Machine) → RunnableIn m.parties → how_many is_runnable m.parties ≡ 1 → m.word.closed ≡ false → PollsNext m
from_found m (Found i e) one opened = polls_next m i e opened
from_found m (NoneFound none) one opened = absurd (omega (arith, none, one))

not_closed : (w : State) → is_open w ≡ true → w.closed ≡ false
not_closed w e = grind arith

pub polled : (m : Machine) → Invariant m → NoCallInProgress m → wake_is_due m.trace ≡ true → (how_many is_runnable m.parties ≡ 1) × PollsNext m
polled m h none_in_progress due =
    let scheduled : m.word.scheduled ≡ true = (h.holds.due due).0 in
    let one : how_many is_runnable m.parties ≡ 1 = runnables m none_in_progress ∙ (sym ((stands_still m h none_in_progress).1) ∙ one_bit m.word.scheduled scheduled) in
    (one, from_found m (find_runnable m.parties) one (not_closed m.word (h.holds.due due).1))

pub due_wakes_are_polled : DueWakesArePolled
due_wakes_are_polled limit steps m e = polled m (subst Stays e (always limit steps))
