-- Every task comes to rest.
use Rattle.std.proofs.Common.{◌≡◌, ℕ, ◌+◌, ◌≤◌, ◌⊎◌, inl, inr, zero, suc, Bool, true, false, not, refl, sym, ap, ◌∙◌, subst, List, [], ◌∷◌, ◌++◌, length, Option, Some, None, arith}
use Rattle.std.specs.Prelude.{slice_get, slice_set}
use Rattle.task_progress.proofs.Vocabulary.{State, bit, is_open, Event, FuturePollBegins, TakenUp, CallBegins, is_event, Runnable, ClosedRun, Position, At, Starting, Polling, FutureInHand, Act}
use Rattle.task_progress.proofs.Vocabulary.{TakeUpClosed, StartRun, StartPoll, Outcome, when, rule, Machine, Step, scene, begins, after, moves, step, run_from, how_many, how_often, wake_is_due, census}
use Rattle.task_progress.proofs.Vocabulary.{awaiting, Holds, HandshakeHolds, others, split, split_awaiting}
use Rattle.task_progress.specs.StepsLeft.{total, in_call, steps_left}
use Rattle.task_progress.specs.Ending.{NoCallInProgress}
use Rattle.task_progress.specs.AtRest.{is_runnable, runs_in, IsAtRest, PollsNext, ComesToRest, AllComeToRest, DueWakesStay, has_runnable, ClosedMakesNoRunnable, RunsLeadToRest, ClosedLeadsToRest}
use Rattle.task_progress.proofs.Sums.{total_put, told, open_steps}
use Rattle.task_progress.proofs.Waits.{InOrder, StaysInOrder, step_in_order, run_in_order, around, always_in_order}
use Rattle.task_progress.proofs.Ending.{Place, Rests, Works, place, get_put, end_calls}
use Rattle.task_progress.proofs.AtRest.{polled, runnables, stands_still, is_at_rest, RunnableIn, Found, NoneFound, find_runnable}
use Rattle.task_progress.proofs.Lasting.{queued_of, IsUnscheduled, IsDue, Lasting, LastingTo, lasting_by_rule}

pub queued_all : (ps : List Position) → total queued_of ps ≡ (census ps).queued
queued_all [] = refl
queued_all (p ∷ ps) = omega (arith, queued_all ps)

-- what steps lead to
pub record Onward (m now : Machine) : Type 0 where
  pub closed : m.word.closed ≡ true → (now.word.closed ≡ true) × (total queued_of now.parties ≤ total queued_of m.parties)
  pub over : is_open m.word ≡ false → is_open now.word ≡ false
  pub idle : how_often Event.CallBegins now.trace ≡ how_often Event.CallBegins m.trace → IsUnscheduled m.word → IsUnscheduled now.word
  pub due : how_often Event.CallBegins now.trace ≡ how_often Event.CallBegins m.trace → IsDue m.word m.trace → IsDue now.word now.trace
  pub begun : how_often Event.CallBegins m.trace ≤ how_often Event.CallBegins now.trace
  pub starts : how_often Event.FuturePollBegins m.trace ≤ how_often Event.FuturePollBegins now.trace

abbrev OnwardTo : Machine → Option Machine → Type 0
OnwardTo m None = Unit {0}
OnwardTo m (Some now) = Onward m now

no_begin : (p : Position) → in_call p ≡ 1 → begins p ≡ []
no_begin (At r) e = cc
no_begin p e = refl

closed_on : (m : Machine) (i : ℕ) (p : Position) (o : Outcome) → slice_get m.parties i ≡ Some p
    → (o.word.closed ≡ true) × (total queued_of (o.next ∷ o.born) ≤ queued_of p)
    → (o.word.closed ≡ true) × (total queued_of (slice_set m.parties i o.next ++ o.born) ≤ total queued_of m.parties)
closed_on m i p o e h = (h.0, omega (arith, h.1, total_put queued_of m.parties i p o.next o.born e))

-- of a party between two calls, whose step begins one; and of one in a call
idle_on : (m : Machine) (p : Position) (o : Outcome) → Lasting m.word m.trace p o → Place p
    → how_often Event.CallBegins (o.told ++ (begins p ++ m.trace)) ≡ how_often Event.CallBegins m.trace → IsUnscheduled m.word → IsUnscheduled o.word
idle_on m p o lasting (Works works) same idle = lasting.idle works idle
idle_on m p o lasting (Rests r is) same idle =
    absurd (let one : how_often Event.CallBegins (begins p) ≡ 1 = ap (λ q. how_often Event.CallBegins (begins q)) is in omega (arith, told (is_event Event.CallBegins) o.told (begins p) m.trace, one, same))

due_on : (m : Machine) (p : Position) (o : Outcome) → Lasting m.word m.trace p o → Place p
    → how_often Event.CallBegins (o.told ++ (begins p ++ m.trace)) ≡ how_often Event.CallBegins m.trace → IsDue m.word m.trace → IsDue o.word (o.told ++ (begins p ++ m.trace))
due_on m p o lasting (Works works) same due =
    subst (λ (b : List Event). IsDue o.word (o.told ++ (b ++ m.trace))) (sym (no_begin p works)) (lasting.due works due)
due_on m p o lasting (Rests r is) same due =
    absurd (let one : how_often Event.CallBegins (begins p) ≡ 1 = ap (λ q. how_often Event.CallBegins (begins q)) is in omega (arith, told (is_event Event.CallBegins) o.told (begins p) m.trace, one, same))

after_on : (m : Machine) (i : ℕ) (p : Position) (o : Option Outcome) → slice_get m.parties i ≡ Some p → LastingTo m.word m.trace p o
    → OnwardTo m (after m i p o)
after_on m i p None e lasting = tt
after_on m i p (Some o) e lasting = record {
  closed = λ is. closed_on m i p o e (lasting.closed is);
  over = lasting.over;
  idle = idle_on m p o lasting (place p);
  due = due_on m p o lasting (place p);
  begun = omega (arith, told (is_event Event.CallBegins) o.told (begins p) m.trace);
  starts = omega (arith, told (is_event Event.FuturePollBegins) o.told (begins p) m.trace);
}

moves_on : (m : Machine) (i : ℕ) (act : Act) (at : Option Position) → slice_get m.parties i ≡ at → InOrder m → OnwardTo m (moves m i act at)
moves_on m i act None e h = tt
moves_on m i act (Some p) e h =
    let h1 = subst (Holds m.limit m.word m.slots m.trace) (split m.parties i p e) h.holds.holds in
    let k1 = subst (HandshakeHolds 0 m.word m.slots m.trace) (split_awaiting 0 m.parties i p e) (h.holds.shakes 0) in
    after_on m i p (rule (scene m) act p) e
    (lasting_by_rule act p (scene m) m.trace (census (others m.parties i)) (awaiting 0 (others m.parties i)) (around m.limit m.word m.slots m.trace _ _ h1 k1))

onward_same : (m : Machine) → Onward m m
onward_same m = record {
  closed = λ is. (is, omega arith);
  over = λ is. is;
  idle = λ same is. is;
  due = λ same is. is;
  begun = omega arith;
  starts = omega arith;
}

then_closed : (m m1 now : Machine) → Onward m m1 → Onward m1 now → m.word.closed ≡ true
    → (now.word.closed ≡ true) × (total queued_of now.parties ≤ total queued_of m.parties)
then_closed m m1 now a b is = let x = a.closed is in let y = b.closed x.0 in (y.0, omega (arith, x.1, y.1))

onward_then : (m m1 now : Machine) → Onward m m1 → Onward m1 now → Onward m now
onward_then m m1 now a b = record {
  closed = then_closed m m1 now a b;
  over = λ is. b.over (a.over is);
  idle = λ same is. let first : how_often Event.CallBegins m1.trace ≡ how_often Event.CallBegins m.trace = omega (arith, a.begun, b.begun, same) in b.idle (same ∙ sym first) (a.idle first is);
  due = λ same is. let first : how_often Event.CallBegins m1.trace ≡ how_often Event.CallBegins m.trace = omega (arith, a.begun, b.begun, same) in b.due (same ∙ sym first) (a.due first is);
  begun = omega (arith, a.begun, b.begun);
  starts = omega (arith, a.starts, b.starts);
}

onward_to : (m m1 : Machine) (last : Option Machine) → Onward m m1 → OnwardTo m1 last → OnwardTo m last
onward_to m m1 None a b = tt
onward_to m m1 (Some now) a b = onward_then m m1 now a b

joins_on : (m : Machine) (o : Option Machine) (steps : List Step) → StaysInOrder o → OnwardTo m o
    → ((m1 : Machine) → InOrder m1 → OnwardTo m1 (run_from (Some m1) steps)) → OnwardTo m (run_from o steps)
joins_on m None [] h first later = tt
joins_on m None (s ∷ steps) h first later = tt
joins_on m (Some m1) steps h first later = onward_to m m1 (run_from (Some m1) steps) first (later m1 h)

run_on : (m : Machine) (steps : List Step) → InOrder m → OnwardTo m (run_from (Some m) steps)
run_on m [] h = onward_same m
run_on m (s ∷ steps) h =
    joins_on m (step m s) steps (step_in_order m s h) (moves_on m s.party s.act (slice_get m.parties s.party) refl h) (λ m1 order. run_on m1 steps order)

pub onward : (m : Machine) (steps : List Step) (now : Machine) → InOrder m → run_from (Some m) steps ≡ Some now → Onward m now
onward m steps now h e = subst (OnwardTo m) e (run_on m steps h)

pub in_order : (m : Machine) (steps : List Step) (now : Machine) → InOrder m → run_from (Some m) steps ≡ Some now → InOrder now
in_order m steps now h e = subst StaysInOrder e (run_in_order (Some m) steps h)

-- two lists of steps, one after the other
run-append : (m : Option Machine) (a b : List Step) → run_from m (a ++ b) ≡ run_from (run_from m a) b
run-append m [] b = refl
run-append None (s ∷ a) [] = refl
run-append None (s ∷ a) (t ∷ b) = refl
run-append (Some m) (s ∷ a) b = run-append (step m s) a b

leads_on : (m m1 now : Machine) (a b : List Step) → run_from (Some m) a ≡ Some m1 → run_from (Some m1) b ≡ Some now → run_from (Some m) (a ++ b) ≡ Some now
leads_on m m1 now a b e f = run-append (Some m) a b ∙ (ap (λ x. run_from x b) e ∙ f)

length_both : (a b : List Step) → length (a ++ b) ≡ length a + length b
length_both [] b = omega arith
length_both (s ∷ a) b = omega (arith, length_both a b)

runs_both : (a b : List Step) → runs_in (a ++ b) ≡ runs_in a + runs_in b
runs_both [] b = omega arith
runs_both (s ∷ a) b = omega (arith, runs_both a b)

-- no call in progress and no Runnable, after some number of steps and of calls, which are runs
pub record Reaches (m : Machine) (most calls : ℕ) : Type 0 where
  pub steps : List Step
  pub now : Machine
  pub leads : run_from (Some m) steps ≡ Some now
  pub short : length steps ≤ most
  pub begun : how_often Event.CallBegins now.trace ≤ how_often Event.CallBegins m.trace + calls
  pub only_runs : how_often Event.CallBegins now.trace ≤ how_often Event.CallBegins m.trace + runs_in steps
  pub none_in_progress : NoCallInProgress now
  pub no_runnable : how_many is_runnable now.parties ≡ 0

reaches_then : (m m1 : Machine) (a : List Step) (x y u v : ℕ) → run_from (Some m) a ≡ Some m1 → length a ≤ x
    → how_often Event.CallBegins m1.trace ≤ how_often Event.CallBegins m.trace + u → how_often Event.CallBegins m1.trace ≤ how_often Event.CallBegins m.trace + runs_in a
    → Reaches m1 y v → Reaches m (x + y) (u + v)
reaches_then m m1 a x y u v e short begun only_runs r = record {
  steps = a ++ r.steps;
  now = r.now;
  leads = leads_on m m1 r.now a r.steps e r.leads;
  short = omega (arith, length_both a r.steps, short, r.short);
  begun = omega (arith, begun, r.begun);
  only_runs = omega (arith, runs_both a r.steps, only_runs, r.only_runs);
  none_in_progress = r.none_in_progress;
  no_runnable = r.no_runnable;
}

none_left : (m : Machine) → NoCallInProgress m → total steps_left m.parties ≡ 0
none_left m none_in_progress = omega (arith, open_steps m.parties, none_in_progress)

few_bits : (b : Bool) → bit b ≤ 1
few_bits true = omega arith
few_bits false = omega arith

-- the run of the Runnable of a closed task is the last
closed_run : (m : Machine) → InOrder m → NoCallInProgress m → m.word.closed ≡ true → (i : ℕ) → slice_get m.parties i ≡ Some (At Runnable) → Reaches m 10 1
closed_run m h none_in_progress closed i e =
    let o : Outcome = record { word = m.word; slots = m.slots; next = FutureInHand ClosedRun; born = []; told = TakenUp ∷ [] } in
    let m1 : Machine = record { limit = m.limit; word = m.word; slots = m.slots; parties = slice_set m.parties i (FutureInHand ClosedRun) ++ []; trace = TakenUp ∷ CallBegins ∷ m.trace } in
    let one : step m (record { party = i; act = TakeUpClosed }) ≡ Some m1 = ap (moves m i TakeUpClosed) e ∙ ap (λ b. after m i (At Runnable) (when b o)) closed in
    let h1 : InOrder m1 = in_order m (record { party = i; act = TakeUpClosed } ∷ []) m1 h one in
    let s = end_calls m1 h1 in
    let on = onward m1 s.steps s.now h1 s.leads in
    let left : total steps_left m1.parties ≤ 9 = omega (arith, total_put steps_left m.parties i (At Runnable) (FutureInHand ClosedRun) [] e, none_left m none_in_progress) in
    let before : total queued_of m.parties ≤ 1 = omega (arith, queued_all m.parties, (stands_still m h.holds none_in_progress).1, few_bits m.word.scheduled) in
    let between : total queued_of m1.parties ≡ 0 = omega (arith, total_put queued_of m.parties i (At Runnable) (FutureInHand ClosedRun) [] e, before) in
    record {
      steps = record { party = i; act = TakeUpClosed } ∷ s.steps;
      now = s.now;
      leads = ap (λ x. run_from x s.steps) one ∙ s.leads;
      short = omega (arith, s.short, left);
      begun = omega (arith, s.begun);
      only_runs = omega (arith, s.begun);
      none_in_progress = s.none_in_progress;
      no_runnable = omega (arith, runnables s.now s.none_in_progress, queued_all s.now.parties, (on.closed closed).1, between);
    }

to_no_runnable : (m : Machine) → NoCallInProgress m → how_many is_runnable m.parties ≡ 0 → (n k : ℕ) → Reaches m n k
to_no_runnable m none_in_progress no_runnable n k = record {
  steps = [];
  now = m;
  leads = refl;
  short = omega arith;
  begun = omega arith;
  only_runs = omega arith;
  none_in_progress = none_in_progress;
  no_runnable = no_runnable;
}

more : (m : Machine) (n k n1 k1 : ℕ) → n ≤ n1 → k ≤ k1 → Reaches m n k → Reaches m n1 k1
more m n k n1 k1 a b r = record {
  steps = r.steps;
  now = r.now;
  leads = r.leads;
  short = omega (arith, r.short, a);
  begun = omega (arith, r.begun, b);
  only_runs = r.only_runs;
  none_in_progress = r.none_in_progress;
  no_runnable = r.no_runnable;
}

-- where a Runnable exists, the word says so
is_scheduled : (m : Machine) → InOrder m → NoCallInProgress m → (i : ℕ) → slice_get m.parties i ≡ Some (At Runnable) → m.word.scheduled ≡ true
is_scheduled m h none_in_progress i e =
    at m.word.scheduled (total queued_of (others m.parties i)) (sym (queued_all m.parties) ∙ there m.parties i e) (stands_still m h.holds none_in_progress).1
  where
    there : (ps : List Position) (i : ℕ) → slice_get ps i ≡ Some (At Runnable) → total queued_of ps ≡ 1 + total queued_of (others ps i)
    there [] i e = cc
    there (x ∷ ps) zero e = let same : x ≡ At Runnable = cc in rw same refl
    there (x ∷ ps) (suc i) e = omega (arith, there ps i e)

    at : (b : Bool) (n : ℕ) {q : ℕ} → q ≡ 1 + n → bit b ≡ q → b ≡ true
    at true n e f = refl
    at false n e f = absurd (omega (arith, e, f))

unscheduled_closed : (w : State) → IsUnscheduled w → w.scheduled ≡ true → w.closed ≡ true
unscheduled_closed w u e = grind arith

after_run : (m : Machine) → InOrder m → NoCallInProgress m → IsUnscheduled m.word → RunnableIn m.parties → Reaches m 10 1
after_run m h none_in_progress idle (NoneFound none) = to_no_runnable m none_in_progress none 10 1
after_run m h none_in_progress idle (Found i e) = closed_run m h none_in_progress (unscheduled_closed m.word idle (is_scheduled m h none_in_progress i e)) i e

-- the run of the Runnable of a task that is not closed polls the future
pub record Runs (m : Machine) : Type 0 where
  pub polled : Machine
  pub steps : List Step
  pub leads : run_from (Some m) steps ≡ Some polled
  pub short : length steps ≤ 2
  pub begun : how_often Event.CallBegins polled.trace ≤ how_often Event.CallBegins m.trace + 1
  pub only_runs : how_often Event.CallBegins polled.trace ≤ how_often Event.CallBegins m.trace + runs_in steps
  pub starts : how_often Event.FuturePollBegins polled.trace ≡ how_often Event.FuturePollBegins m.trace + 1
  pub rest : Reaches polled 22 1

open_run : (m : Machine) → InOrder m → NoCallInProgress m → m.word.closed ≡ false → (i : ℕ) → slice_get m.parties i ≡ Some (At Runnable) → Runs m
open_run m h none_in_progress opened i e =
    let w = m.word in
    let o : Outcome = record { word = record w { scheduled = false; running = true }; slots = m.slots; next = Starting; born = []; told = TakenUp ∷ [] } in
    let m1 : Machine = record { limit = m.limit; word = o.word; slots = m.slots; parties = slice_set m.parties i Starting ++ []; trace = TakenUp ∷ CallBegins ∷ m.trace } in
    let one : step m (record { party = i; act = StartRun }) ≡ Some m1 = ap (moves m i StartRun) e ∙ ap (λ b. after m i (At Runnable) (when (not b) o)) opened in
    let there : slice_get m1.parties i ≡ Some Starting = get_put m.parties i (At Runnable) Starting [] e in
    let m2 : Machine = record { limit = m.limit; word = m1.word; slots = m1.slots; parties = slice_set m1.parties i Polling ++ []; trace = FuturePollBegins ∷ TakenUp ∷ CallBegins ∷ m.trace } in
    let two : step m1 (record { party = i; act = StartPoll }) ≡ Some m2 = ap (moves m1 i StartPoll) there in
    let both : List Step = record { party = i; act = StartRun } ∷ record { party = i; act = StartPoll } ∷ [] in
    let leads : run_from (Some m) both ≡ Some m2 = ap (λ x. run_from x (record { party = i; act = StartPoll } ∷ [])) one ∙ two in
    let h2 : InOrder m2 = in_order m both m2 h leads in
    let s = end_calls m2 h2 in
    let on = onward m2 s.steps s.now h2 s.leads in
    let h3 : InOrder s.now = in_order m2 s.steps s.now h2 s.leads in
    let left1 : total steps_left m1.parties ≤ 13 = omega (arith, total_put steps_left m.parties i (At Runnable) Starting [] e, none_left m none_in_progress) in
    let left2 : total steps_left m2.parties ≤ 12 = omega (arith, total_put steps_left m1.parties i Starting Polling [] there, left1) in
    let short : length s.steps ≤ 12 = omega (arith, s.short, left2) in
    let same : how_often Event.CallBegins s.now.trace ≤ how_often Event.CallBegins m2.trace + 0 = omega (arith, s.begun) in
    record {
      polled = m2;
      steps = both;
      leads = leads;
      short = omega arith;
      begun = omega arith;
      only_runs = omega arith;
      starts = omega arith;
      rest = reaches_then m2 s.now s.steps 12 10 0 1 s.leads short same (omega (arith, s.begun)) (after_run s.now h3 s.none_in_progress (on.idle s.begun (inl refl)) (find_runnable s.now.parties));
    }

-- from a machine with no call in progress
pub record FromNoCall (m : Machine) : Type 0 where
  pub reaches : Reaches m 24 2
  pub polled : wake_is_due m.trace ≡ true → how_often Event.FuturePollBegins m.trace + 1 ≤ how_often Event.FuturePollBegins reaches.now.trace

no_wake_there : (a : Bool) → a ≡ true → a ≡ false → (n k : ℕ) → n + 1 ≤ k
no_wake_there a e f n k = absurd (cc)

with_run : (m : Machine) → InOrder m → (r : Runs m) → InOrder r.polled → FromNoCall m
with_run m h r h1 =
    let on = onward r.polled r.rest.steps r.rest.now h1 r.rest.leads in
    let e = r.rest in
    record {
      reaches = record {
        steps = r.steps ++ e.steps;
        now = e.now;
        leads = leads_on m r.polled e.now r.steps e.steps r.leads e.leads;
        short = omega (arith, length_both r.steps e.steps, r.short, e.short);
        begun = omega (arith, r.begun, e.begun);
        only_runs = omega (arith, runs_both r.steps e.steps, r.only_runs, e.only_runs);
        none_in_progress = e.none_in_progress;
        no_runnable = e.no_runnable;
      };
      polled = λ due. omega (arith, on.starts, r.starts);
    }

due_open : (due c : Bool) (w : State) → (due ≡ true → (w.scheduled ≡ true) × (is_open w ≡ true)) → w.closed ≡ true → due ≡ false
due_open due c w e f = grind arith

by_closed : (m : Machine) → InOrder m → NoCallInProgress m → (i : ℕ) → slice_get m.parties i ≡ Some (At Runnable) → (b : Bool) → m.word.closed ≡ b
    → FromNoCall m
by_closed m h none_in_progress i e true closed = record {
  reaches = more m 10 1 24 2 (omega arith) (omega arith) (closed_run m h none_in_progress closed i e);
  polled = λ due. no_wake_there (wake_is_due m.trace) due (due_open (wake_is_due m.trace) true m.word h.holds.holds.due closed) _ _;
}
by_closed m h none_in_progress i e false opened = let r = open_run m h none_in_progress opened i e in with_run m h r (in_order m r.steps r.polled h r.leads)

from_no_call : (m : Machine) → InOrder m → NoCallInProgress m → RunnableIn m.parties → FromNoCall m
from_no_call m h none_in_progress (NoneFound none) = record {
  reaches = to_no_runnable m none_in_progress none 24 2;
  polled = λ due. no_wake_there (wake_is_due m.trace) due (is_at_rest m h.holds none_in_progress none).no_wake_due _ _;
}
from_no_call m h none_in_progress (Found i e) = by_closed m h none_in_progress i e m.word.closed refl

due_after : (m s now : Machine) → how_often Event.FuturePollBegins m.trace ≤ how_often Event.FuturePollBegins s.trace → IsDue s.word s.trace
    → (wake_is_due s.trace ≡ true → how_often Event.FuturePollBegins s.trace + 1 ≤ how_often Event.FuturePollBegins now.trace)
    → (how_often Event.FuturePollBegins m.trace + 1 ≤ how_often Event.FuturePollBegins now.trace) ⊎ (is_open s.word ≡ false)
due_after m s now starts (inl due) polled = inl (omega (arith, polled due, starts))
due_after m s now starts (inr over) polled = inr over

pub comes : (m : Machine) → InOrder m → ComesToRest m
comes m h =
    let s = end_calls m h in
    let on = onward m s.steps s.now h s.leads in
    let h1 : InOrder s.now = in_order m s.steps s.now h s.leads in
    let f = from_no_call s.now h1 s.none_in_progress (find_runnable s.now.parties) in
    let r = f.reaches in
    let h2 : InOrder r.now = in_order s.now r.steps r.now h1 r.leads in
    record {
      ending = s;
      runs = r.steps;
      now = r.now;
      leads = r.leads;
      short = r.short;
      begun = omega (arith, r.begun, s.begun);
      only_runs = omega (arith, r.only_runs, s.begun);
      none_in_progress = r.none_in_progress;
      no_runnable = r.no_runnable;
      at_rest = is_at_rest r.now h2.holds r.none_in_progress r.no_runnable;
      polled = λ due. due_after m s.now r.now on.starts (on.due s.begun (inl due)) f.polled;
    }

pub all_come_to_rest : AllComeToRest
all_come_to_rest limit steps m e = comes m (subst StaysInOrder e (always_in_order limit steps))

-- whatever is done meanwhile
by_due : (now : Machine) → InOrder now → NoCallInProgress now → IsDue now.word now.trace → (PollsNext now) ⊎ (is_open now.word ≡ false)
by_due now h none_in_progress (inl due) = inl ((polled now h.holds none_in_progress due).1)
by_due now h none_in_progress (inr over) = inr over

pub due_wakes_stay : DueWakesStay
due_wakes_stay limit steps m e due later now f same =
    let h : InOrder m = subst StaysInOrder e (always_in_order limit steps) in
    let still : IsDue now.word now.trace = (onward m later now h f).due same (inl due) in
    record { due = still; polled = λ none_in_progress. by_due now (in_order m later now h f) none_in_progress still }

comes_one : (p : Position) → bit (has_runnable p) ≡ queued_of p
comes_one p = grind arith

comes_all : (ps : List Position) → how_many has_runnable ps ≡ total queued_of ps
comes_all [] = refl
comes_all (p ∷ ps) = omega (arith, comes_one p, comes_all ps)

pub closed_makes_no_runnable : ClosedMakesNoRunnable
closed_makes_no_runnable limit steps m e closed later now f =
    let on = (onward m later now (subst StaysInOrder e (always_in_order limit steps)) f).closed closed in
    (on.0, omega (arith, on.1, comes_all m.parties, comes_all now.parties))

bit_of : (b : Bool) (n : ℕ) → b ≡ false → bit b ≡ n → n ≡ 0
bit_of true n e f = cc
bit_of false n e f = sym f

idle_at_rest : (now : Machine) → InOrder now → NoCallInProgress now → IsUnscheduled now.word → IsAtRest now ⊎ (now.word.closed ≡ true)
idle_at_rest now h none_in_progress (inr closed) = inr closed
idle_at_rest now h none_in_progress (inl idle) =
    inl (is_at_rest now h.holds none_in_progress (runnables now none_in_progress ∙ bit_of now.word.scheduled (census now.parties).queued idle (stands_still now h.holds none_in_progress).1))

pub runs_lead_to_rest : RunsLeadToRest
runs_lead_to_rest limit steps m e idle later now f same none_in_progress =
    let h : InOrder m = subst StaysInOrder e (always_in_order limit steps) in
    idle_at_rest now (in_order m later now h f) none_in_progress ((onward m later now h f).idle same (inl idle))

pub closed_leads_to_rest : ClosedLeadsToRest
closed_leads_to_rest limit steps m e closed none later now f none_in_progress =
    let h : InOrder m = subst StaysInOrder e (always_in_order limit steps) in
    let on = (onward m later now h f).closed closed in
    is_at_rest now (in_order m later now h f).holds none_in_progress (omega (arith, on.1, comes_all m.parties, none, queued_all now.parties, runnables now none_in_progress))
