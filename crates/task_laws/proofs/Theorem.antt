-- The laws hold after every list of steps that the machine allows.
use Rattle.std.proofs.Common.{◌≡◌, ℕ, ◌+◌, ◌≤◌, ◌⊎◌, Bool, true, false, not, ◌&&◌, ◌||◌, cond, eqb, List, [], ◌∷◌, Some, None, refl, subst, arith}
use Rattle.std.proofs.lemmas.Bool.Decides.{nat_tests}
use Rattle.task_laws.proofs.Vocabulary.{State, bit, is_open, Event, Position, Slots, Machine, how_many, count, is_output_end, how_often, NobodyIsLeft, no_call_is_left, pending_poll, was_woken, is_waker, is_runner, owns_future, owns_output, owns_awaiter, Laws, LawsHold}
use Rattle.task_laws.proofs.Census.{Census, weigh, census, calls, runs, closers}
use Rattle.task_laws.proofs.Invariant.{Holds}
use Rattle.task_laws.proofs.Awaiting.{Awaiting, await, awaiting, Fits, fits}
use Rattle.task_laws.proofs.Handshake.{HandshakeHolds}
use Rattle.task_laws.proofs.Derived.{one_poller, no_wake_lost, makings, over_busy, over_emptied, over_future, over_outputs, ends_future, ends_emptied, ends_outputs}
use Rattle.task_laws.proofs.Runs.{Invariant, Stays, always}

-- the counts of the theorem are those of the census
waker_one : (p : Position) → bit (is_waker p) ≡ (weigh p).wakers
waker_one p = grind arith

runner_one : (p : Position) → bit (is_runner p) ≡ (weigh p).queued + runs (weigh p) + closers (weigh p) + (weigh p).finishing + (weigh p).outputs
runner_one p = grind arith

future_one : (p : Position) → bit (owns_future p) ≤ runs (weigh p) + closers (weigh p)
future_one p = grind arith

output_one : (p : Position) → bit (owns_output p) ≡ (weigh p).unstored + (weigh p).stored + (weigh p).outputs + (weigh p).claims
output_one p = grind arith

awaiter_one : (i : ℕ) (p : Position) → bit (owns_awaiter p) ≡ (await i p).run_takers + (await i p).task_takers + (await i p).registering + (weigh p).emptiers
awaiter_one i p = grind arith

pub wakers : (ps : List Position) → how_many is_waker ps ≡ (census ps).wakers
wakers [] = refl
wakers (p ∷ ps) = omega (arith, waker_one p, wakers ps)

pub runners : (ps : List Position) → how_many is_runner ps ≡ (census ps).queued + runs (census ps) + closers (census ps) + (census ps).finishing + (census ps).outputs
runners [] = refl
runners (p ∷ ps) = omega (arith, runner_one p, runners ps)

futures : (ps : List Position) → how_many owns_future ps ≤ runs (census ps) + closers (census ps)
futures [] = omega arith
futures (p ∷ ps) = omega (arith, future_one p, futures ps)

outputs : (ps : List Position) → how_many owns_output ps ≡ (census ps).unstored + (census ps).stored + (census ps).outputs + (census ps).claims
outputs [] = refl
outputs (p ∷ ps) = omega (arith, output_one p, outputs ps)

awaiters : (i : ℕ) (ps : List Position) → how_many owns_awaiter ps ≡ (awaiting i ps).run_takers + (awaiting i ps).task_takers + (awaiting i ps).registering + (census ps).emptiers
awaiters i [] = refl
awaiters i (p ∷ ps) = omega (arith, awaiter_one i p, awaiters i ps)

one_output : (limit : ℕ) (w : State) (slots : Slots) (t : List Event) (c : Census) → Holds limit w slots t c → c.unstored + c.stored + c.outputs + c.claims ≤ 1
one_output limit w slots t c h = grind arith

one_awaiter : (limit i : ℕ) (w : State) (slots : Slots) (t : List Event) (c : Census) (b : Awaiting) → Holds limit w slots t c → HandshakeHolds i w slots t b → Fits c b → b.run_takers + b.task_takers + b.registering + c.emptiers ≤ 1
one_awaiter limit i w slots t c b h k f = owner w c b (how_often Event.Empties t) h.references h.task h.emptied k.registering k.taking f.run_takers f.task_takers
  where
    owner : (w : State) (c : Census) (b : Awaiting) (m : ℕ) → w.references ≡ c.queued + runs c + closers c + c.finishing + c.outputs + c.wakers → c.tasks ≡ bit w.task
        → m + c.emptiers + c.orphans ≡ cond w.task 0 (bit (eqb w.references 0)) → b.registering ≡ bit w.registering → b.run_takers + b.task_takers ≡ cond w.registering 0 (bit w.notifying)
        → b.run_takers ≤ c.finishing → b.task_takers + b.registering ≤ c.tasks → b.run_takers + b.task_takers + b.registering + c.emptiers ≤ 1
    owner w c b m e1 e2 e3 e4 e5 e6 e7 = grind (arith, nat_tests)

-- the output comes only once the future was dropped
one_value : (limit : ℕ) (w : State) (slots : Slots) (t : List Event) (c : Census) → Holds limit w slots t c → slots.future ≡ true → slots.output ≡ false
one_value limit w slots t c h = apart w slots c (how_often Event.FutureReady t) (count is_output_end t) h.future h.output h.readies h.outputs h.running h.scheduled h.completed
  where
    apart : (w : State) (slots : Slots) (c : Census) (readies ends : ℕ)
        → bit slots.future ≡ c.queued + c.starting + c.polling + c.pending + c.ready + c.in_hand + cond (w.running || w.scheduled) 0 (bit (is_open w))
        → bit slots.output ≡ c.stored + c.outputs + c.claims + bit (w.completed && not w.closed)
        → readies ≡ bit w.completed + c.ready + c.unstored + c.stored → readies ≡ ends + bit slots.output + c.ready + c.unstored
        → runs c ≡ bit w.running → c.queued + closers c ≡ cond w.running 0 (bit w.scheduled) → (w.completed ≡ true → (w.running ≡ false) × (w.scheduled ≡ false))
        → slots.future ≡ true → slots.output ≡ false
    apart w slots c readies ends future output made ended running scheduled completed there = grind arith

-- no awaiter is forgotten
woken_now : (limit i : ℕ) (w : State) (slots : Slots) (t : List Event) (c : Census) (b : Awaiting) → Holds limit w slots t c → HandshakeHolds i w slots t b → Fits c b
    → no_call_is_left t → how_often Event.TaskGivenUp t ≡ 0 → pending_poll t ≡ Some i → (1 ≤ how_often Event.Completes t) ⊎ (1 ≤ how_often Event.FutureDropped t) → was_woken i t ≡ true
woken_now limit i w slots t c b h k f idle task p over =
    let busy : calls c ≡ 0 = omega (arith, h.calls_left, idle) in
    let tasks : c.tasks ≡ 1 = omega (arith, h.task_left, task) in
    let keeper : 1 ≤ b.keepers = omega (arith, f.tasks) in
    woken w slots c b (was_woken i t) busy tasks (k.kept keeper p) f.hands f.to_wake f.lookouts f.run_takers f.shaking k.seen k.registering k.taking h.task h.running h.scheduled h.future h.completed (gone (how_often Event.Completes t) (how_often Event.FutureDropped t) w slots over h.completes h.dropped)
  where
    gone : (n d : ℕ) (w : State) (slots : Slots) → (1 ≤ n) ⊎ (1 ≤ d) → n ≡ bit w.completed → d + bit slots.future ≡ 1 → (w.completed ≡ true) ⊎ (slots.future ≡ false)
    gone n d w slots o e f = grind arith

    woken : (w : State) (slots : Slots) (c : Census) (b : Awaiting) (awake : Bool) → calls c ≡ 0 → c.tasks ≡ 1 → (awake ≡ true) ⊎ ((slots.awaiter ≡ Some i) × (w.awaiter ≡ true)) ⊎ (1 ≤ b.to_wake)
        → b.hands ≤ calls c → b.to_wake ≤ b.hands → b.lookouts ≤ calls c → b.run_takers ≤ c.finishing → b.task_takers + b.registering ≤ calls c
        → (w.awaiter ≡ true → slots.future ≡ false → w.task ≡ true → ((w.running || w.scheduled) || (w.registering || w.notifying)) ≡ true ⊎ (1 ≤ b.lookouts))
        → b.registering ≡ bit w.registering → b.run_takers + b.task_takers ≡ cond w.registering 0 (bit w.notifying)
        → c.tasks ≡ bit w.task → runs c ≡ bit w.running → c.queued + closers c ≡ cond w.running 0 (bit w.scheduled)
        → bit slots.future ≡ c.queued + c.starting + c.polling + c.pending + c.ready + c.in_hand + cond (w.running || w.scheduled) 0 (bit (is_open w))
        → (w.completed ≡ true → (w.running ≡ false) × (w.scheduled ≡ false))
        → (w.completed ≡ true) ⊎ (slots.future ≡ false) → awake ≡ true
    woken w slots c b awake e1 e2 e3 e4 e5 e6 e7 e8 e9 e10 e11 e12 e13 e14 e15 e16 e17 = grind arith

-- nothing is in the cell when no handle and no call is left
no_bit : (x : Bool) → bit x ≡ 0 → x ≡ false
no_bit true e = cc
no_bit false e = refl

over_awaiter : (m : Machine) → Invariant m → NobodyIsLeft m.trace → m.slots.awaiter ≡ None
over_awaiter m h over = left (how_often Event.Empties m.trace) m.slots (over_emptied m.limit m.word m.slots m.trace (census m.parties) h.holds over) (h.shakes 0).left_empty
  where
    left : (n : ℕ) (slots : Slots) → n ≡ 1 → (n ≡ 0) ⊎ (slots.awaiter ≡ None) → slots.awaiter ≡ None
    left n slots e f = grind arith

over_clones : (m : Machine) → Invariant m → NobodyIsLeft m.trace → (i : ℕ)
    → how_often (Event.CloneEnded i) m.trace ≡ how_often (Event.Cloned i) m.trace
over_clones m h over i =
    let e = rw (over_awaiter m h over) at (h.shakes i).clones in
    omega (arith, e, (over_busy m.limit m.word m.slots m.trace (census m.parties) h.holds over).0, (fits i m.parties).hands)

all_gone : (slots : Slots) → slots.future ≡ false → slots.output ≡ false → slots.awaiter ≡ None → slots ≡ record { future = false; output = false; awaiter = None }
all_gone slots e f g = λ i. record { future = e i; output = f i; awaiter = g i }

over_slots : (m : Machine) → Invariant m → NobodyIsLeft m.trace → m.slots ≡ record { future = false; output = false; awaiter = None }
over_slots m h over =
    let future : m.slots.future ≡ false = no_bit m.slots.future (omega (arith, h.holds.dropped, over_future m.limit m.word m.slots m.trace (census m.parties) h.holds over)) in
    let output : m.slots.output ≡ false = no_bit m.slots.output (omega (arith, h.holds.outputs, over_outputs m.limit m.word m.slots m.trace (census m.parties) h.holds over)) in
    all_gone m.slots future output (over_awaiter m h over)

pub laws_of : (m : Machine) → Invariant m → Laws m
laws_of m h = record {
  one_poller = one_poller m.limit m.word m.slots m.trace (census m.parties) h.holds;
  ends = record {
    future_once = ends_future m.limit m.word m.slots m.trace (census m.parties) h.holds;
    emptied_once = ends_emptied m.limit m.word m.slots m.trace (census m.parties) h.holds;
    outputs = ends_outputs m.limit m.word m.slots m.trace (census m.parties) h.holds;
    clones = λ i. let k = h.shakes i in (omega (arith, k.clones), k.once);
  };
  all_ended = λ over. record {
    future = over_future m.limit m.word m.slots m.trace (census m.parties) h.holds over;
    emptied = over_emptied m.limit m.word m.slots m.trace (census m.parties) h.holds over;
    outputs = over_outputs m.limit m.word m.slots m.trace (census m.parties) h.holds over;
    clones = over_clones m h over;
  };
  wakes = no_wake_lost m.limit m.word m.slots m.trace (census m.parties) h.holds;
  awaiters = record {
    woken = λ i. woken_now m.limit i m.word m.slots m.trace (census m.parties) (awaiting i m.parties) h.holds (h.shakes i) (fits i m.parties);
    ready = (h.shakes 0).answers;
  };
  makings = makings m.limit m.word m.slots m.trace (census m.parties) h.holds;
  references = omega (arith, wakers m.parties, runners m.parties, h.holds.references);
  one_runner = omega (arith, runners m.parties, h.holds.one);
  within_limit = omega (arith, h.holds.references, h.holds.one, h.holds.few);
  future = omega (arith, futures m.parties, h.holds.one);
  output = omega (arith, outputs m.parties, one_output m.limit m.word m.slots m.trace (census m.parties) h.holds);
  awaiter = omega (arith, awaiters 0 m.parties, one_awaiter m.limit 0 m.word m.slots m.trace (census m.parties) (awaiting 0 m.parties) h.holds (h.shakes 0) (fits 0 m.parties));
  never_both = one_value m.limit m.word m.slots m.trace (census m.parties) h.holds;
  empty = over_slots m h;
}

pub laws_hold : LawsHold
laws_hold limit steps m e = laws_of m (subst Stays e (always limit steps))
