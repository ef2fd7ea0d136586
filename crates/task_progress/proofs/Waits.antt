-- A party in a call may make its next act.
use Rattle.std.proofs.Common.{◌≡◌, ℕ, ◌+◌, ◌⊎◌, zero, suc, true, false, refl, sym, subst, List, [], ◌∷◌, ◌++◌, Option, Some, None, arith}
use Rattle.std.specs.Prelude.{is_some, slice_get, slice_set}
use Rattle.task_progress.proofs.Vocabulary.{State, ClosedRun, Position, Pending, OutputStored, PendingFutureDropped, FutureInHand, FutureGone, GivingUp, Notifier, HasClone, Registered, TookBack, SawOutput}
use Rattle.task_progress.proofs.Vocabulary.{Detacher, Act, Slots, Scene, Outcome, rule, Machine, Step, opening, scene, after, moves, step, run_from, run, Event, Census, plus, weigh, census, runs, closers, Awaiting, await, awaiting, Holds, HandshakeHolds, Invariant, Stays, moves_stays, opens, others, split, split_awaiting, rules, InEach, task, scheduled, completed, closed, notifying, registering, by_flag}
use Rattle.task_progress.specs.StepsLeft.{total, in_call}
use Rattle.task_progress.specs.Waiting.{next_act, NoCallWaits}
use Rattle.task_progress.proofs.Sums.{total_put}
use Rattle.task_progress.proofs.Relied.{claims, detaches, ReliedOn, Around, counted_as_task, ReliedAfter, relied_by_rule}

pub around : (limit : ℕ) (w : State) (slots : Slots) (t : List Event) (c : Census) (b : Awaiting) → Holds limit w slots t c → HandshakeHolds 0 w slots t b
    → Around w c b
around limit w slots t c b h k = record {
  task = h.task;
  running = h.running;
  scheduled = h.scheduled;
  completed = h.completed;
  orphan = h.orphan;
  registering = k.registering;
  taking = k.taking;
}

-- the party at p, among others
pub total_split : (f : Position → ℕ) (ps : List Position) (i : ℕ) (p : Position) → slice_get ps i ≡ Some p → total f ps ≡ f p + total f (others ps i)
total_split f [] i p e = cc
total_split f (x ∷ ps) zero p e = let same : x ≡ p = cc in rw same refl
total_split f (x ∷ ps) (suc i) p e = omega (arith, total_split f ps i p e)

-- the invariant of the machine: that of the laws, and this one
pub record InOrder (m : Machine) : Type 0 where
  pub holds : Invariant m
  pub relied : ReliedOn m.word (total claims m.parties) (total detaches m.parties)

abbrev pub StaysInOrder : Option Machine → Type 0
StaysInOrder None = Unit {0}
StaysInOrder (Some m) = InOrder m

put_rest : (f : Position → ℕ) (ps : List Position) (i : ℕ) (p q : Position) (born : List Position) → slice_get ps i ≡ Some p
    → total f (slice_set ps i q ++ born) ≡ total f (q ∷ born) + total f (others ps i)
put_rest f ps i p q born e = omega (arith, total_put f ps i p q born e, total_split f ps i p e)

relied_at : (w : State) (a b x y : ℕ) → a ≡ x → b ≡ y → ReliedOn w a b → ReliedOn w x y
relied_at w a b x y e f h = subst (λ (n : ℕ). ReliedOn w n y) e (subst (λ (n : ℕ). ReliedOn w a n) f h)

after_relied : (m : Machine) (i : ℕ) (p : Position) (o : Option Outcome) → slice_get m.parties i ≡ Some p → Stays (after m i p o)
    → ReliedAfter (total claims (others m.parties i)) (total detaches (others m.parties i)) o
    → StaysInOrder (after m i p o)
after_relied m i p None e holds relied = tt
after_relied m i p (Some o) e holds relied = record {
  holds = holds;
  relied = relied_at o.word _ _ _ _ (sym (put_rest claims m.parties i p o.next o.born e)) (sym (put_rest detaches m.parties i p o.next o.born e)) relied;
}

moves_relied : (m : Machine) (i : ℕ) (act : Act) (at : Option Position) → slice_get m.parties i ≡ at → InOrder m → Stays (moves m i act at)
    → StaysInOrder (moves m i act at)
moves_relied m i act None e h holds = tt
moves_relied m i act (Some p) e h holds =
    let h1 = subst (Holds m.limit m.word m.slots m.trace) (split m.parties i p e) h.holds.holds in
    let k1 = subst (HandshakeHolds 0 m.word m.slots m.trace) (split_awaiting 0 m.parties i p e) (h.holds.shakes 0) in
    let relied = relied_at m.word _ _ _ _ (total_split claims m.parties i p e) (total_split detaches m.parties i p e) h.relied in
    after_relied m i p (rule (scene m) act p) e holds
    (relied_by_rule act p (scene m) (census (others m.parties i)) (awaiting 0 (others m.parties i)) _ _ (counted_as_task (others m.parties i)) (around m.limit m.word m.slots m.trace _ _ h1 k1) relied)

pub step_in_order : (m : Machine) (s : Step) → InOrder m → StaysInOrder (step m s)
step_in_order m s h = moves_relied m s.party s.act (slice_get m.parties s.party) refl h (moves_stays m s.party s.act (slice_get m.parties s.party) refl h.holds)

pub run_in_order : (m : Option Machine) (steps : List Step) → StaysInOrder m → StaysInOrder (run_from m steps)
run_in_order m [] h = h
run_in_order None (s ∷ steps) h = tt
run_in_order (Some m) (s ∷ steps) h = run_in_order (step m s) steps (step_in_order m s h)

opens_relied : (limit : ℕ)
    → ReliedOn (opening limit).word (total claims (opening limit).parties) (total detaches (opening limit).parties)
opens_relied limit = grind arith

pub always_in_order : (limit : ℕ) (steps : List Step) → StaysInOrder (run limit steps)
always_in_order limit steps = run_in_order (Some (opening limit)) steps (record { holds = opens limit; relied = opens_relied limit })

-- what such a party's row has to show
abbrev Makes : Position → Scene → Type 0
Makes p scene = (rest : Census) (back claimed detached : ℕ)
    → scene.word.references ≡ (plus (weigh p) rest).queued + runs (plus (weigh p) rest) + closers (plus (weigh p) rest) + (plus (weigh p) rest).finishing + (plus (weigh p) rest).outputs + (plus (weigh p) rest).wakers
    → (scene.word.closed ≡ false → (plus (weigh p) rest).cleared ≡ 0) → ((await 0 p).takers_back + back ≡ 0) ⊎ ((scene.word.notifying ≡ true) × (scene.slots.awaiter ≡ None))
    → ReliedOn scene.word (claims p + claimed) (detaches p + detached)
    → in_call p ≡ 1 → is_some (rule scene (next_act scene.word p) p) ≡ true

makes_row : (p : Position) → InEach (Makes p)
makes_row Pending = by_flag closed (grind rules) (by_flag scheduled (grind rules) (by_flag task (grind rules) (grind rules)))
makes_row OutputStored = by_flag task (grind rules) (grind rules)
makes_row PendingFutureDropped = by_flag closed (grind rules) (grind rules)
makes_row (FutureInHand ClosedRun) = grind rules
makes_row (FutureGone ClosedRun) = grind rules
makes_row (GivingUp hand answer) = by_flag task (grind rules) (grind rules)
makes_row (Notifier way) = by_flag notifying (by_flag registering (grind rules) (grind rules)) (by_flag registering (grind rules) (grind rules))
makes_row (HasClone i) = by_flag notifying (grind rules) (grind rules)
makes_row (Registered i) = by_flag notifying (grind rules) (grind rules)
makes_row (TookBack i) = by_flag notifying (grind rules) (grind rules)
makes_row (SawOutput i) = by_flag completed (by_flag closed (grind rules) (grind rules)) (by_flag closed (grind rules) (grind rules))
makes_row Detacher = by_flag closed (by_flag completed (grind rules) (grind rules)) (grind rules)
makes_row p = grind rules

some_after : (m : Machine) (i : ℕ) (p : Position) (o : Option Outcome) → is_some o ≡ true → is_some (after m i p o) ≡ true
some_after m i p None e = cc
some_after m i p (Some o) e = refl

some_moves : (m : Machine) (i : ℕ) (act : Act) (at : Option Position) (p : Position) → at ≡ Some p → is_some (rule (scene m) act p) ≡ true
    → is_some (moves m i act at) ≡ true
some_moves m i act None p e h = cc
some_moves m i act (Some q) p e h = let same : q ≡ p = cc in rw same (some_after m i p (rule (scene m) act p) h)

pub may_step : (m : Machine) → InOrder m → (i : ℕ) (p : Position) → slice_get m.parties i ≡ Some p → in_call p ≡ 1
    → is_some (step m (record { party = i; act = next_act m.word p })) ≡ true
may_step m h i p e busy =
    let h1 = subst (Holds m.limit m.word m.slots m.trace) (split m.parties i p e) h.holds.holds in
    let k1 = subst (HandshakeHolds 0 m.word m.slots m.trace) (split_awaiting 0 m.parties i p e) (h.holds.shakes 0) in
    let relied = relied_at m.word _ _ _ _ (total_split claims m.parties i p e) (total_split detaches m.parties i p e) h.relied in
    some_moves m i (next_act m.word p) (slice_get m.parties i) p e ((makes_row p).at (scene m) (census (others m.parties i)) _ _ _ h1.references (λ is. (h1.closers_closed is).1) k1.taken_back relied busy)

pub no_call_waits : NoCallWaits
no_call_waits limit steps m e = may_step m (subst StaysInOrder e (always_in_order limit steps))
