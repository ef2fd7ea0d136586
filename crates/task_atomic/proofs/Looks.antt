-- A poll that has registered finds its awaiter in the slot at its last look, or the task done.
use Rattle.std.proofs.Common.{◌≡◌, ℕ, zero, suc, ◌+◌, ◌≤◌, Bool, true, false, not, ◌&&◌, ◌||◌, ◌⊎◌, eqb, List, [], ◌∷◌, ◌++◌, Option, Some, None, refl, sym, ◌∙◌, subst, ⊎_elim, arith}
use Rattle.std.specs.Prelude.{slice_get, slice_set, if◌then◌else◌}
use Rattle.std.proofs.lemmas.Bool.Decides.{nat_tests}
use Rattle.task_core.specs.Word.{State, bit, is_open}
use Rattle.task_core.specs.declared.acts.Act.{Act}
use Rattle.task_core.specs.declared.acts.Act.TheVariants.{Look}
use Rattle.task_laws.specs.declared.positions.Position.{Position}
use Rattle.task_laws.specs.declared.positions.Position.TheVariants.{At, Deliverer, Notifier, Taker, Releaser, AwaiterInHand, Looking, Answering, CloneInHand, UnusedClone, Registered}
use Rattle.task_laws.specs.declared.positions.PollAnswer.TheVariants.{IsPending}
use Rattle.task_laws.specs.declared.positions.NotifyingCall.TheVariants.{OfCancel}
use Rattle.task_laws.specs.declared.positions.Rest.TheVariants.{Task}
use Rattle.task_laws.specs.declared.positions.OnceDelivered.TheVariants.{ThenNotifies}
use Rattle.task_laws.specs.Event.{Event}
use Rattle.task_laws.specs.Laws.{pending_poll}
use Rattle.task_laws.specs.Machine.{Machine, Step, begins, after, moves, scene, step, opening, run, run_from}
use Rattle.task_laws.specs.Table.{Outcome, Scene, Slots, rule}
use Rattle.task_laws.proofs.Census.{Census, census, plus, weigh, runs, closers}
use Rattle.task_laws.proofs.Awaiting.{Awaiting, await, awaiting, join, Fits, fits}
use Rattle.task_laws.proofs.Invariant.{Holds}
use Rattle.task_laws.proofs.Handshake.{HandshakeHolds}
use Rattle.task_laws.proofs.Rows.{Row, starts_run, Shows, by_rows}
use Rattle.task_laws.proofs.Runs.{Invariant, Stays, moves_stays, opens, others, split, split_awaiting}
use Rattle.task_laws.proofs.Scenes.{InEach, rules}
use Rattle.task_atomic.specs.Registered.{PendingIsRegistered, OpenTaskKeepsAwaiter}
use Rattle.task_atomic.proofs.Atoms.{rests}

-- neither a Runnable nor a run is left, and the task is over
abbrev done : State → Bool
done w = not w.scheduled && not w.running && (w.completed || w.closed)

-- how many parties are at the last look of poll k, have met a notifier while they registered, or take the awaiter in a cancel
pub record Lookers : Type 0 where
  pub looking : ℕ
  pub met : ℕ
  pub cancelling : ℕ

abbrev nobody : Lookers
nobody = record { looking = 0; met = 0; cancelling = 0 }

abbrev together : Lookers → Lookers → Lookers
together a b = record { looking = a.looking + b.looking; met = a.met + b.met; cancelling = a.cancelling + b.cancelling }

abbrev looks : ℕ → Position → Lookers
looks k (Looking j) = record nobody { looking = bit (eqb k j) }
looks k (Answering j IsPending) = record nobody { looking = bit (eqb k j) }
looks k (CloneInHand j) = record nobody { met = 1 }
looks k (UnusedClone j) = record nobody { met = 1 }
looks k (Deliverer woken (ThenNotifies n)) = record nobody { cancelling = 1 }
looks k (Notifier (OfCancel n)) = record nobody { cancelling = 1 }
looks k (Taker (OfCancel n)) = record nobody { cancelling = 1 }
looks k (Releaser hand (OfCancel n)) = record nobody { cancelling = 1 }
looks k (AwaiterInHand j (OfCancel n)) = record nobody { cancelling = 1 }
looks k _ = nobody

abbrev lookers : ℕ → List Position → Lookers
lookers k [] = nobody
lookers k (p ∷ ps) = together (looks k p) (lookers k ps)

-- each of them is the Task
few_one : (k : ℕ) (p : Position) → (looks k p).looking + (looks k p).met + (looks k p).cancelling ≤ (weigh p).tasks
few_one k p = grind arith

few : (k : ℕ) (ps : List Position) → (lookers k ps).looking + (lookers k ps).met + (lookers k ps).cancelling ≤ (census ps).tasks
few k [] = omega arith
few k (p ∷ ps) = let a = few_one k p in let b = few k ps in omega (arith, a, b)

pub record Registers (k : ℕ) (w : State) (slots : Slots) (t : List Event) (a : Awaiting) (b : Lookers) : Type 0 where
  pub noted : (w.registering && w.notifying) ≡ true → done w ≡ true
  pub met : 1 ≤ b.met → done w ≡ true
  pub cancels : 1 ≤ b.cancelling → is_open w ≡ false
  pub stands : 1 ≤ b.looking → (done w ≡ true) ⊎ ((slots.awaiter ≡ Some k) × (w.awaiter ≡ true))
  pub kept : 1 ≤ a.keepers → pending_poll t ≡ Some k → is_open w ≡ true → (slots.awaiter ≡ Some k) × (w.awaiter ≡ true)

-- what it rests on
pub record Around (w : State) (c : Census) (a : Awaiting) : Type 0 where
  pub tasks : c.tasks ≡ bit w.task
  pub ended : 1 ≤ c.finishing + c.outputs → done w ≡ true
  pub orphans : 1 ≤ c.orphans + c.emptiers → w.task ≡ false
  pub queued : 1 ≤ c.queued → w.scheduled ≡ true
  pub running : 1 ≤ runs c → w.running ≡ true
  pub closing : 1 ≤ closers c → (w.closed ≡ true) × (w.running ≡ false)
  pub registering : a.registering ≡ bit w.registering
  pub taking : a.run_takers + a.task_takers ≡ (if w.registering then 0 else bit w.notifying)

around : (limit i : ℕ) (w : State) (slots : Slots) (t : List Event) (c : Census) (a : Awaiting) → Holds limit w slots t c → HandshakeHolds i w slots t a → Around w c a
around limit i w slots t c a h s = record {
  tasks = h.task;
  ended = grind arith;
  orphans = grind arith;
  queued = grind arith;
  running = grind arith;
  closing = grind arith;
  registering = s.registering;
  taking = s.taking;
}

abbrev Own : Position → Slots → Type 0
Own (Registered j) slots = slots.awaiter ≡ Some j
Own _ slots = Unit {0}

own : (limit i : ℕ) (w : State) (slots : Slots) (t : List Event) (p : Position) (rest : Census) (more : Awaiting) → Fits rest more → Holds limit w slots t (plus (weigh p) rest) → HandshakeHolds i w slots t (join (await i p) more) → Own p slots
own limit i w slots t (Registered j) rest more f h s = grind arith
own limit i w slots t p rest more f h s = tt

-- it holds of what the party at p leaves among the others
abbrev RegistersKept : ℕ → List Event → Awaiting → Lookers → Position → Option Outcome → Type 0
RegistersKept k t a rest p None = Unit {0}
RegistersKept k t a rest p (Some left) = Registers k left.word left.slots (left.told ++ (begins p ++ t)) (join (awaiting k (left.next ∷ left.born)) a) (together (lookers k (left.next ∷ left.born)) rest)

-- a row keeps it
abbrev KeepsRegisters : Act → Position → Scene → Option Outcome → Type 0
KeepsRegisters act p scene left = (k : ℕ) (t : List Event) (c : Census) (a : Awaiting) (rest : Lookers) → Fits c a → rest.looking + rest.met + rest.cancelling ≤ c.tasks → Own p scene.slots → Around scene.word (plus (weigh p) c) (join (await k p) a)
    → Registers k scene.word scene.slots t (join (await k p) a) (together (looks k p) rest) → RegistersKept k t a rest p left

registers_row : (act : Act) (p : Position) (put : Scene → Scene) → Row act p put → InEach (λ scene. Shows KeepsRegisters act p (put scene))
registers_row _ _ _ starts_run = grind rules
registers_row act p put row = grind rules

registers_by_rule : (act : Act) (p : Position) (scene : Scene) → KeepsRegisters act p scene (rule scene act p)
registers_by_rule = by_rows KeepsRegisters (λ act p scene k t c a rest fit few own around holds. tt) registers_row

lookers-append : (k : ℕ) (ps qs : List Position) → lookers k (ps ++ qs) ≡ together (lookers k ps) (lookers k qs)
lookers-append k [] qs = grind arith
lookers-append k (p ∷ ps) qs = grind (arith, lookers-append k ps qs)

split_lookers : (k : ℕ) (ps : List Position) (i : ℕ) (p : Position) → slice_get ps i ≡ Some p → lookers k ps ≡ together (looks k p) (lookers k (others ps i))
split_lookers k [] i p e = cc
split_lookers k (x ∷ ps) zero p e = cc
split_lookers k (x ∷ ps) (suc i) p e = grind (arith, split_lookers k ps i p e)

awaiting-append : (k : ℕ) (ps qs : List Position) → awaiting k (ps ++ qs) ≡ join (awaiting k ps) (awaiting k qs)
awaiting-append k [] qs = grind arith
awaiting-append k (p ∷ ps) qs = grind (arith, awaiting-append k ps qs)

put_born_awaiting : (k : ℕ) (ps : List Position) (i : ℕ) (p q : Position) (born : List Position) → slice_get ps i ≡ Some p
    → awaiting k (slice_set ps i q ++ born) ≡ join (awaiting k (q ∷ born)) (awaiting k (others ps i))
put_born_awaiting k [] i p q born e = cc
put_born_awaiting k (x ∷ ps) zero p q born e = grind (arith, awaiting-append k ps born)
put_born_awaiting k (x ∷ ps) (suc i) p q born e = grind (arith, put_born_awaiting k ps i p q born e)

put_born_lookers : (k : ℕ) (ps : List Position) (i : ℕ) (p q : Position) (born : List Position) → slice_get ps i ≡ Some p
    → lookers k (slice_set ps i q ++ born) ≡ together (lookers k (q ∷ born)) (lookers k (others ps i))
put_born_lookers k [] i p q born e = cc
put_born_lookers k (x ∷ ps) zero p q born e = grind (arith, lookers-append k ps born)
put_born_lookers k (x ∷ ps) (suc i) p q born e = grind (arith, put_born_lookers k ps i p q born e)

abbrev AllRegister : Machine → Type 0
AllRegister m = (k : ℕ) → Registers k m.word m.slots m.trace (awaiting k m.parties) (lookers k m.parties)

pub record Both (m : Machine) : Type 0 where
  pub holds : Invariant m
  pub registers : AllRegister m

abbrev BothStay : Option Machine → Type 0
BothStay None = Unit {0}
BothStay (Some m) = Both m

after_both : (m : Machine) (i : ℕ) (p : Position) (o : Option Outcome) → slice_get m.parties i ≡ Some p → Stays (after m i p o)
    → ((k : ℕ) → RegistersKept k m.trace (awaiting k (others m.parties i)) (lookers k (others m.parties i)) p o) → BothStay (after m i p o)
after_both m i p None e h l = tt
after_both m i p (Some o) e h l = record {
  holds = h;
  registers = λ k. subst (λ (b : Lookers). Registers k o.word o.slots (o.told ++ (begins p ++ m.trace)) (awaiting k (slice_set m.parties i o.next ++ o.born)) b) (sym (put_born_lookers k m.parties i p o.next o.born e))
      (subst (λ (a : Awaiting). Registers k o.word o.slots (o.told ++ (begins p ++ m.trace)) a (together (lookers k (o.next ∷ o.born)) (lookers k (others m.parties i)))) (sym (put_born_awaiting k m.parties i p o.next o.born e)) (l k));
}

moves_both : (m : Machine) (i : ℕ) (act : Act) (at : Option Position) → slice_get m.parties i ≡ at → Both m → BothStay (moves m i act at)
moves_both m i act None e h = tt
moves_both m i act (Some p) e h =
    let holds = subst (Holds m.limit m.word m.slots m.trace) (split m.parties i p e) h.holds.holds in
    let shakes : (k : ℕ) → HandshakeHolds k m.word m.slots m.trace (join (await k p) (awaiting k (others m.parties i))) =
    (λ k. subst (HandshakeHolds k m.word m.slots m.trace) (split_awaiting k m.parties i p e) (h.holds.shakes k)) in
    after_both m i p (rule (scene m) act p) e (moves_stays m i act (Some p) e h.holds)
    (λ k. registers_by_rule act p (scene m) k m.trace (census (others m.parties i)) (awaiting k (others m.parties i)) (lookers k (others m.parties i))
    (fits k (others m.parties i)) (few k (others m.parties i))
    (own m.limit k m.word m.slots m.trace p (census (others m.parties i)) (awaiting k (others m.parties i)) (fits k (others m.parties i)) holds (shakes k))
    (around m.limit k m.word m.slots m.trace (plus (weigh p) (census (others m.parties i))) (join (await k p) (awaiting k (others m.parties i))) holds (shakes k))
    (subst (λ (b : Lookers). Registers k m.word m.slots m.trace (join (await k p) (awaiting k (others m.parties i))) b) (split_lookers k m.parties i p e)
    (subst (λ (a : Awaiting). Registers k m.word m.slots m.trace a (lookers k m.parties)) (split_awaiting k m.parties i p e) (h.registers k))))

run_both : (m : Option Machine) (steps : List Step) → BothStay m → BothStay (run_from m steps)
run_both m [] h = h
run_both None (s ∷ steps) h = tt
run_both (Some m) (s ∷ steps) h = run_both (step m s) steps (moves_both m s.party s.act (slice_get m.parties s.party) refl h)

opens_registers : (limit : ℕ) → AllRegister (opening limit)
opens_registers limit k = grind (arith, nat_tests)

both_always : (limit : ℕ) (steps : List Step) → BothStay (run limit steps)
both_always limit steps = run_both (Some (opening limit)) steps (record { holds = opens limit; registers = opens_registers limit })

-- the look that answers Pending finds the task not done
pending_not_done : (m : Machine) (n : ℕ) (left : Outcome) → rule (scene m) Look (Looking n) ≡ Some left → left.next ≡ Answering n IsPending → (m.word.completed && (m.word.scheduled || m.word.running)) ≡ false → done m.word ≡ false
pending_not_done m n left is next rests = grind rules

at_looking : (k : ℕ) (ps : List Position) (i : ℕ) → slice_get ps i ≡ Some (Looking k) → 1 ≤ (lookers k ps).looking
at_looking k [] i e = absurd (cc)
at_looking k (x ∷ ps) zero e = grind arith
at_looking k (x ∷ ps) (suc i) e = let h = at_looking k ps i e in omega arith

pub pending_is_registered : PendingIsRegistered
pending_is_registered limit steps m e i n at left is next =
    let h : Both m = subst BothStay e (both_always limit steps) in
    let open_still = pending_not_done m n left is next (rests m.limit m.word m.slots m.trace (census m.parties) h.holds.holds) in
    ⊎_elim (λ (z : done m.word ≡ true). absurd (never (sym z ∙ open_still))) (λ z. z) ((h.registers n).stands (at_looking n m.parties i at))
  where
    never : true ≡ false → ⊥
    never z = cc

at_task : (k n : ℕ) (ps : List Position) (i : ℕ) → slice_get ps i ≡ Some (At (Task n)) → 1 ≤ (awaiting k ps).keepers
at_task k n [] i e = absurd (cc)
at_task k n (x ∷ ps) zero e = grind arith
at_task k n (x ∷ ps) (suc i) e = let h = at_task k n ps i e in omega arith

pub open_task_keeps_awaiter : OpenTaskKeepsAwaiter
open_task_keeps_awaiter limit steps m e is_so i n at k pending =
    let h : Both m = subst BothStay e (both_always limit steps) in (h.registers k).kept (at_task k n m.parties i at) pending is_so
