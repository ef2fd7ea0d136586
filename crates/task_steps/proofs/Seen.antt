-- What a party has seen of the task's end is so from then on.
use Rattle.std.proofs.Common.{◌≡◌, ℕ, zero, suc, ◌≤◌, eqb, Bool, true, false, not, ◌&&◌, ◌||◌, Option, Some, None, List, [], ◌∷◌, ◌++◌, sym, refl, ap, ◌∙◌, ⊎_elim, ◌⊎◌, inl, inr, cond, arith}
use Rattle.std.specs.Prelude.{slice_get}
use Rattle.std.proofs.lemmas.Bool.Decides.{nat_tests}
use mathlib.Core.Option.{some}
use lib.ListN.{get_elem?}
use Rattle.task_steps.proofs.Vocabulary.{State, is_open, Position, OrphanHolder, Act, DiscardOpen, CloseOrphan, found, written, Slots, Scene, Outcome, outcome_at, rule, Event, Machine, Step, scene, moves, after, step}
use Rattle.task_steps.proofs.Vocabulary.{Census, census, Holds, Invariant, rule_word, Deed}
use Rattle.task_steps.specs.PollScripts.{has_ended}
use Rattle.task_steps.specs.Rule.{Entry, Reaches, is_private, noted_if, deeds_of, DidLast}
use Rattle.task_steps.specs.Steps.{leaves_such, saw, saw_over, saw_closed, saw_ended}
use Rattle.task_steps.proofs.Written.{found_is}
use Rattle.task_steps.proofs.Facts.{law, counted}
use Rattle.task_steps.proofs.Explains.{next_machine}

-- a step of the machine, taken apart: where its party stood, and what the table says
record Stepped (n m : Machine) (s : Step) : Type 0 where
  at : Position
  outcome : Outcome
  here : slice_get n.parties s.party ≡ Some at
  fits : found n.limit s.act n.word ≡ true
  table : outcome_at (scene n) (written s.act n.word) s.act at ≡ Some outcome
  word : m.word ≡ written s.act n.word

after_step : (n m : Machine) (k : ℕ) (a : Act) (p : Position) (x : Option Outcome) → slice_get n.parties k ≡ Some p → rule (scene n) a p ≡ x → after n k p x ≡ Some m → Stepped n m (record { party = k; act = a })
after_step n m k a p None h r e = absurd (cc)
after_step n m k a p (Some o) h r e = let is : next_machine n k p o ≡ m = cc in let f = found_is (found n.limit a n.word) (outcome_at (scene n) (written a n.word) a p) o r in
    record { at = p; outcome = o; here = h; fits = f.0; table = f.1; word = sym (ap (λ (y : Machine). y.word) is) ∙ rule_word (scene n) a p o r }

moves_step : (n m : Machine) (k : ℕ) (a : Act) (x : Option Position) → slice_get n.parties k ≡ x → moves n k a x ≡ Some m → Stepped n m (record { party = k; act = a })
moves_step n m k a None h e = absurd (cc)
moves_step n m k a (Some p) h e = after_step n m k a p (rule (scene n) a p) h refl e

stepped : (n m : Machine) (s : Step) → step n s ≡ Some m → Stepped n m s
stepped n m s e = moves_step n m s.party s.act (slice_get n.parties s.party) refl e

-- whoever closes the task that nobody has finds it open
only_orphan : (s : Scene) (v : State) (p : Position) (o : Outcome) → outcome_at s v CloseOrphan p ≡ Some o → p ≡ OrphanHolder
only_orphan s v OrphanHolder o e = refl
only_orphan s v _ o e = absurd (cc)

at_index : {X : Type 0} (l : List X) (k : ℕ) (x : X) → slice_get l k ≡ Some x → get_elem? l k ≡ some x
at_index [] k x e = absurd (cc)
at_index (y ∷ l) zero x e = let is : y ≡ x = cc in ap (λ z. some z) is
at_index (y ∷ l) (suc k) x e = at_index l k x e

orphan_open : (limit : ℕ) (w : State) (slots : Slots) (t : List Event) (c : Census) → Holds limit w slots t c → 1 ≤ c.orphans → is_open w ≡ true
orphan_open limit w slots t c h q = ⊎_elim (λ (e : c.orphans ≡ 0). absurd (omega arith)) (λ x. x.2) h.orphan

-- the task is open where its last waker closes it
closes_open : (n m : Machine) (s : Step) → Invariant n → Stepped n m s → s.act ≡ CloseOrphan → is_open n.word ≡ true
closes_open n m s i x e = let at : x.at ≡ OrphanHolder = only_orphan (scene n) (written s.act n.word) x.at x.outcome (ap (λ a. outcome_at (scene n) (written s.act n.word) a x.at) (sym e) ∙ x.table) in
    orphan_open n.limit n.word n.slots n.trace (census n.parties) i.holds
    (counted (λ c. c.orphans) (λ a b. refl) n.parties s.party OrphanHolder (at_index n.parties s.party OrphanHolder (x.here ∙ ap (λ p. Some p) at)))

-- a task that is over stays over
stays_over : (a : Act) (w : State) → is_open w ≡ false → is_open (written a w) ≡ false
stays_over DiscardOpen w e = grind (arith, nat_tests)
stays_over a w e = grind (arith, nat_tests)

stays_closed : (a : Act) (w : State) → w.closed ≡ true → (written a w).closed ≡ true
stays_closed DiscardOpen w e = refl
stays_closed a w e = grind (arith, nat_tests)

pub left_true : (a b : Bool) → (a && b) ≡ true → a ≡ true
left_true true b e = refl
left_true false b e = e

pub right_true : (a b : Bool) → (a && b) ≡ true → b ≡ true
right_true true b e = e
right_true false b e = absurd (cc)

-- what is closed, and has neither Runnable nor run, stays so
stays_ended : (l : ℕ) (a : Act) (w : State) → found l a w ≡ true → (a ≡ CloseOrphan → is_open w ≡ true) → has_ended w ≡ true → has_ended (written a w) ≡ true
stays_ended l CloseOrphan w f o e = let opened = o refl in grind (arith, nat_tests)
stays_ended l a w f o e = grind (arith, nat_tests)

either_true : (a b : Bool) → (a || b) ≡ true → (a ≡ true) ⊎ (b ≡ true)
either_true true b e = inl refl
either_true false b e = inr e

pub true_left : (a b : Bool) → a ≡ true → (a || b) ≡ true
true_left true b e = refl
true_left false b e = absurd (cc)

pub true_right : (a b : Bool) → b ≡ true → (a || b) ≡ true
true_right true b e = refl
true_right false b e = e

pub not_true : (b : Bool) → not b ≡ true → b ≡ false
not_true true e = absurd (cc)
not_true false e = refl

-- what is true of the word once a party has seen it, where each step of the machine keeps it so
module _ (test : State → Bool) (stays : (n m : Machine) (s : Step) → Invariant n → Stepped n m s → test n.word ≡ true → test m.word ≡ true) (limit k : ℕ) where
  left_so : (a : Act) (w : State) (is_load : Bool) → leaves_such test a (cond is_load None (Some w)) ≡ true → test (written a w) ≡ true
  left_so a w true e = absurd (cc)
  left_so a w false e = e

  log_saw : (log : List Entry) (m : Machine) → Reaches limit log m → saw test (deeds_of k log) ≡ true → test m.word ≡ true
  log_saw [] m r e = absurd (cc)
  log_saw (x ∷ log) m r e = let s = stepped r.0 m (record { party = x.party; act = x.deed.act }) r.3 in
      let kept = stays r.0 m (record { party = x.party; act = x.deed.act }) (law limit log r.0 r.1) s in noted s.word (λ seen. kept (log_saw log r.0 r.1 seen)) (eqb x.party k) e
    where
      noted : m.word ≡ written x.deed.act (r.0).word → (saw test (deeds_of k log) ≡ true → test m.word ≡ true) → (b : Bool) → saw test (noted_if b x.deed (deeds_of k log)) ≡ true → test m.word ≡ true
      noted word before true e = ⊎_elim
          (λ (here : leaves_such test x.deed.act x.deed.found ≡ true). ap test word ∙ left_so x.deed.act (r.0).word (is_private x.deed.act) (ap (leaves_such test x.deed.act) (sym r.2) ∙ here))
          before
          (either_true (leaves_such test x.deed.act x.deed.found) (saw test (deeds_of k log)) e)
      noted word before false e = before e

  saw_more : (ds older : List Deed) → saw test ds ≡ true → saw test (ds ++ older) ≡ true
  saw_more [] older e = absurd (cc)
  saw_more (d ∷ ds) older e = ⊎_elim
      (λ (h : leaves_such test d.act d.found ≡ true). true_left (leaves_such test d.act d.found) (saw test (ds ++ older)) h)
      (λ (h : saw test ds ≡ true). true_right (leaves_such test d.act d.found) (saw test (ds ++ older)) (saw_more ds older h))
      (either_true (leaves_such test d.act d.found) (saw test ds) e)

  stays_seen : (log : List Entry) (m : Machine) (ds : List Deed) → Reaches limit log m → DidLast k log ds → saw test ds ≡ true → test m.word ≡ true
  stays_seen log m ds r d e = log_saw log m r (ap (saw test) d.1 ∙ saw_more ds d.0 e)

over_by_step : (n m : Machine) (s : Step) → Invariant n → Stepped n m s → not (is_open n.word) ≡ true → not (is_open m.word) ≡ true
over_by_step n m s i x e = ap (λ b. not b) (ap is_open x.word ∙ stays_over s.act n.word (not_true (is_open n.word) e))

closed_by_step : (n m : Machine) (s : Step) → Invariant n → Stepped n m s → n.word.closed ≡ true → m.word.closed ≡ true
closed_by_step n m s i x e = ap (λ (w : State). w.closed) x.word ∙ stays_closed s.act n.word e

ended_by_step : (n m : Machine) (s : Step) → Invariant n → Stepped n m s → has_ended n.word ≡ true → has_ended m.word ≡ true
ended_by_step n m s i x e = ap has_ended x.word ∙ stays_ended n.limit s.act n.word x.fits (closes_open n m s i x) e

pub over_stays : (limit k : ℕ) (log : List Entry) (m : Machine) (ds : List Deed) → Reaches limit log m → DidLast k log ds → saw_over ds ≡ true → is_open m.word ≡ false
over_stays limit k log m ds r d e = not_true (is_open m.word) (stays_seen (λ w. not (is_open w)) over_by_step limit k log m ds r d e)

pub closed_stays : (limit k : ℕ) (log : List Entry) (m : Machine) (ds : List Deed) → Reaches limit log m → DidLast k log ds → saw_closed ds ≡ true → m.word.closed ≡ true
closed_stays limit k log m ds r d e = stays_seen (λ w. w.closed) closed_by_step limit k log m ds r d e

pub ended_stays : (limit k : ℕ) (log : List Entry) (m : Machine) (ds : List Deed) → Reaches limit log m → DidLast k log ds → saw_ended ds ≡ true → has_ended m.word ≡ true
ended_stays limit k log m ds r d e = stays_seen has_ended ended_by_step limit k log m ds r d e
