-- Wherever a whole run may be cut, its moves are a run of the abstract task.
use Rattle.std.proofs.Common.{◌≡◌, ℕ, Bool, true, false, ◌||◌, cond, List, [], ◌∷◌, ◌++◌, length, Option, Some, None, refl, sym, subst, arith}
use Rattle.std.specs.Prelude.{if◌then◌else◌, slice_get, slice_set, nat_eq}
use Rattle.std.proofs.lemmas.Bool.Decides.{nat_tests}
use Rattle.task_laws.proofs.Vocabulary.{Nothing, Rest, Position, At, CallEnding, Deliverer, ThenEnds, Act, WakeIdle, Scene, Outcome, rule, Machine, Step, opening, scene, after, step, Move, Begin, Go, Whole, whole, whole_from, stepped, after_step, may_step, is_innermost, opened, closed, is_cut, move_of, call_of, says_yes}
use Rattle.task_laws.proofs.Vocabulary.{is_at_rest, is_foreign, asks_foreign}
use Rattle.task_laws.specs.Machine
use Rattle.task_laws.proofs.Runs.{Invariant, Stays, moves_stays, opens}
use Rattle.task_laws.proofs.Ahead.{queues}
use Rattle.task_laws.proofs.Cuts.{get_put, get_append}
use Rattle.task_laws.proofs.WholeRuns.{AtCut, Within, Goes, GoesAfter, Handing, moved_on, innermost_is_no_deliverer, opened_rest, opened_mid, move_mid, same_number, begins_here, goes_on_here, goes_within, hands, only_ends}
use Rattle.task_laws.proofs.Queueing.{Queued, queues_or_refused, queue_begins}

-- in the middle: within a segment, or a waker that has only to end above its deliverer
abbrev pub HandsOn : ℕ → Machine → ℕ → List ℕ → List Move → Type 0
HandsOn limit m i [] moves = ⊥
HandsOn limit m i (n ∷ stack) moves = (r : Rest) × Handing limit m i r n stack moves

abbrev pub InTheMiddle : ℕ → Machine → List ℕ → List Move → Type 0
InTheMiddle limit m [] moves = ⊥
InTheMiddle limit m (i ∷ stack) moves = (b : Bool) × cond b ((p : Position) × Within limit m i p stack moves) (HandsOn limit m i stack moves)

pub record RunHolds (limit : ℕ) (w : Whole) : Type 0 where
  pub invariant : Invariant w.machine
  pub limit_is : w.machine.limit ≡ limit
  pub state : cond w.cut (AtCut limit w.machine w.stack w.moves) (InTheMiddle limit w.machine w.stack w.moves)

abbrev RunKeeps : ℕ → Option Whole → Type 0
RunKeeps limit None = Unit {0}
RunKeeps limit (Some w) = RunHolds limit w

abbrev pub StateAt : ℕ → Machine → Bool → List ℕ → List Move → Type 0
StateAt limit m cut stack moves = cond cut (AtCut limit m stack moves) (InTheMiddle limit m stack moves)

by_cut : (b : Bool) (limit : ℕ) (m : Machine) (i : ℕ) (q : Position) (stack : List ℕ) (moves : List Move) → cond b (AtCut limit m (i ∷ stack) moves) (Within limit m i q stack moves) → StateAt limit m b (i ∷ stack) moves
by_cut true limit m i q stack moves x = x
by_cut false limit m i q stack moves x = (true, (q, x))

state_of : (limit : ℕ) (m : Machine) (i : ℕ) (act : Act) (q : Position) (stack : List ℕ) (moves : List Move) → Goes limit m i act q stack moves → StateAt limit m (is_cut act q m (closed q (i ∷ stack))) (closed q (i ∷ stack)) moves
state_of limit m i act (At r) stack moves g = rw (innermost_is_no_deliverer m.word.completed m stack g.good) g
state_of limit m i act q stack moves g = by_cut (is_foreign act || asks_foreign q) limit m i q stack moves g

-- the step of a party, when it has been seen who it is
abbrev Steps : ℕ → Whole → Step → Position → Option Outcome → Type 0
Steps limit w s p x = RunKeeps limit (stepped w s (Some p) (after w.machine s.party p x))

refused_step : (limit : ℕ) (w : Whole) (s : Step) (p : Position) (x : Option Outcome) → may_step w s.party p ≡ false → Steps limit w s p x
refused_step limit w s p None m = tt
refused_step limit w s p (Some o) m = rw m tt

-- an ordinary step of a party, when it has been seen who it is
plain_step : (limit : ℕ) (w : Whole) (s : Step) (p : Position) (below : List ℕ) (x : Option Outcome) → may_step w s.party p ≡ true → w.machine.limit ≡ limit → slice_get w.machine.parties s.party ≡ Some p
    → opened s.party p s.act (length w.machine.parties) w.stack ≡ s.party ∷ below → Stays (after w.machine s.party p x)
    → GoesAfter limit w.machine s.party p s.act below (if w.cut then move_of p s.act ∷ w.moves else w.moves) x → Steps limit w s p x
plain_step limit w s p below None m l e f h g = tt
plain_step limit w s p below (Some o) m l e f h g =
    let q : slice_get (slice_set w.machine.parties s.party o.next ++ o.born) s.party ≡ Some o.next = get_append (slice_set w.machine.parties s.party o.next) o.born s.party o.next (get_put w.machine.parties s.party p o.next e) in
    rw m (rw q (made o h g))
  where
    made : (o : Outcome) → Invariant (moved_on w.machine s.party p o) → Goes limit (moved_on w.machine s.party p o) s.party s.act o.next below (if w.cut then move_of p s.act ∷ w.moves else w.moves) → RunHolds limit (after_step w s p o.next (moved_on w.machine s.party p o))
    made o h g = record { invariant = h; limit_is = l; state = rw f (state_of limit (moved_on w.machine s.party p o) s.party s.act o.next below (if w.cut then move_of p s.act ∷ w.moves else w.moves) g) }

abbrev at_whole : Machine → List ℕ → Bool → List Move → Whole
at_whole m stack cut moves = record { machine = m; stack = stack; cut = cut; moves = moves }

abbrev does : ℕ → Act → Step
does i act = record { party = i; act = act }

is_wake_idle : (act : Act) → queues act ≡ true → act ≡ WakeIdle
is_wake_idle WakeIdle e = refl
is_wake_idle act e = cc

wake_idle_only_at_rest : (s : Scene) (p : Position) (P : Option Outcome → Type 0) → is_at_rest p ≡ false → P None → P (rule s WakeIdle p)
wake_idle_only_at_rest s (At r) P e a = cc
wake_idle_only_at_rest s p P e a = a

-- a party at rest queues the task
keep_queue : (limit : ℕ) (m : Machine) (stack : List ℕ) (moves : List Move) (i : ℕ) (r : Rest) → m.limit ≡ limit → slice_get m.parties i ≡ Some (At r) → Invariant m → AtCut limit m stack moves → Stays (after m i (At r) (rule (scene m) WakeIdle (At r)))
    → Steps limit (at_whole m stack true moves) (does i WakeIdle) (At r) (rule (scene m) WakeIdle (At r))
keep_queue limit m stack moves i r l e h c stays =
    queues_or_refused (scene m) r
    (λ (x : Option Outcome). Queued limit m i r stack (Begin (call_of r WakeIdle) ∷ moves) x → Stays (after m i (At r) x) → Steps limit (at_whole m stack true moves) (does i WakeIdle) (At r) x)
    (λ x y. tt)
    (λ x y. rw x.waker (record { invariant = y; limit_is = l; state = (false, (r, x)) }))
    (queue_begins limit m i r stack moves l e h c) stays

keep_rest : (limit : ℕ) (m : Machine) (stack : List ℕ) (cut : Bool) (moves : List Move) (i : ℕ) (act : Act) (r : Rest) → m.limit ≡ limit → slice_get m.parties i ≡ Some (At r) → Invariant m → StateAt limit m cut stack moves → Stays (after m i (At r) (rule (scene m) act (At r)))
    → (u : Bool) → queues act ≡ u → Steps limit (at_whole m stack cut moves) (does i act) (At r) (rule (scene m) act (At r))
keep_rest limit m stack false moves i act r l e h s stays u q = refused_step limit (at_whole m stack false moves) (does i act) (At r) (rule (scene m) act (At r)) refl
keep_rest limit m stack true moves i act r l e h s stays false q =
    plain_step limit (at_whole m stack true moves) (does i act) (At r) stack (rule (scene m) act (At r)) refl l e (opened_rest i r act (length m.parties) stack q) stays (begins_here limit m i r act stack moves l e q h s)
keep_rest limit m stack true moves i act r l e h s stays true q =
    let same = is_wake_idle act q in
    subst (λ (a : Act). Steps limit (at_whole m stack true moves) (does i a) (At r) (rule (scene m) a (At r))) (sym same)
    (keep_queue limit m stack moves i r l e h s (subst (λ (a : Act). Stays (after m i (At r) (rule (scene m) a (At r)))) same stays))

-- a party whose call is open
keep_plain : (limit : ℕ) (m : Machine) (stack : List ℕ) (cut : Bool) (moves : List Move) (i : ℕ) (act : Act) (p : Position) → m.limit ≡ limit → slice_get m.parties i ≡ Some p → is_at_rest p ≡ false → may_step (at_whole m (i ∷ stack) cut moves) i p ≡ true
    → Stays (after m i p (rule (scene m) act p)) → GoesAfter limit m i p act stack (if cut then Go (says_yes act) ∷ moves else moves) (rule (scene m) act p)
    → Steps limit (at_whole m (i ∷ stack) cut moves) (does i act) p (rule (scene m) act p)
keep_plain limit m stack cut moves i act p l e f g stays a =
    plain_step limit (at_whole m (i ∷ stack) cut moves) (does i act) p stack (rule (scene m) act p) g l e (opened_mid i p act (length m.parties) (i ∷ stack) f) stays
    (subst (λ (x : Move). GoesAfter limit m i p act stack (if cut then x ∷ moves else moves) (rule (scene m) act p)) (sym (move_mid p act f)) a)

keep_hand : (limit : ℕ) (m : Machine) (stack : List ℕ) (moves : List Move) (i n : ℕ) (act : Act) (r : Rest) → m.limit ≡ limit → Handing limit m i r n stack moves → nat_eq i i ≡ true → Stays (after m i (CallEnding Nothing r) (rule (scene m) act (CallEnding Nothing r)))
    → RunKeeps limit (stepped (at_whole m (i ∷ (n ∷ stack)) false moves) (does i act) (Some (CallEnding Nothing r)) (after m i (CallEnding Nothing r) (rule (scene m) act (CallEnding Nothing r))))
keep_hand limit m stack moves i n act r l h g stays =
    only_ends limit m i r act
    (λ (x : Option Machine). Stays x → RunKeeps limit (stepped (at_whole m (i ∷ (n ∷ stack)) false moves) (does i act) (Some (CallEnding Nothing r)) x))
    (λ y. tt)
    (λ y. let w = hands limit m i r n stack moves h in
    let q : slice_get (slice_set m.parties i (At r) ++ []) i ≡ Some (At r) = get_append (slice_set m.parties i (At r)) [] i (At r) (get_put m.parties i (CallEnding Nothing r) (At r) h.waker) in
    rw (g, q) (record { invariant = y; limit_is = l; state = rw w.stands_at (true, (Deliverer false (ThenEnds Nothing), w)) }))
    stays

keep_hands : (limit : ℕ) (m : Machine) (stack : List ℕ) (moves : List Move) (i : ℕ) (act : Act) (p : Position) → m.limit ≡ limit → slice_get m.parties i ≡ Some p → HandsOn limit m i stack moves → nat_eq i i ≡ true
    → Stays (after m i p (rule (scene m) act p)) → Steps limit (at_whole m (i ∷ stack) false moves) (does i act) p (rule (scene m) act p)
keep_hands limit m [] moves i act p l e w z stays = absurd w
keep_hands limit m (n ∷ stack) moves i act p l e w z stays =
    let same : CallEnding Nothing w.0 ≡ p = (let k = w.1.waker in cc) in
    subst (λ (y : Position). Steps limit (at_whole m (i ∷ (n ∷ stack)) false moves) (does i act) y (rule (scene m) act y)) same
    (keep_hand limit m stack moves i n act w.0 l w.1 z (subst (λ (y : Position). Stays (after m i y (rule (scene m) act y))) (sym same) stays))

keep_inside : (limit : ℕ) (m : Machine) (stack : List ℕ) (moves : List Move) (i : ℕ) (act : Act) (p : Position) → m.limit ≡ limit → slice_get m.parties i ≡ Some p → Invariant m → (b : Bool) → cond b ((x : Position) × Within limit m i x stack moves) (HandsOn limit m i stack moves) → is_at_rest p ≡ false
    → may_step (at_whole m (i ∷ stack) false moves) i p ≡ true → nat_eq i i ≡ true → Stays (after m i p (rule (scene m) act p)) → queues act ≡ false → Steps limit (at_whole m (i ∷ stack) false moves) (does i act) p (rule (scene m) act p)
keep_inside limit m stack moves i act p l e h true s f g z stays u =
    let same : s.0 ≡ p = (let k = s.1.stands_at in cc) in
    keep_plain limit m stack false moves i act p l e f g stays (goes_within limit m i p act stack moves u h (subst (λ (y : Position). Within limit m i y stack moves) same s.1))
keep_inside limit m stack moves i act p l e h false s f g z stays u = keep_hands limit m stack moves i act p l e s z stays

keep_open : (limit : ℕ) (m : Machine) (stack : List ℕ) (cut : Bool) (moves : List Move) (i : ℕ) (act : Act) (p : Position) → m.limit ≡ limit → slice_get m.parties i ≡ Some p → Invariant m → StateAt limit m cut (i ∷ stack) moves → is_at_rest p ≡ false → may_step (at_whole m (i ∷ stack) cut moves) i p ≡ true → nat_eq i i ≡ true
    → Stays (after m i p (rule (scene m) act p)) → queues act ≡ false → Steps limit (at_whole m (i ∷ stack) cut moves) (does i act) p (rule (scene m) act p)
keep_open limit m stack true moves i act p l e h s f g z stays u = keep_plain limit m stack true moves i act p l e f g stays (goes_on_here limit m i p act stack moves e u h s)
keep_open limit m stack false moves i act p l e h s f g z stays u = keep_inside limit m stack moves i act p l e h s.0 s.1 f g z stays u

keep_mid : (limit : ℕ) (m : Machine) (stack : List ℕ) (cut : Bool) (moves : List Move) (i : ℕ) (act : Act) (p : Position) → m.limit ≡ limit → slice_get m.parties i ≡ Some p → Invariant m → StateAt limit m cut (i ∷ stack) moves → is_at_rest p ≡ false → may_step (at_whole m (i ∷ stack) cut moves) i p ≡ true → nat_eq i i ≡ true
    → Stays (after m i p (rule (scene m) act p)) → (u : Bool) → queues act ≡ u → Steps limit (at_whole m (i ∷ stack) cut moves) (does i act) p (rule (scene m) act p)
keep_mid limit m stack cut moves i act p l e h s f g z stays true u =
    subst (λ (a : Act). Steps limit (at_whole m (i ∷ stack) cut moves) (does i a) p (rule (scene m) a p)) (sym (is_wake_idle act u))
    (wake_idle_only_at_rest (scene m) p (λ (x : Option Outcome). Steps limit (at_whole m (i ∷ stack) cut moves) (does i WakeIdle) p x) f tt)
keep_mid limit m stack cut moves i act p l e h s f g z stays false u = keep_open limit m stack cut moves i act p l e h s f g z stays u

keep_stack : (limit : ℕ) (m : Machine) (stack : List ℕ) (cut : Bool) (moves : List Move) (i : ℕ) (act : Act) (p : Position) → m.limit ≡ limit → slice_get m.parties i ≡ Some p → Invariant m → StateAt limit m cut stack moves → is_at_rest p ≡ false → may_step (at_whole m stack cut moves) i p ≡ true → is_innermost i stack ≡ true
    → Stays (after m i p (rule (scene m) act p)) → Steps limit (at_whole m stack cut moves) (does i act) p (rule (scene m) act p)
keep_stack limit m [] cut moves i act p l e h s f g z stays = cc
keep_stack limit m (j ∷ stack) cut moves i act p l e h s f g z stays =
    let same = same_number i j z in
    subst (λ (k : ℕ). StateAt limit m cut (k ∷ stack) moves → may_step (at_whole m (k ∷ stack) cut moves) i p ≡ true → nat_eq i k ≡ true → Steps limit (at_whole m (k ∷ stack) cut moves) (does i act) p (rule (scene m) act p)) same
    (λ x y w. keep_mid limit m stack cut moves i act p l e h x f y w stays (queues act) refl) s g z

keep_at : (limit : ℕ) (m : Machine) (stack : List ℕ) (cut : Bool) (moves : List Move) (i : ℕ) (act : Act) (p : Position) → m.limit ≡ limit → slice_get m.parties i ≡ Some p → Invariant m → StateAt limit m cut stack moves
    → Stays (after m i p (rule (scene m) act p)) → (b : Bool) → may_step (at_whole m stack cut moves) i p ≡ b → (r : Bool) → is_at_rest p ≡ r → Steps limit (at_whole m stack cut moves) (does i act) p (rule (scene m) act p)
keep_at limit m stack cut moves i act p l e h s stays false g r f = refused_step limit (at_whole m stack cut moves) (does i act) p (rule (scene m) act p) g
keep_at limit m stack cut moves i act (At r) l e h s stays true g true f = keep_rest limit m stack cut moves i act r l e h s stays (queues act) refl
keep_at limit m stack cut moves i act p l e h s stays true g true f = cc
keep_at limit m stack cut moves i act p l e h s stays true g false f = keep_stack limit m stack cut moves i act p l e h s f g (rw f at g) stays

keeps : (limit : ℕ) (w : Whole) (s : Step) (o : Option Position) → slice_get w.machine.parties s.party ≡ o → RunHolds limit w → RunKeeps limit (stepped w s o (Machine.moves w.machine s.party s.act o))
keeps limit w s None e h = tt
keeps limit w s (Some p) e h =
    keep_at limit w.machine w.stack w.cut w.moves s.party s.act p h.limit_is e h.invariant h.state (moves_stays w.machine s.party s.act (Some p) e h.invariant) (may_step w s.party p) refl (is_at_rest p) refl

run_keeps : (limit : ℕ) (w : Option Whole) (steps : List Step) → RunKeeps limit w → RunKeeps limit (whole_from w steps)
run_keeps limit w [] h = h
run_keeps limit None (s ∷ steps) h = tt
run_keeps limit (Some w) (s ∷ steps) h = run_keeps limit (stepped w s (slice_get w.machine.parties s.party) (step w.machine s)) steps (keeps limit w s (slice_get w.machine.parties s.party) refl h)

start : (limit : ℕ) → RunHolds limit (record { machine = opening limit; stack = []; cut = true; moves = [] })
start limit = record { invariant = opens limit; limit_is = refl; state = record { good = tt; calm = grind (arith, nat_tests); agreed = refl } }

pub whole_holds : (limit : ℕ) (steps : List Step) (w : Whole) → whole limit steps ≡ Some w → RunHolds limit w
whole_holds limit steps w e = subst (RunKeeps limit) e (run_keeps limit (Some (record { machine = opening limit; stack = []; cut = true; moves = [] })) steps (start limit))
