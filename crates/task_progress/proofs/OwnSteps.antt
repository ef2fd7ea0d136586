-- What one party does, whatever the others do.
use Rattle.std.proofs.Common.{◌≡◌, ℕ, ◌+◌, ◌*◌, ◌≤◌, Bool, true, false, refl, sym, ap, ◌∙◌, subst, List, [], ◌∷◌, ◌++◌, Option, Some, None, arith}
use Rattle.std.specs.Prelude.{if◌then◌else◌, nat_eq, slice_get, slice_set}
use Rattle.task_progress.proofs.Vocabulary.{bit, Position, Act, Outcome, rule, Machine, Step, scene, begins, after, moves, step, run_from, Event, how_often}
use Rattle.task_progress.proofs.Vocabulary.{get_other, get_append, same_number}
use Rattle.task_core.specs.Rows.{writes_word}
use Rattle.task_progress.specs.StepsLeft.{steps_left, writes_left}
use Rattle.task_progress.specs.OwnSteps.{begins_at, begun_by, OwnStepsBounded, EachPartyIsBounded}
use Rattle.task_progress.proofs.Rows.{Nears, NearTo, near}
use Rattle.task_progress.proofs.Ending.{get_put}

-- one step, as party i sees it; b says whether it is its own
pub record OneOwn (ps : List Position) (act : Act) (b : Bool) (i : ℕ) (p : Position) (now : List Position) : Type 0 where
  pub next : Position
  pub at : slice_get now i ≡ Some next
  pub steps : bit b + steps_left next ≤ steps_left p + 16 * (if b then begins_at (slice_get ps i) else 0)
  pub writes : (if b then bit (writes_word act) else 0) + writes_left next ≤ writes_left p + 5 * (if b then begins_at (slice_get ps i) else 0)

one_own : (ps : List Position) (act : Act) (b : Bool) (j i : ℕ) (p q : Position) (o : Outcome) → nat_eq j i ≡ b → slice_get ps i ≡ Some p
    → slice_get ps j ≡ Some q → Nears act q o → OneOwn ps act b i p (slice_set ps j o.next ++ o.born)
one_own ps act false j i p q o is e f near = record {
  next = p;
  at = get_append (slice_set ps j o.next) o.born i p (get_other ps j i o.next is ∙ e);
  steps = omega arith;
  writes = omega arith;
}
one_own ps act true j i p q o is e f near =
    let one : j ≡ i = same_number j i is in
    let there : slice_get ps i ≡ Some q = ap (slice_get ps) (sym one) ∙ f in
    let same : p ≡ q = cc in
    let begins_there : begins_at (slice_get ps i) ≡ how_often Event.CallBegins (begins q) = ap begins_at there in
    let left : steps_left p ≡ steps_left q = ap steps_left same in
    let writes : writes_left p ≡ writes_left q = ap writes_left same in
    record {
      next = o.next;
      at = ap (λ k. slice_get (slice_set ps k o.next ++ o.born) i) one ∙ get_put ps i q o.next o.born there;
      steps = omega (arith, near.own_steps, begins_there, left);
      writes = omega (arith, near.own_writes, begins_there, writes);
    }

abbrev OwnTo : List Position → Act → Bool → ℕ → Position → Option Machine → Type 0
OwnTo ps act b i p None = Unit {0}
OwnTo ps act b i p (Some now) = OneOwn ps act b i p now.parties

after_own : (m : Machine) (s : Step) (i : ℕ) (p q : Position) (o : Option Outcome) → slice_get m.parties i ≡ Some p → slice_get m.parties s.party ≡ Some q
    → NearTo s.act q o → OwnTo m.parties s.act (nat_eq s.party i) i p (after m s.party q o)
after_own m s i p q None e f near = tt
after_own m s i p q (Some o) e f near = one_own m.parties s.act (nat_eq s.party i) s.party i p q o refl e f near

moves_own : (m : Machine) (s : Step) (i : ℕ) (p : Position) (at : Option Position) → slice_get m.parties i ≡ Some p → slice_get m.parties s.party ≡ at
    → OwnTo m.parties s.act (nat_eq s.party i) i p (moves m s.party s.act at)
moves_own m s i p None e f = tt
moves_own m s i p (Some q) e f = after_own m s i p q (rule (scene m) s.act q) e f (near s.act q (scene m))

abbrev OwnStepsBoundedTo : Machine → List Step → ℕ → Position → Option Machine → Type 0
OwnStepsBoundedTo m made i p None = Unit {0}
OwnStepsBoundedTo m made i p (Some now) = OwnStepsBounded m made now i p

adds_own : (m : Machine) (s : Step) (i : ℕ) (p : Position) (m1 : Machine) (steps : List Step) (last : Option Machine) → step m s ≡ Some m1
    → (one : OneOwn m.parties s.act (nat_eq s.party i) i p m1.parties) → OwnStepsBoundedTo m1 steps i one.next last → OwnStepsBoundedTo m (s ∷ steps) i p last
adds_own m s i p m1 steps None e one later = tt
adds_own m s i p m1 steps (Some now) e one later =
    let same : begun_by i (step m s) steps ≡ begun_by i (Some m1) steps = ap (λ x. begun_by i x steps) e in
    record { next = later.next; at = later.at; steps = omega (arith, one.steps, later.steps, same); writes = omega (arith, one.writes, later.writes, same) }

joins_own : (m : Machine) (s : Step) (i : ℕ) (p : Position) (o : Option Machine) (steps : List Step) → step m s ≡ o
    → OwnTo m.parties s.act (nat_eq s.party i) i p o
    → ((m1 : Machine) (q : Position) → slice_get m1.parties i ≡ Some q → OwnStepsBoundedTo m1 steps i q (run_from (Some m1) steps))
    → OwnStepsBoundedTo m (s ∷ steps) i p (run_from o steps)
joins_own m s i p None [] e one later = tt
joins_own m s i p None (t ∷ steps) e one later = tt
joins_own m s i p (Some m1) steps e one later = adds_own m s i p m1 steps (run_from (Some m1) steps) e one (later m1 one.next one.at)

own_bounded : (m : Machine) (steps : List Step) (i : ℕ) (p : Position) → slice_get m.parties i ≡ Some p
    → OwnStepsBoundedTo m steps i p (run_from (Some m) steps)
own_bounded m [] i p e = record { next = p; at = e; steps = omega arith; writes = omega arith }
own_bounded m (s ∷ steps) i p e =
    joins_own m s i p (step m s) steps refl (moves_own m s i p (slice_get m.parties s.party) e refl) (λ m1 q at. own_bounded m1 steps i q at)

pub each_party_is_bounded : EachPartyIsBounded
each_party_is_bounded m steps now e i p at = subst (OwnStepsBoundedTo m steps i p) e (own_bounded m steps i p at)
