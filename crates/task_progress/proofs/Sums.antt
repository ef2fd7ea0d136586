-- Sums over the parties, and the bound on the steps of a list.
use Rattle.std.proofs.Common.{◌≡◌, ℕ, Bool, subst, ◌+◌, ◌*◌, ◌≤◌, zero, suc, List, [], ◌∷◌, ◌++◌, Option, Some, None, refl, arith}
use Rattle.std.specs.Prelude.{slice_get, slice_set}
use Rattle.task_progress.proofs.Vocabulary.{Event, is_event, Position, Outcome, rule, Machine, Step, scene, begins, after, moves, step, run_from, count, is_call_end, count-append}
use Rattle.task_progress.specs.StepsLeft.{total, in_call, steps_left, writes_left, BoundedByCalls, StepsAreBounded, OpenCallsBoundSteps}
use Rattle.task_progress.proofs.Rows.{NearTo, near}

total-append : (f : Position → ℕ) (ps qs : List Position) → total f (ps ++ qs) ≡ total f ps + total f qs
total-append f [] qs = omega arith
total-append f (p ∷ ps) qs = omega (arith, total-append f ps qs)

total-set : (f : Position → ℕ) (ps : List Position) (i : ℕ) (p q : Position) → slice_get ps i ≡ Some p → total f (slice_set ps i q) + f p ≡ total f ps + f q
total-set f [] i p q e = cc
total-set f (x ∷ ps) zero p q e = let same : x ≡ p = cc in rw same (omega arith)
total-set f (x ∷ ps) (suc i) p q e = omega (arith, total-set f ps i p q e)

-- what a step leaves: the sum is that of before, with the party's number exchanged
pub total_put : (f : Position → ℕ) (ps : List Position) (i : ℕ) (p q : Position) (born : List Position) → slice_get ps i ≡ Some p
    → total f (slice_set ps i q ++ born) + f p ≡ total f ps + total f (q ∷ born)
total_put f ps i p q born e = omega (arith, total-append f (slice_set ps i q) born, total-set f ps i p q e)

pub told : (test : Event → Bool) (a b c : List Event) → count test (a ++ (b ++ c)) ≡ count test a + count test b + count test c
told test a b c = omega (arith, count-append test a (b ++ c), count-append test b c)

abbrev BoundedByCallsTo : Machine → List Step → Option Machine → Type 0
BoundedByCallsTo m steps None = Unit {0}
BoundedByCallsTo m steps (Some now) = BoundedByCalls m steps now

after_bounded : (m : Machine) (s : Step) (p : Position) (o : Option Outcome) → slice_get m.parties s.party ≡ Some p → NearTo s.act p o
    → BoundedByCallsTo m (s ∷ []) (after m s.party p o)
after_bounded m s p None e near = tt
after_bounded m s p (Some o) e near = record {
  steps = omega (arith, near.steps, total_put steps_left m.parties s.party p o.next o.born e, told (is_event Event.CallBegins) o.told (begins p) m.trace);
  writes =
      omega (arith, near.writes, total_put writes_left m.parties s.party p o.next o.born e, told (is_event Event.CallBegins) o.told (begins p) m.trace);
  calls = omega (arith, near.calls, total_put in_call m.parties s.party p o.next o.born e, told (is_event Event.CallBegins) o.told (begins p) m.trace, told is_call_end o.told (begins p) m.trace);
}

moves_bounded : (m : Machine) (s : Step) (at : Option Position) → slice_get m.parties s.party ≡ at → BoundedByCallsTo m (s ∷ []) (moves m s.party s.act at)
moves_bounded m s None e = tt
moves_bounded m s (Some p) e = after_bounded m s p (rule (scene m) s.act p) e (near s.act p (scene m))

adds : (m : Machine) (s : Step) (now : Machine) (steps : List Step) (last : Option Machine) → BoundedByCalls m (s ∷ []) now → BoundedByCallsTo now steps last
    → BoundedByCallsTo m (s ∷ steps) last
adds m s now steps None a b = tt
adds m s now steps (Some last) a b = record {
  steps = omega (arith, a.steps, b.steps);
  writes = omega (arith, a.writes, b.writes);
  calls = omega (arith, a.calls, b.calls);
}

joins : (m : Machine) (s : Step) (one : Option Machine) (steps : List Step) → BoundedByCallsTo m (s ∷ []) one
    → ((now : Machine) → BoundedByCallsTo now steps (run_from (Some now) steps)) → BoundedByCallsTo m (s ∷ steps) (run_from one steps)
joins m s None [] first rest = tt
joins m s None (t ∷ steps) first rest = tt
joins m s (Some now) steps first rest = adds m s now steps (run_from (Some now) steps) first (rest now)

all_bounded : (m : Machine) (steps : List Step) → BoundedByCallsTo m steps (run_from (Some m) steps)
all_bounded m [] = record { steps = omega arith; writes = omega arith; calls = omega arith }
all_bounded m (s ∷ steps) = joins m s (step m s) steps (moves_bounded m s (slice_get m.parties s.party) refl) (λ now. all_bounded now steps)

pub steps_are_bounded : StepsAreBounded
steps_are_bounded m steps now e = subst (BoundedByCallsTo m steps) e (all_bounded m steps)

open_steps_one : (p : Position) → steps_left p ≤ 16 * in_call p
open_steps_one p = grind arith

open_writes_one : (p : Position) → writes_left p ≤ 5 * in_call p
open_writes_one p = grind arith

pub open_steps : (ps : List Position) → total steps_left ps ≤ 16 * total in_call ps
open_steps [] = omega arith
open_steps (p ∷ ps) = omega (arith, open_steps_one p, open_steps ps)

pub open_writes : (ps : List Position) → total writes_left ps ≤ 5 * total in_call ps
open_writes [] = omega arith
open_writes (p ∷ ps) = omega (arith, open_writes_one p, open_writes ps)

pub open_calls_bound_steps : OpenCallsBoundSteps
open_calls_bound_steps m steps now e = let bound = steps_are_bounded m steps now e in record {
  steps = omega (arith, bound.steps, bound.calls, open_steps m.parties);
  writes = omega (arith, bound.writes, bound.calls, open_writes m.parties);
}
