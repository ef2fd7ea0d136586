-- The word that an act leaves: its row's, and for a private act the one that was there.
use Rattle.std.proofs.Common.{◌≡◌, ℕ, ◌+◌, ◌≤◌, Bool, true, false, not, cond, eqb, Option, Some, None, refl, ap, ◌∙◌, arith, eq-eqb, ne_eqb}
use native.Mathlib.Decide.{ℕ_discrete}
use Rattle.task_steps.proofs.Vocabulary.{State, bit, number_of, Act, StartPoll}
use Rattle.task_steps.proofs.Vocabulary.{written, Outcome, where_found}
use Rattle.task_steps.specs.Rule.{is_private, found_by, differ, writes}

-- what the rule allows is what the table says
pub found_is : (g : Bool) (x : Option Outcome) (o : Outcome) → where_found g x ≡ Some o → (g ≡ true) × (x ≡ Some o)
found_is g None o e = absurd (cc)
found_is true (Some x) o e = (refl, e)
found_is false (Some x) o e = absurd (cc)

pub found_so : (g : Bool) (x : Option Outcome) (o : Outcome) → g ≡ true → x ≡ Some o → where_found g x ≡ Some o
found_so g None o f e = absurd (cc)
found_so true (Some x) o f e = e
found_so false (Some x) o f e = absurd (cc)

-- a private act leaves the word as it was
private_keeps : (a : Act) (w : State) → is_private a ≡ true → written a w ≡ w
private_keeps StartPoll w e = refl
private_keeps a w e = cc

most_one : (b : Bool) → bit b ≤ 1
most_one b = grind arith

-- a number that is not the third's is not the second's, or the second's is not the third's
differ_by : (a b c : ℕ) → Dec (a ≡ b) → Dec (b ≡ c) → bit (not (eqb a c)) ≤ bit (not (eqb a b)) + bit (not (eqb b c))
differ_by a b c (yes d) (yes e) = let is : bit (not (eqb a c)) ≡ 0 = ap (λ x. bit (not x)) (eq-eqb a c (d ∙ e)) in omega arith
differ_by a b c (no d) e = let is : bit (not (eqb a b)) ≡ 1 = ap (λ x. bit (not x)) (ne_eqb a b d) in omega (arith, most_one (not (eqb a c)))
differ_by a b c d (no e) = let is : bit (not (eqb b c)) ≡ 1 = ap (λ x. bit (not x)) (ne_eqb b c e) in omega (arith, most_one (not (eqb a c)))

-- what was seen differs from the word after an act only where it did before it, or the act writes
pub stale_by : (seen w : State) (a : Act) → bit (differ seen (written a w)) ≤ bit (differ seen w) + bit (writes a (found_by a w))
stale_by seen w a = by (is_private a) refl
  where
    by : (b : Bool) → is_private a ≡ b → bit (differ seen (written a w)) ≤ bit (differ seen w) + bit (writes a (cond b None (Some w)))
    by true is = let same : bit (differ seen (written a w)) ≡ bit (differ seen w) = ap (λ v. bit (differ seen v)) (private_keeps a w is) in omega arith
    by false is = differ_by (number_of seen) (number_of w) (number_of (written a w)) (ℕ_discrete (number_of seen) (number_of w)) (ℕ_discrete (number_of w) (number_of (written a w)))
