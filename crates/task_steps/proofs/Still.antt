-- What a party that tries has seen while no other has written: the word that stands.
use Rattle.std.proofs.Common.{◌≡◌, ℕ, ◌<◌, ◌≤◌, not, eqb, Option, Some, None, List, sym, ap, subst, arith, ne_eqb}
use native.Mathlib.Decide.{ℕ_discrete}
use mathlib.Core.Option.{none}
use Rattle.atomic_table.specs.Table.{Me, step}
use Rattle.task_steps.proofs.Vocabulary.{State, bit, number_of, state_of_number_of, TaskPlace, Tries, View}
use Rattle.task_steps.specs.Rule.{Entry, Tried, written_since}
use Rattle.task_steps.specs.Values.{Values}
use Rattle.task_steps.specs.Steps.{Makes}
use Rattle.task_steps.specs.Attempt.{Attempt, acts_on}
use Rattle.task_steps.specs.Attempts.{attempted, looks_of}

-- numbers that are not told apart are one
same_by : (a b : ℕ) → Dec (a ≡ b) → bit (not (eqb a b)) ≡ 0 → a ≡ b
same_by a b (yes e) h = e
same_by a b (no ne) h = let is : bit (not (eqb a b)) ≡ 1 = ap (λ x. bit (not x)) (ne_eqb a b ne) in absurd (omega arith)

-- where no other has written since its last act, or since it was made, it has missed nothing, and has seen the word that stands
pub sees_it_still : (k : ℕ) (log : List Entry) (w : State) (t : Tries) → Tried k log w (Some t) → written_since k log ≡ 0 → (t.misses ≡ 0) × (number_of t.seen ≡ number_of w)
sees_it_still k log w t tried still = (omega arith, same_by (number_of t.seen) (number_of w) (ℕ_discrete (number_of t.seen) (number_of w)) (omega arith))

-- the exchange of such a party makes the change
pub made_while_still : {F T A Row : Type 0} (values : Values F T) (a : Attempt Row) (k : ℕ) (log : List Entry) (w : State) (t : Tries) (slots new : ℕ) (m m' : Me (TaskPlace F T A) View) → Tried k log w (Some t) → written_since k log ≡ 0
    → attempted values a (step slots 0 (number_of t.seen) new none) m (number_of w) m' → (t.misses ≡ 0) × Makes values (acts_on a w) w m m'
made_while_still values a k log w t slots new m m' tried still exchange = let s = sees_it_still k log w t tried still in
    (s.0, subst (λ v. Makes values (acts_on a v) v m m') (state_of_number_of w) (exchange.0 (sym s.1)))

-- one that has missed this often has met as many writes
pub met_writes : (n k : ℕ) (log : List Entry) (w : State) (t : Option Tries) → Tried k log w t → n < looks_of t → n ≤ written_since k log
met_writes n k log w None tried missed = absurd (omega arith)
met_writes n k log w (Some t) tried missed = omega arith
