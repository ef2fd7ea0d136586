-- Where the parties of a list stand after a step, and truth values.
use Rattle.std.proofs.Common.{◌≡◌, ℕ, zero, suc, ◌<◌, Bool, true, false, not, ◌&&◌, ◌||◌, ◌⊎◌, inl, inr, cond, List, [], ◌∷◌, ◌++◌, length, Option, Some, None, refl, arith}
use Rattle.std.specs.Prelude.{slice_get, slice_set, nat_eq}
use Rattle.std.proofs.lemmas.Bool.Decides.{nat_tests}
use Rattle.task_laws.specs.declared.positions.Position.{Position}
use Rattle.task_atomic.proofs.Turns.{is_few}

pub same_suc : (i j : ℕ) → nat_eq (suc i) (suc j) ≡ nat_eq i j
same_suc i j = by (nat_eq i j) refl
  where
    by : (b : Bool) → nat_eq i j ≡ b → nat_eq (suc i) (suc j) ≡ nat_eq i j
    by true e = grind (arith, nat_tests)
    by false e = grind (arith, nat_tests)

pub suc_not : (j : ℕ) → nat_eq (suc j) 0 ≡ false
suc_not j = grind (arith, nat_tests)

pub zero_not : (j : ℕ) → nat_eq 0 (suc j) ≡ false
zero_not j = grind (arith, nat_tests)

pub append_at : (ps born : List Position) (j : ℕ) → is_few born ≡ true → slice_get (ps ++ born) j ≡ cond (nat_eq j (length ps)) (slice_get born 0) (slice_get ps j)
append_at [] born zero few = refl
append_at [] [] (suc j) few = rw (suc_not j) refl
append_at [] (b ∷ []) (suc j) few = rw (suc_not j) refl
append_at [] (b ∷ (c ∷ born)) (suc j) few = absurd (cc)
append_at (x ∷ ps) born zero few = rw (zero_not (length ps)) refl
append_at (x ∷ ps) born (suc j) few = rw (same_suc j (length ps)) (append_at ps born j few)

abbrev pub placed : List Position → List Position → ℕ → Position → ℕ → Option Position
placed ps born i q j = cond (nat_eq j i) (Some q) (cond (nat_eq j (length ps)) (slice_get born 0) (slice_get ps j))

pub placed_at : (ps born : List Position) (i j : ℕ) (p q : Position) → slice_get ps i ≡ Some p → is_few born ≡ true → slice_get (slice_set ps i q ++ born) j ≡ placed ps born i q j
placed_at [] born i j p q e few = absurd (cc)
placed_at (x ∷ ps) born zero zero p q e few = refl
placed_at (x ∷ ps) born zero (suc j) p q e few = rw (suc_not j, same_suc j (length ps)) (append_at ps born j few)
placed_at (x ∷ ps) born (suc i) zero p q e few = rw (zero_not i, zero_not (length ps)) refl
placed_at (x ∷ ps) born (suc i) (suc j) p q e few = rw (same_suc j i, same_suc j (length ps)) (placed_at ps born i j p q e few)

pub nobody_there : (ps : List Position) → slice_get ps (length ps) ≡ None
nobody_there [] = refl
nobody_there (x ∷ ps) = nobody_there ps

pub below : (i n : ℕ) → i < n → nat_eq i n ≡ false
below i n l = grind (arith, nat_tests)

pub other_way : (i j : ℕ) → nat_eq i j ≡ false → nat_eq j i ≡ false
other_way i j e = grind (arith, nat_tests)

pub same_number : (i j : ℕ) → nat_eq i j ≡ true → i ≡ j
same_number i j e = grind (arith, nat_tests)

pub one_number : (i : ℕ) → nat_eq i i ≡ true
one_number i = grind (arith, nat_tests)

-- two conditions, and what is read where they lead
pub read_if : {A B : Type 0} (f : A → B) (b c : Bool) (x y z : A) → f (cond b x (cond c y z)) ≡ cond b (f x) (cond c (f y) (f z))
read_if f true c x y z = refl
read_if f false true x y z = refl
read_if f false false x y z = refl

pub counts_so : (a b x y z w : Bool) → (a ≡ true → x ≡ y) → (a ≡ false → b ≡ true → x ≡ z) → (a ≡ false → b ≡ false → x ≡ w) → x ≡ cond a y (cond b z w)
counts_so true b x y z w here there by_others = here refl
counts_so false true x y z w here there by_others = there refl refl
counts_so false false x y z w here there by_others = by_others refl refl

-- truth values
pub no_other : (a b : Bool) → a ≡ false → (a || b) ≡ b
no_other a b e = grind arith

pub yes_left : (a b : Bool) → a ≡ true → (a || b) ≡ true
yes_left a b e = grind arith

pub yes_right : (a b : Bool) → b ≡ true → (a || b) ≡ true
yes_right a b e = grind arith

pub left_true : (a b : Bool) → (a && b) ≡ true → a ≡ true
left_true a b e = grind arith

pub right_true : (a b : Bool) → (a && b) ≡ true → b ≡ true
right_true a b e = grind arith

pub left_false : (a b : Bool) → (a || b) ≡ false → a ≡ false
left_false a b e = grind arith

pub right_false : (a b : Bool) → (a || b) ≡ false → b ≡ false
right_false a b e = grind arith

pub neither : (a b : Bool) → a ≡ false → b ≡ false → (a || b) ≡ false
neither a b e f = grind arith

pub one_or_other : (a b : Bool) → (a || b) ≡ true → (a ≡ true) ⊎ ((a ≡ false) × (b ≡ true))
one_or_other true b e = inl refl
one_or_other false b e = inr (refl, e)

pub not_both : (a : Bool) → a ≡ true → a ≡ false → ⊥
not_both a e f = cc

pub flipped : (a b : Bool) → not a ≡ b → a ≡ not b
flipped a b e = grind arith

pub first_false : (a b : Bool) → a ≡ false → (a && b) ≡ false
first_false a b e = grind arith

pub new_alone : (a b c : Bool) → a ≡ true → b ≡ false → ((a && c) || b) ≡ c
new_alone a b c e f = grind arith

pub both_true : (a b : Bool) → a ≡ true → b ≡ true → (a && b) ≡ true
both_true a b e f = grind arith
