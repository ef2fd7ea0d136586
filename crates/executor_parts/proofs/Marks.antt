-- The flags of the numbers that wait: what a post and a take do to them.
use Rattle.std.proofs.Common.{zero, suc, ◌≡◌, ℕ, ◌<◌, ◌≤◌, Bool, true, false, ◌||◌, List, [], ◌∷◌, ◌++◌, length, eq-eqb, refl, sym, ap, ◌∙◌, subst, arith, replicate}
use Rattle.std.specs.Prelude.{nat_eq, slice_index_or, slice_set}
use Rattle.std.specs.List.{IsDistinct, list_any, AllByRecursion}
use Rattle.std.proofs.lemmas.List.{get_or_past}
use Rattle.std.proofs.lemmas.List.Folds.{list_any-append}
use Rattle.std.proofs.lemmas.Bool.Decides.{nat_tests}
use Rattle.std.proofs.lemmas.Grind.{common_steps}
use Rattle.std.proofs.lemmas.Map.Steps.{length-le_from_distinct_below}
use Rattle.executor_parts.specs.Numbers.{IsMarked}

-- a number that was posted has a flag
pub below : (flags : List Bool) (posted : List ℕ) → IsMarked flags posted → (q : ℕ) → list_any (nat_eq q) posted ≡ true → q < length flags
below flags posted m q h = let e = m q in let p = get_or_past flags q false in grind arith

-- so no more were posted than there are flags
pub fits : (flags : List Bool) (posted : List ℕ) → IsMarked flags posted → IsDistinct nat_eq posted → length posted ≤ length flags
fits flags posted m d = length-le_from_distinct_below posted (length flags) d (below flags posted m)

flag_after_post : (flags : List Bool) (posted : List ℕ) (n : ℕ) → n < length flags → (q : ℕ) → slice_index_or flags q false ≡ list_any (nat_eq q) posted → slice_index_or (slice_set flags n true) q false ≡ (list_any (nat_eq q) posted || (nat_eq q n || false))
flag_after_post flags posted n lt q e = grind (arith, common_steps, nat_tests)

pub marked_post : (flags : List Bool) (posted : List ℕ) (n : ℕ) → n < length flags → IsMarked flags posted → IsMarked (slice_set flags n true) (posted ++ n ∷ [])
marked_post flags posted n lt m = λ q. flag_after_post flags posted n lt q (m q) ∙ sym (list_any-append (nat_eq q) posted (n ∷ []))

differs_from_new : (x n : ℕ) (xs : List ℕ) → AllByRecursion (λ y. nat_eq x y ≡ false) xs → nat_eq n x ≡ false → AllByRecursion (λ y. nat_eq x y ≡ false) (xs ++ n ∷ [])
differs_from_new x n [] _ h = (grind (arith, nat_tests), tt)
differs_from_new x n (y ∷ ys) all h = (all.0, differs_from_new x n ys all.1 h)

left_false : (a b : Bool) → (a || b) ≡ false → a ≡ false
left_false true b h = h
left_false false b h = refl

right_false : (a b : Bool) → (a || b) ≡ false → b ≡ false
right_false a true h = grind arith
right_false a false h = refl

pub distinct_post : (posted : List ℕ) (n : ℕ) → IsDistinct nat_eq posted → list_any (nat_eq n) posted ≡ false → IsDistinct nat_eq (posted ++ n ∷ [])
unfolding IsDistinct
distinct_post [] n d h = (tt, tt)
distinct_post (x ∷ xs) n d h = (differs_from_new x n xs d.0 (left_false (nat_eq n x) (list_any (nat_eq n) xs) h), distinct_post xs n d.1 (right_false (nat_eq n x) (list_any (nat_eq n) xs) h))

none_equal : (n : ℕ) (xs : List ℕ) → AllByRecursion (λ y. nat_eq n y ≡ false) xs → list_any (nat_eq n) xs ≡ false
none_equal n [] _ = refl
none_equal n (y ∷ ys) all = let e = all.0 in let f = none_equal n ys all.1 in cc

pub distinct_rest : (n : ℕ) (rest : List ℕ) → IsDistinct nat_eq (n ∷ rest) → IsDistinct nat_eq rest
unfolding IsDistinct
distinct_rest n rest d = d.1

pub alone : (n : ℕ) (rest : List ℕ) → IsDistinct nat_eq (n ∷ rest) → list_any (nat_eq n) rest ≡ false
unfolding IsDistinct
alone n rest d = none_equal n rest d.0

flag_after_take : (flags : List Bool) (rest : List ℕ) (n : ℕ) → n < length flags → list_any (nat_eq n) rest ≡ false → (q : ℕ) → slice_index_or flags q false ≡ (nat_eq q n || list_any (nat_eq q) rest) → slice_index_or (slice_set flags n false) q false ≡ list_any (nat_eq q) rest
flag_after_take flags rest n lt gone q e = grind (arith, common_steps, nat_tests)

pub marked_take : (flags : List Bool) (n : ℕ) (rest : List ℕ) → n < length flags → IsDistinct nat_eq (n ∷ rest) → IsMarked flags (n ∷ rest) → IsMarked (slice_set flags n false) rest
marked_take flags n rest lt d m = λ q. flag_after_take flags rest n lt (alone n rest d) q (m q)

-- a number that waits no more than once may be posted: there is room for it
pub has_room : (flags : List Bool) (posted : List ℕ) (n : ℕ) → n < length flags → IsMarked flags posted → IsDistinct nat_eq posted → list_any (nat_eq n) posted ≡ false → length posted < length flags
has_room flags posted n lt m d h =
    let le = fits (slice_set flags n true) (posted ++ n ∷ []) (marked_post flags posted n lt m) (distinct_post posted n d h) in
    grind (arith, common_steps)

-- the flag that was read says that the number does not wait
pub not_waiting : (flags : List Bool) (posted : List ℕ) (n : ℕ) (b : Bool) → IsMarked flags posted → b ≡ slice_index_or flags n b → b ≡ false → list_any (nat_eq n) posted ≡ false
not_waiting flags posted n b m k g = sym (m n) ∙ (sym (ap (slice_index_or flags n) g) ∙ (sym k ∙ g))

pub first_below : (flags : List Bool) (posted : List ℕ) (n : ℕ) (rest : List ℕ) → IsMarked flags posted → posted ≡ n ∷ rest → n < length flags
first_below flags posted n rest m e = below flags posted m n (subst (λ xs. list_any (nat_eq n) xs ≡ true) (sym e) (ap (λ b. b || list_any (nat_eq n) rest) (eq-eqb n n refl)))

-- as many flags as there is room, none of them set
pub all_clear : (flags : List Bool) (room : ℕ) → flags ≡ replicate room false → IsMarked flags []
all_clear flags room e = λ q. subst (λ (fs : List Bool). slice_index_or fs q false ≡ false) (sym e) (clear room q)
  where
    clear : (room q : ℕ) → slice_index_or (replicate room false) q false ≡ false
    clear zero q = refl
    clear (suc room) zero = refl
    clear (suc room) (suc q) = clear room q

pub none_distinct : IsDistinct nat_eq []
unfolding IsDistinct
none_distinct = tt
