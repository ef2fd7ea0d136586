-- Numbers that move one by one, in their order, each at most once.
use Rattle.std.proofs.Common.{◌≡◌, ◌∙◌, ℕ, Bool, false, true, not, List, [], ◌∷◌, ◌++◌, refl, sym, ap, subst, append_assoc, arith}
use Rattle.std.specs.Prelude.{nat_eq}
use Rattle.std.specs.List.{IsDistinct, list_any, AllByRecursion}
use Rattle.std.proofs.lemmas.Bool.Decides.{nat_tests}

differs : (x n : ℕ) (xs rest : List ℕ) → AllByRecursion (λ y. nat_eq x y ≡ false) (xs ++ n ∷ rest) → nat_eq n x ≡ false
differs x n [] rest all = let e = all.0 in grind (arith, nat_tests)
differs x n (y ∷ ys) rest all = differs x n ys rest all.1

-- the next number has not moved yet
pub not_moved : (xs : List ℕ) (n : ℕ) (rest : List ℕ) → IsDistinct nat_eq (xs ++ n ∷ rest) → list_any (nat_eq n) xs ≡ false
unfolding IsDistinct
not_moved [] n rest d = refl
not_moved (x ∷ xs) n rest d = let e = differs x n xs rest d.0 in let f = not_moved xs n rest d.1 in cc

-- one more has moved, and all stand in their order
pub moved : (wider after left rest all : List ℕ) (n : ℕ) (joined : Bool) → wider ++ left ≡ all → IsDistinct nat_eq all → left ≡ n ∷ rest → joined ≡ not (list_any (nat_eq n) wider) → (joined ≡ true → after ≡ wider ++ n ∷ []) → after ++ rest ≡ all
moved wider after left rest all n joined order distinct taken first joins =
    let same = sym (ap (λ xs. wider ++ xs) taken) ∙ order in
    let gone = not_moved wider n rest (subst (IsDistinct nat_eq) (sym same) distinct) in
    ap (λ xs. xs ++ rest) (joins (first ∙ ap not gone)) ∙ append_assoc wider (n ∷ []) rest ∙ same
