-- Lists of which each item has to do with its place.
use Rattle.std.proofs.Common.{◌≡◌, ◌<◌, ◌+◌, ◌++◌, ℕ, zero, suc, List, [], ◌∷◌, length, get_or, sym, subst, arith}

-- one more item at the end
pub placed : {T : Type 0} (P : ℕ → T → Type 0) (old : List T) (x : T) → ((i : ℕ) (d : T) → i < length old → P i (get_or old i d)) → P (length old) x → (i : ℕ) (d : T) → i < length old + 1 → P i (get_or (old ++ x ∷ []) i d)
placed P [] x each last zero d below = last
placed P [] x each last (suc i) d below = absurd (omega (arith, below))
placed P (y ∷ ys) x each last zero d below = each 0 d (omega arith)
placed P (y ∷ ys) x each last (suc i) d below = placed (λ k. P (suc k)) ys x (λ k e b. each (suc k) e (omega (arith, b))) last i d (omega (arith, below))

-- one more item at the end of the list of a loop
pub placed-more : {T : Type 0} (P : ℕ → T → Type 0) (old new : List T) (x : T) (n : ℕ) → new ≡ old ++ x ∷ [] → length old ≡ n → ((i : ℕ) (d : T) → i < n → P i (get_or old i d)) → P n x → (i : ℕ) (d : T) → i < n + 1 → P i (get_or new i d)
placed-more {T} P old new x n is count each last i d below = subst (λ (l : List T). P i (get_or l i d)) (sym is) (placed P old x (λ k e b. each k e (omega (arith, b, count))) (subst (λ k. P k x) (sym count) last) i d (omega (arith, below, count)))
