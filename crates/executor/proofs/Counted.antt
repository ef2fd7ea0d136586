-- Lists that grow at the end by what has the next number, and lists that shrink at the front.
use Rattle.std.proofs.Common.{arith, length-append, ◌≡◌, ℕ, zero, suc, ◌+◌, List, [], ◌∷◌, ◌++◌, length, drop, sym, refl, ap, ◌∙◌, subst}
use mathlib.Core.Option.{some, some-injective, some-ne-none}
use lib.ListN.{get_elem?}
use Rattle.std.proofs.lemmas.List.{append_assoc, append-nil}
use Rattle.std.proofs.lemmas.List.Elements.{All-append, All-cons, All-nil}
use Rattle.executor.specs.Appends.{Appends}

numbered : {A : Type 0} (P : ℕ → A → Type 0) (old : List A) (x : A) → ((i : ℕ) (a : A) → get_elem? old i ≡ some a → P i a) → P (length old) x → (i : ℕ) (a : A) → get_elem? (old ++ x ∷ []) i ≡ some a → P i a
numbered P [] x each last zero a at = subst (P 0) (some-injective x a at) last
numbered P [] x each last (suc i) a at = absurd (some-ne-none a (sym at))
numbered P (y ∷ ys) x each last zero a at = each 0 a at
numbered P (y ∷ ys) x each last (suc i) a at = numbered (λ k. P (suc k)) ys x (λ k b e. each (suc k) b e) last i a at

-- one more at the end of a list, of each item of which P holds at its number
pub numbered-more : {A : Type 0} (P : ℕ → A → Type 0) (old new : List A) (x : A) → new ≡ old ++ x ∷ [] → ((i : ℕ) (a : A) → get_elem? old i ≡ some a → P i a) → P (length old) x → (i : ℕ) (a : A) → get_elem? new i ≡ some a → P i a
numbered-more {A} P old new x is each last i a at = numbered P old x each last i a (ap (λ (l : List A). get_elem? l i) (sym is) ∙ at)

-- one more item, one longer
pub longer : {A : Type 0} {n : ℕ} (old new : List A) (x : A) → new ≡ old ++ x ∷ [] → length old ≡ n → length new ≡ n + 1
longer old new x is was = ap length is ∙ (length-append old (x ∷ []) ∙ ap (λ k. k + 1) was)

drop-nothing : {A : Type 0} (n : ℕ) → ◌≡◌ {A = List A} (drop n []) []
drop-nothing zero = refl
drop-nothing (suc n) = refl

-- one dropped after n is n + 1 dropped
drop-one : {A : Type 0} (n : ℕ) (l : List A) → drop 1 (drop n l) ≡ drop (n + 1) l
drop-one n [] = ap (drop 1) (drop-nothing n) ∙ sym (drop-nothing (n + 1))
drop-one zero (x ∷ l) = refl
drop-one (suc n) (x ∷ l) = let e : suc (n + 1) ≡ suc n + 1 = omega arith in drop-one n l ∙ ap (λ k. drop k (x ∷ l)) e

-- the front leaves what n that were dropped had left
pub dropped-more : {A : Type 0} (n : ℕ) (old : List A) {now new : List A} → new ≡ drop 1 now → now ≡ drop n old → new ≡ drop (n + 1) old
dropped-more n old is was = is ∙ (ap (drop 1) was ∙ drop-one n old)

-- nothing at the end
pub appends-none : {T : Type 0} {P : T → Type 0} (a : List T) → Appends P a a
appends-none {T} {P} a = record { added = []; behind = sym (append-nil a); each = All-nil P }

-- one item at the end
pub appends-one : {T : Type 0} {P : T → Type 0} {a b : List T} (x : T) → b ≡ a ++ x ∷ [] → P x → Appends P a b
appends-one {T} {P} x is holds = record { added = x ∷ []; behind = is; each = All-cons P x [] holds (All-nil P) }

-- what is appended in two parts
pub appends-more : {T : Type 0} {P : T → Type 0} {a b c : List T} → Appends P a b → Appends P b c → Appends P a c
appends-more {T} {P} {a} first second = record {
  added = first.added ++ second.added;
  behind = second.behind ∙ ap (λ (l : List T). l ++ second.added) first.behind ∙ append_assoc a first.added second.added;
  each = All-append P first.added second.added first.each second.each;
}
