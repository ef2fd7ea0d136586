-- A seat that comes, an owner more and an owner less keep the rule.
use Rattle.std.proofs.Common.{◌≡◌, ◌⊎◌, inl, inr, ⊎_elim, ℕ, zero, suc, ◌+◌, ◌-◌, ◌%◌, ◌^◌, ◌<◌, ◌≤◌, Bool, true, false, true≢false, eqb, eqb→eq, eq-eqb, ne_eqb, List, [], ◌∷◌, ◌++◌, length, slice_index, slice_set, sym, refl, ap, ◌∙◌, subst, arith, length-set}
use lib.ListN.{get_elem?}
use mathlib.Core.Bool.{not}
use mathlib.Core.Option.{some, some-injective, some-ne-none}
use mathlib.Core.Logic.{dite}
use native.Mathlib.Decide.{ℕ_discrete}
use prog.Atomic.{either}
use Rattle.std.specs.Prelude.{MatchBool}
use Rattle.atomic_table.specs.Table.{State, Act, Me, step, stepped, keeps, Valid, Allows, Enters}
use Rattle.atomic_table.proofs.Lists.{at_set, at_snoc}
use Rattle.counted_block.specs.declared.place.Place.{Place}
use Rattle.counted_block.specs.Blocks.{word_of}
use Rattle.counted_block.specs.Counts.{More, Less}
use Rattle.test_tasks.specs.declared.blocks.law.View.{View}
use Rattle.test_tasks.specs.Counting.{view, total, Agrees, Entered, gains_share, Gained, Parted}
use mathlib.Core.Option as maybe

abbrev U : Type 0
U = Place (Unit {0}) (Unit {0})

total_set : (vs : List View) (i : ℕ) (v w : View) → get_elem? vs i ≡ some v → total (slice_set vs i w) + v.owners ≡ total vs + w.owners
total_set [] i v w at = absurd (some-ne-none v (sym at))
total_set (u ∷ us) zero v w at = let e : u.owners ≡ v.owners = ap (λ (x : View). x.owners) (some-injective u v at) in omega arith
total_set (u ∷ us) (suc i) v w at = let h = total_set us i v w at in omega arith

total_at : (vs : List View) (i : ℕ) (v : View) → get_elem? vs i ≡ some v → v.owners ≤ total vs
total_at [] i v at = absurd (some-ne-none v (sym at))
total_at (u ∷ us) zero v at = let e : u.owners ≡ v.owners = ap (λ (x : View). x.owners) (some-injective u v at) in omega arith
total_at (u ∷ us) (suc i) v at = let h = total_at us i v at in omega arith

total_snoc : (vs : List View) (w : View) → total (vs ++ w ∷ []) ≡ total vs + w.owners
total_snoc [] w = omega arith
total_snoc (u ∷ us) w = let h = total_snoc us w in omega arith

first_set : (ns : List ℕ) (n : ℕ) → length ns ≡ 1 → slice_index (slice_set ns 0 n) 0 ≡ n
first_set [] n l = absurd (omega arith)
first_set (m ∷ ms) n l = refl

pub enters : (before : Me U View) → Enters {S = U} Agrees 2 0 (λ n w. Entered (step 2 0 0 0 maybe.none) before n (w, []))
enters before s h two small = let t = total_snoc s.views (view 0) in let sum = h.1 in (view 0, (h.0, omega arith, h.2), refl)

module _ (id : ℕ) (me : Me U View) (old : ℕ) (guest : me.0 ≡ view 0) (room : old < 4611686018427387903) where
  abbrev f : ℕ → ℕ
  f n = either (eqb n old) (old + 1) n

  abbrev Goes : State U View → Bool → Type 0
  Goes s y = (w : View) × (a : Act U) × Valid s.homes me.1 a × Agrees (stepped s 0 (either y (old + 1) (word_of s)) id me.1 w a) × MatchBool y (w ≡ view 1) (w ≡ view 0)

  goes : (s : State U View) → Agrees s → get_elem? s.views id ≡ some me.0 → (y : Bool) → eqb (word_of s) old ≡ y → Goes s y
  goes s h at true e = let n = word_of s in let is : n ≡ old = eqb→eq n old (subst lib.Dec.T (sym e) tt) in let w = view 1 in let now = first_set s.words (old + 1) h.0 in let sum = h.1 in
      let none : me.0.owners ≡ 0 = ap (λ (x : View). x.owners) guest in let t = total_set s.views id me.0 w at in
      (w, keeps, tt, (length-set s.words 0 (old + 1) ∙ h.0, omega arith, omega arith), refl)
  goes s h at false e = let n = word_of s in let w = view 0 in let now = first_set s.words n h.0 in let sum = h.1 in let most = h.2 in
      let none : me.0.owners ≡ 0 = ap (λ (x : View). x.owners) guest in let t = total_set s.views id me.0 w at in
      (w, keeps, tt, (length-set s.words 0 n ∙ h.0, omega arith, omega arith), refl)

  pub gains : Allows Agrees 2 id me 0 f (Gained (step 2 0 old (old + 1) maybe.none) me)
  gains s h two at small = goes s h at (eqb (word_of s) old) refl

  grows_by : (n : ℕ) (y : Bool) → eqb n old ≡ y → (y ≡ false) × (either y (old + 1) n ≡ n) ⊎ (y ≡ true) × (either y (old + 1) n ≡ n + 1) × (n + 1 < 4611686018427387904)
  grows_by n false e = inl (refl, refl)
  grows_by n true e = let is : n ≡ old = eqb→eq n old (subst lib.Dec.T (sym e) tt) in inr (refl, omega arith, omega arith)

  pub grows : More {S = U} Agrees (λ n. n) id me.0 f (gains_share {S = U} (step 2 0 old (old + 1) maybe.none))
  grows s h at = grows_by (word_of s) (eqb (word_of s) old) refl

abbrev less : ℕ → ℕ
less n = (n + (2 ^ 64 - 1)) % 2 ^ 64

module _ (id : ℕ) (me : Me U View) (mine : me.0 ≡ view 1) where
  has_one : (s : State U View) → Agrees s → get_elem? s.views id ≡ some me.0 → 0 < word_of s
  has_one s h at = let t = total_at s.views id me.0 at in let e : me.0.owners ≡ 1 = ap (λ (x : View). x.owners) mine in let sum = h.1 in omega arith

  pub parts : Allows Agrees 2 id me 0 less (Parted (step 2 0 1 0 maybe.none) me)
  parts s h two at small = let n = word_of s in let some_one = has_one s h at in let w = view 0 in let now = first_set s.words (less n) h.0 in let sum = h.1 in let most = h.2 in
      let e : me.0.owners ≡ 1 = ap (λ (x : View). x.owners) mine in let t = total_set s.views id me.0 w at in let one_less : less n ≡ n - 1 = omega arith in
      (w, keeps, tt, (length-set s.words 0 (less n) ∙ h.0, omega arith, omega arith), refl)

  pub fewer : Less {S = U} Agrees (λ n. n) id me.0 less (λ _. true) (λ n. eqb n 1)
  fewer s h at = let n = word_of s in let most = h.2 in let some_one = has_one s h at in let is : less n ≡ n - 1 = omega arith in
      inr (refl, omega arith, dite (ℕ_discrete n 1) (λ e. eq-eqb n 1 e ∙ sym (eq-eqb (less n) 0 (omega arith))) (λ ne. ne_eqb n 1 ne ∙ sym (ne_eqb (less n) 0 (λ none. ne (omega arith)))))
