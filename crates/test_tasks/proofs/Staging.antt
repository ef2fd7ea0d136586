-- The steps of the one seat of a block keep the rule.
use Rattle.std.proofs.Common.{◌≡◌, inr, ℕ, ◌+◌, Bool, true, eqb, [], ◌∷◌, List, slice_index, slice_set, sym, refl, ap, ◌∙◌, arith}
use lib.ListN.{get_elem?}
use mathlib.Core.Option.{Option, none, some, some-injective}
use Rattle.atomic_table.specs.Table.{State, Me, keeps, takes, chain, Allows}
use Rattle.counted_block.specs.declared.place.Place.{Place}
use Rattle.counted_block.specs.declared.place.Place.TheVariants.{First, Second}
use Rattle.counted_block.specs.Blocks.{word_of}
use Rattle.counted_block.specs.Counts.{Less, Notes}
use Rattle.test_tasks.specs.Stages.{word_at, shares_at, Staged, Taken}

-- the view of the one seat
only : {V : Type 0} (vs : List V) (u : V) (id : ℕ) (v : V) → vs ≡ u ∷ [] → id ≡ 0 → get_elem? vs id ≡ some v → u ≡ v
only vs u id v are first at = some-injective u v (sym (λ i. get_elem? (are i) (first i)) ∙ at)

module _ (id : ℕ) (me : Me (Place ℕ ℕ) ℕ) (first : id ≡ 0) (from : ℕ) (now : me.0 ≡ from) where
  staged : (s : State (Place ℕ ℕ) ℕ) → Staged s → get_elem? s.views id ≡ some me.0 → s.words ≡ word_at from ∷ []
  staged s h at = h.2 ∙ ap (λ (k : ℕ). word_at k ∷ []) (only s.views h.0 id me.0 h.1 first at ∙ now)

  pub steps : (f : ℕ → ℕ) (to : ℕ) → f (word_at from) ≡ word_at to → Allows Staged 2 id me 0 f (λ n after. (n ≡ word_at from) × (after.0 ≡ to))
  steps f to goes s h both at small = let words = staged s h at in (to, keeps, tt, (to, (λ i. slice_set (h.1 i) (first i) to), ap (λ (ns : List ℕ). slice_set ns 0 (f (slice_index ns 0))) words ∙ ap (λ (w : ℕ). w ∷ []) goes), (ap (λ (ns : List ℕ). slice_index ns 0) words, refl))

  pub fewer : (f : ℕ → ℕ) (counts lasts : ℕ → Bool) → counts (word_at from) ≡ true → f (word_at from) + 1 ≡ word_at from → lasts (word_at from) ≡ eqb (f (word_at from)) 0 → Less {S = Place ℕ ℕ} Staged (λ n. n) id me.0 f counts lasts
  fewer f counts lasts so one last s h at = let is : word_of s ≡ word_at from = ap (λ (ns : List ℕ). slice_index ns 0) (staged s h at) in inr (ap counts is ∙ so, ap (λ (n : ℕ). f n + 1) is ∙ one ∙ sym is, ap lasts is ∙ last ∙ sym (ap (λ (n : ℕ). eqb (f n) 0) is))

  pub notes : (to : ℕ) → word_at from ≡ word_at to → Notes Staged id me (λ _ after. after.0 ≡ to)
  notes to same s h both at small = (to, (to, (λ i. slice_set (h.1 i) (first i) to), ap (λ (ns : List ℕ). slice_set ns 0 (slice_index ns 0)) (staged s h at) ∙ ap (λ (w : ℕ). w ∷ []) same), refl)

  shared : (s : State (Place ℕ ℕ) ℕ) → Taken s → get_elem? s.views id ≡ some me.0 → s.words ≡ shares_at from ∷ []
  shared s h at = h.2 ∙ ap (λ (k : ℕ). shares_at k ∷ []) (only s.views h.0 id me.0 h.1 first at ∙ now)

  -- the seat has the slots, and goes to another stage at which it has them
  pub goes_on : (f : ℕ → ℕ) (to : ℕ) → ¬ (to ≡ 0) → f (shares_at from) ≡ shares_at to → Allows Taken 2 id me 0 f (λ n after. (n ≡ shares_at from) × (after ≡ (to, me.1)))
  goes_on f to has goes s h both at small = let words = shared s h at in (
    to,
    keeps,
    tt,
    (to, (λ i. slice_set (h.1 i) (first i) to), ap (λ (ns : List ℕ). slice_set ns 0 (f (slice_index ns 0))) words ∙ ap (λ (w : ℕ). w ∷ []) goes, (λ e. absurd (has e))),
    (ap (λ (ns : List ℕ). slice_index ns 0) words, refl),
  )

  pub gives : (f : ℕ → ℕ) → f (shares_at from) + 1 ≡ shares_at from → true ≡ eqb (f (shares_at from)) 0 → Less {S = Place ℕ ℕ} Taken (λ n. n) id me.0 f (λ _. true) (λ _. true)
  gives f one last s h at = let is : word_of s ≡ shares_at from = ap (λ (ns : List ℕ). slice_index ns 0) (shared s h at) in inr (refl, ap (λ (n : ℕ). f n + 1) is ∙ one ∙ sym is, last ∙ sym (ap (λ (n : ℕ). eqb (f n) 0) is))

some_stage : ◌≡◌ {A = ℕ} 1 0 → ⊥
some_stage e = omega (arith, e)

pub gone_stage : ¬ (◌≡◌ {A = ℕ} 2 0)
gone_stage e = omega (arith, e)

pub may_take : (id : ℕ) (me : Me (Place ℕ ℕ) ℕ) → id ≡ 0 → me ≡ (0, []) → Allows Taken 2 id me 0 (λ n. n) (λ _ after. (x : ℕ) × (y : ℕ) × (after ≡ (1, (1, Second y) ∷ (0, First x) ∷ [])))
may_take id me first has_none s h both at small =
    let untaken : h.0 ≡ 0 = only s.views h.0 id me.0 h.1 first at ∙ ap (λ (m : Me (Place ℕ ℕ) ℕ). m.0) has_none in let slots = h.3 untaken in let x = slots.0 in let y = slots.1 in (
      1,
      chain (takes 0 (First x)) (takes 1 (Second y)),
      (ap (λ (hs : List (Option (Place ℕ ℕ))). get_elem? hs 0) slots.2, ap (λ (hs : List (Option (Place ℕ ℕ))). get_elem? (slice_set hs 0 none) 1) slots.2),
      (1, (λ i. slice_set (h.1 i) (first i) 1), ap (λ (ns : List ℕ). slice_set ns 0 (slice_index ns 0)) (h.2 ∙ ap (λ (k : ℕ). shares_at k ∷ []) untaken), (λ e. absurd (some_stage e))),
      (x, y, ap (λ (m : Me (Place ℕ ℕ) ℕ). (1, (1, Second y) ∷ (0, First x) ∷ m.1)) has_none),
    )
