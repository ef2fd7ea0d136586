-- How the seat of a waker changes outside a row: its newest party leaves it.
use Rattle.std.proofs.Common.{◌≡◌, ℕ, ◌+◌, ◌≢◌, List, [], ◌∷◌, ◌++◌, length, set, sym, refl, ap, ◌∙◌, subst, arith}
use mathlib.Core.Option.{some}
use lib.ListN.{get_elem?}
use Rattle.atomic_table.specs.Table.{State as Board, Splits}
use Rattle.atomic_table.proofs.Lists.{at_longer, set_again}
use Rattle.task_steps.proofs.Vocabulary.{TaskPlace, Member, View}
use Rattle.task_steps.specs.Values.{Values}
use Rattle.task_steps.specs.Rule.{view, Explains, RuleHolds}
use Rattle.task_steps.specs.Beside.{others, newest_of, without_newest, newest}
use Rattle.task_steps.proofs.Explains.{inside, at_second}
use Rattle.task_steps.proofs.Seats.{leaves, retold}

pub others_are : (u n : Member) (us : List Member) → others (u ∷ (us ++ n ∷ [])) ≡ u ∷ us
others_are u n [] = refl
others_are u n (w ∷ us) = ap (λ l. u ∷ l) (others_are w n us)

pub newest_is : (u n : Member) (us : List Member) → newest_of (u ∷ (us ++ n ∷ [])) ≡ n ∷ []
newest_is u n [] = refl
newest_is u n (w ∷ us) = newest_is w n us

module _ (F T A : Type 0) (values : Values F T) (limit : ℕ) where
  abbrev B : Type 0
  B = Board (TaskPlace F T A) View

  abbrev Rule : B → Type 0
  Rule = RuleHolds {A = A} values limit

  -- the newest party gets a seat of its own
  pub parts_newest : (id : ℕ) (v : View) (l : ℕ) (u n : Member) (us : List Member) → v ≡ view l (u ∷ (us ++ n ∷ [])) → Splits Rule id v (without_newest v) (newest v)
  parts_newest id v l u n us is s r at = let ms : List Member = u ∷ (us ++ n ∷ []) in let run = r.running in
      let t0 = subst (λ vs. Explains limit vs run.log run.machine) (sym (ap (λ z. set s.views id z) (sym is) ∙ set_again s.views id v at)) run.told in
      let t1 = leaves limit s.views id l run.log run.machine ms (u ∷ us) n (length (u ∷ us)) t0 (inside s.views id v at) last kept in
      let left : view l (u ∷ us) ≡ without_newest v = ap (view l) (sym (others_are u n us)) ∙ ap without_newest (sym is) in
      let right : view l (n ∷ []) ≡ newest v = ap (view l) (sym (newest_is u n us)) ∙ ap newest (sym is) in
      subst (λ vs. Rule record { words = s.words; homes = s.homes; views = vs }) (λ j. set s.views id (left j) ++ right j ∷ [])
      (retold F T A values limit s r.capped run (set s.views id (view l (u ∷ us)) ++ view l (n ∷ []) ∷ []) run.log run.machine t1 refl run.limited run.housed)
    where
      last : get_elem? (u ∷ (us ++ n ∷ [])) (length (u ∷ us)) ≡ some n
      last = let e : length (u ∷ us) + 0 ≡ length (u ∷ us) = omega arith in subst (λ (k : ℕ). get_elem? (u ∷ (us ++ n ∷ [])) k ≡ some n) e (at_second (u ∷ us) (n ∷ []) 0 n refl)

      kept : (j : ℕ) (x : Member) → get_elem? (u ∷ us) j ≡ some x → (get_elem? (u ∷ (us ++ n ∷ [])) j ≡ some x) × (j ≢ length (u ∷ us))
      kept j x e = (at_longer (u ∷ us) (n ∷ []) j x e, λ z. let lt = inside (u ∷ us) j x e in omega arith)
