-- What a step comes to for the places of the party that made it.
use Rattle.task_steps.specs.Values.{Values}
use Rattle.task_steps.specs.Rule.{IsFuture, IsOutput}
use Rattle.task_steps.specs.declared.table.Slot.TheVariants.{Empty, Future, Output}
use Rattle.task_steps.specs.declared.kept.StoredAwaiter.{StoredAwaiter}
use Rattle.task_cell.proofs.Vocabulary.{◌≡◌, ℕ, Bool, true, false, List, [], ◌∷◌, Option, refl, sym, ap, ◌∙◌, subst, Me, rest, Position, owns_awaiter, Slot, TaskPlace, First, Second, work_first, awaiter_first, Deed, View, Party, has_work, Works, Awaits}
use Rattle.task_cell.proofs.Vocabulary.{Carries, Carried, DidWith}

module _ {F T A : Type 0} where
  carries_kept : (values : Values F T) (a c : Bool) (q : Position) (l l' : List (ℕ × TaskPlace F T A)) → Carries values a a c c q l l' → l' ≡ l
  carries_kept values true true q l l' e = e
  carries_kept values true false q l l' e = e
  carries_kept values false true q l l' e = e
  carries_kept values false false q l l' e = e

  carries_awaiter : (values : Values F T) (a : Bool) (q : Position) (l l' : List (ℕ × TaskPlace F T A)) → Carries values a a false true q l l' → (y : Option (StoredAwaiter A)) × Awaits q y × (l' ≡ awaiter_first y l)
  carries_awaiter values true q l l' e = e
  carries_awaiter values false q l l' e = e

  carries_back : (values : Values F T) (a : Bool) (q : Position) (l l' : List (ℕ × TaskPlace F T A)) → Carries values a a true false q l l' → l' ≡ rest l
  carries_back values true q l l' e = e
  carries_back values false q l l' e = e

  at : (values : Values F T) (p q : Position) (l l' : List (ℕ × TaskPlace F T A)) (a b c d : Bool) → has_work p ≡ a → has_work q ≡ b → owns_awaiter p ≡ c → owns_awaiter q ≡ d → Carried values p q l l' → Carries values a b c d q l l'
  at values p q l l' a b c d e f g h x = subst (λ (z : Bool × Bool × Bool × Bool). Carries values z.0 z.1 z.2 z.3 q l l') (λ i. (e i, f i, g i, h i)) x

  pub keeps_places : (values : Values F T) (p q : Position) (l l' : List (ℕ × TaskPlace F T A)) → has_work q ≡ has_work p → owns_awaiter q ≡ owns_awaiter p → Carried values p q l l' → l' ≡ l
  keeps_places values p q l l' e f x = carries_kept values (has_work p) (owns_awaiter p) q l l' (at values p q l l' (has_work p) (has_work p) (owns_awaiter p) (owns_awaiter p) refl e refl f x)

  pub took_awaiter : (values : Values F T) (p q : Position) (l l' : List (ℕ × TaskPlace F T A)) → has_work q ≡ has_work p → owns_awaiter p ≡ false → owns_awaiter q ≡ true → Carried values p q l l' → (y : Option (StoredAwaiter A)) × Awaits q y × (l' ≡ awaiter_first y l)
  took_awaiter values p q l l' e f g x = carries_awaiter values (has_work p) q l l' (at values p q l l' (has_work p) (has_work p) false true refl e f g x)

  pub gave_awaiter : (values : Values F T) (p q : Position) (l l' : List (ℕ × TaskPlace F T A)) → has_work q ≡ has_work p → owns_awaiter p ≡ true → owns_awaiter q ≡ false → Carried values p q l l' → l' ≡ rest l
  gave_awaiter values p q l l' e f g x = carries_back values (has_work p) q l l' (at values p q l l' (has_work p) (has_work p) true false refl e f g x)

  pub took_work : (values : Values F T) (p q : Position) (l l' : List (ℕ × TaskPlace F T A)) → has_work p ≡ false → has_work q ≡ true → Carried values p q l l' → Works values q l l'
  took_work values p q l l' e f x = at values p q l l' false true (owns_awaiter p) (owns_awaiter q) e f refl refl x

  pub gave_work : (values : Values F T) (p q : Position) (l l' : List (ℕ × TaskPlace F T A)) → has_work p ≡ true → has_work q ≡ false → Carried values p q l l' → l' ≡ rest l
  gave_work values p q l l' e f x = at values p q l l' true false (owns_awaiter p) (owns_awaiter q) e f refl refl x

  -- another value is put into the place in front, which has the number k and such a value
  module _ {X : Type 0} (k : ℕ) (lies : X → TaskPlace F T A) (value : X → TaskPlace F T A → X) (is_value : (z x : X) → value z (lies x) ≡ x) where
    same_value : (y x : X) (l r : List (ℕ × TaskPlace F T A)) → (k, lies y) ∷ l ≡ (k, lies x) ∷ r → (y ≡ x) × (l ≡ r)
    same_value y x l r e = (sym (is_value y y) ∙ (ap (in_front y) e ∙ is_value y x), ap rest e)
      where
        in_front : X → List (ℕ × TaskPlace F T A) → X
        in_front z [] = z
        in_front z (c ∷ cs) = value z c.1

    exchanges : (p q r : Party F T A) (path : List Deed) (at : Position) (y x new : X) (held : List (ℕ × TaskPlace F T A)) → DidWith path at ((k, lies y) ∷ held) p q
        → r.seat.block ≡ q.seat.block → q.seat.me.1 ≡ (k, lies x) ∷ rest q.seat.me.1 → r.seat.me ≡ (q.seat.me.0, (k, lies new) ∷ rest q.seat.me.1) → (y ≡ x) × DidWith path at ((k, lies new) ∷ held) p r
    exchanges p q r path at y x new held g cell found left =
        let had : q.seat.me.1 ≡ (k, lies y) ∷ held = ap (λ (m : Me (TaskPlace F T A) View). m.1) g.is in
        let same = same_value y x held (rest q.seat.me.1) (sym had ∙ found) in (
          same.0,
          record {
            cell = cell ∙ g.cell;
            is = left ∙ (λ i. (ap (λ (m : Me (TaskPlace F T A) View). m.0) g.is i, (k, lies new) ∷ sym same.1 i));
          },
        )

  abbrev work_in : Slot F T → TaskPlace F T A → Slot F T
  work_in z (First y) = y
  work_in z (Second a) = z

  abbrev awaiter_in : Option (StoredAwaiter A) → TaskPlace F T A → Option (StoredAwaiter A)
  awaiter_in z (First y) = z
  awaiter_in z (Second a) = a

  -- the same place in front has the same value
  pub same_work : (y x : Slot F T) (l r s : List (ℕ × TaskPlace F T A)) → l ≡ work_first y r → l ≡ work_first x s → y ≡ x
  same_work y x l r s e f = (same_value 0 (λ y. First y) work_in (λ z x. refl) y x r s (sym e ∙ f)).0

  pub exchanges_work : (p q r : Party F T A) (path : List Deed) (at : Position) (y x new : Slot F T) (held : List (ℕ × TaskPlace F T A)) → DidWith path at (work_first y held) p q → r.seat.block ≡ q.seat.block
      → q.seat.me.1 ≡ work_first x (rest q.seat.me.1) → r.seat.me ≡ (q.seat.me.0, work_first new (rest q.seat.me.1)) → (y ≡ x) × DidWith path at (work_first new held) p r
  exchanges_work = exchanges 0 (λ y. First y) work_in (λ z x. refl)

  pub exchanges_awaiter : (p q r : Party F T A) (path : List Deed) (at : Position) (y x new : Option (StoredAwaiter A)) (held : List (ℕ × TaskPlace F T A)) → DidWith path at (awaiter_first y held) p q → r.seat.block ≡ q.seat.block
      → q.seat.me.1 ≡ awaiter_first x (rest q.seat.me.1) → r.seat.me ≡ (q.seat.me.0, awaiter_first new (rest q.seat.me.1)) → (y ≡ x) × DidWith path at (awaiter_first new held) p r
  exchanges_awaiter = exchanges 1 (λ a. Second a) awaiter_in (λ z x. refl)

-- the work that lies there is a future, or an output
module _ {F T : Type 0} (values : Values F T) where
  pub lies_future : (y : Slot F T) → IsFuture values y → (f : F) × (y ≡ Future f)
  lies_future Empty is = absurd is
  lies_future (Future f) is = (f, refl)
  lies_future (Output x) is = absurd is

  pub lies_output : (y : Slot F T) → IsOutput values y → (x : T) × (y ≡ Output x)
  lies_output Empty is = absurd is
  lies_output (Future f) is = absurd is
  lies_output (Output x) is = (x, refl)
