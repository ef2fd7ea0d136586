-- What a clone comes to that is put into the awaiter slot, by what stood there.
use Rattle.task_steps.specs.declared.kept.StoredAwaiter.{StoredAwaiter}
use Rattle.task_cell.proofs.Vocabulary.{◌≡◌, ℕ, Bool, true, false, Option, Some, None, List, [], ◌∷◌, refl, sym, subst, held, Waits, Position, Registered, DropAwaiter, after_storing, Party}
use Rattle.task_cell.proofs.Vocabulary.{position, places_of, StandsWith, DidWith, act, dropped_if, poll_number, TaskPlace, awaiter_first}
use Rattle.task_laws.specs.declared.positions.Position.TheVariants.{OldAwaiterInHand}
use Rattle.task_cell.proofs.PollWays.{then_goes}
use Rattle.task_cell.proofs.Moved.{held_is, position_is, stands}
use Rattle.task_cell.specs.Stores.{PutsClone}
use Rattle.task_steps.specs.declared.places.Held.{Held}

over : {A : Type 0} (hand : Option ℕ) (found : Option (Held (StoredAwaiter A))) (a : Held (StoredAwaiter A)) → Waits hand (held found) → found ≡ Some a → (old : ℕ) × (hand ≡ Some old)
over (Some old) found a e f = (old, refl)
over {A = A} None found a e f = absurd (subst (λ (x : Option (Held (StoredAwaiter A))). Waits None (held x)) f e)

module _ {F T A : Type 0} where
  -- the clone was put in over an older awaiter, which is dropped, or where nothing stood
  pub stands_over : (i : ℕ) (hand : Option ℕ) (clone : StoredAwaiter A) (p q : Party F T A) (found : Option (Held (StoredAwaiter A))) (a : Held (StoredAwaiter A)) → PutsClone i hand clone p q found → found ≡ Some a → (old : ℕ) × StandsWith (OldAwaiterInHand i old) (awaiter_first (Some clone) []) q
  stands_over i hand clone p q found a x e = let o = over hand found a x.0 e in
      (o.0, subst (λ (h : Option ℕ). StandsWith (after_storing i h) (awaiter_first (Some clone) []) q) o.1 (stands p q [] (after_storing i hand) (awaiter_first (Some clone) []) x.1))

  abbrev pub Stored : StoredAwaiter A → Party F T A → Party F T A → Type 0
  Stored clone p q = (stood : Bool) × DidWith (dropped_if stood) (Registered (poll_number (position p))) (awaiter_first (Some clone) []) p q

  pub stored_over : (i : ℕ) (hand : Option ℕ) (y : Option (StoredAwaiter A)) (clone : StoredAwaiter A) (p q r : Party F T A) (found : Option (Held (StoredAwaiter A))) (a : Held (StoredAwaiter A)) → StandsWith (after_storing i hand) (awaiter_first y []) p → PutsClone i hand clone p q found → found ≡ Some a
      → DidWith (act DropAwaiter ∷ []) (Registered (poll_number (position q))) (places_of q) q r → Stored clone p r
  stored_over i hand y clone p q r found a s x e g = let held : List (ℕ × TaskPlace F T A) = awaiter_first (Some clone) [] in let at = after_storing i hand in let t = stands p q [] at held x.1 in (
    true,
    subst (λ (z : Position). DidWith (act DropAwaiter ∷ []) (Registered (poll_number z)) held p r) (sym (position_is p at (awaiter_first y []) s))
        (subst (λ l. DidWith (act DropAwaiter ∷ []) (Registered (poll_number at)) l p r) (held_is q at held t)
        (then_goes p q r [] (act DropAwaiter ∷ []) at held (places_of q) (λ z. Registered (poll_number z)) x.1 g)),
  )

  pub stored_alone : (i : ℕ) (hand : Option ℕ) (y : Option (StoredAwaiter A)) (clone : StoredAwaiter A) (p q : Party F T A) (found : Option (Held (StoredAwaiter A))) → StandsWith (after_storing i hand) (awaiter_first y []) p → PutsClone i hand clone p q found → found ≡ None → Stored clone p q
  stored_alone i None y clone p q found s x e = (false, subst (λ (z : Position). DidWith [] (Registered (poll_number z)) (awaiter_first (Some clone) []) p q) (sym (position_is p (Registered i) (awaiter_first y []) s)) x.1)
  stored_alone i (Some old) y clone p q found s x e = absurd (subst (λ (x : Option (Held (StoredAwaiter A))). Waits (Some old) (held x)) e x.0)
