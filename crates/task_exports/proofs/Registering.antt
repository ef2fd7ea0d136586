-- What the steps come to by which a poll registers its awaiter.
use Rattle.task_cell.proofs.Vocabulary.{TaskPlace, awaiter_first}
use Rattle.std.proofs.Common.{◌≡◌, ℕ, Bool, true, false, List, [], ◌∷◌, Option, Some, None, is_some, refl, sym, ap, ◌∙◌, subst}
use Rattle.task_core.specs.Word.{State}
use Rattle.task_core.specs.declared.acts.Act.TheVariants.{CloneAwaiter, DropAwaiter, BeginRegister, EndRegister, FindNotify, StoreAwaiter, TakeAwaiter}
use Rattle.task_cell.proofs.Moved.{did_then, held_is, position_is, stands}
use Rattle.task_cell.specs.Calls.{Did, DidWith, Stands, StandsWith, places_of, position}
use Rattle.task_cell.specs.PollPaths.{BeginsRegister, EndsRegister, begins, dropped_if, ends, finds_notified, finds_one}
use Rattle.task_cell.specs.Stores.{PutsClone}
use Rattle.task_cell.specs.declared.cell.Party.{Party}
use Rattle.task_exports.specs.TaskAnswers.{EndsStore, HasStored, IsStored, LooksOn, PutsIn, Settles, Stores, alone, end_missed, finds_notifier, has_to_take_back, looks, over, stores}
use Rattle.task_laws.specs.Table.{after_storing}
use Rattle.task_laws.specs.declared.positions.Position.{Position}
use Rattle.task_laws.specs.declared.positions.Position.TheVariants.{Looking, OldAwaiterInHand, Registered, Registrar, TookBack, UnusedClone}
use Rattle.task_steps.specs.Held.{held}
use Rattle.task_steps.specs.Stored.{stored_by}
use Rattle.task_steps.specs.declared.kept.StoredAwaiter.{StoredAwaiter}
use Rattle.task_steps.proofs.Bools.{never}
use Rattle.task_steps.specs.Deeds.{act, row}
use Rattle.task_steps.specs.Rule.{Waits}
use Rattle.task_steps.specs.Standing.{poll_number}
use Rattle.task_steps.specs.declared.places.Held.{Held}
use Rattle.task_steps.specs.declared.table.Deed.{Deed}

-- the clone was put in over an older awaiter, or where nothing stood
stored_over : {A : Type 0} (hand : Option ℕ) (found : Option (Held (StoredAwaiter A))) (a : Held (StoredAwaiter A)) → Waits hand (held found) → found ≡ Some a → IsStored hand 21
stored_over (Some old) found a e f = over old
stored_over {A = A} None found a e f = absurd (subst (λ (x : Option (Held (StoredAwaiter A))). Waits None (held x)) f e)

stored_alone : {A : Type 0} (hand : Option ℕ) (found : Option (Held (StoredAwaiter A))) → Waits hand (held found) → found ≡ None → IsStored hand 20
stored_alone None found e f = alone
stored_alone {A = A} (Some old) found e f = absurd (subst (λ (x : Option (Held (StoredAwaiter A))). Waits (Some old) (held x)) f e)

-- the number of the poll that takes the place
number_after : (i : ℕ) (hand : Option ℕ) → poll_number (after_storing i hand) ≡ i
number_after i None = refl
number_after i (Some old) = refl

module _ {F T A : Type 0} where
  pub number_of_storing : (p : Party F T A) (i : ℕ) (hand : Option ℕ) (y : Option (StoredAwaiter A)) → StandsWith (after_storing i hand) (awaiter_first y []) p → poll_number (position p) ≡ i
  number_of_storing p i hand y s = ap poll_number (position_is p (after_storing i hand) (awaiter_first y []) s) ∙ number_after i hand

  pub put_over : (i : ℕ) (hand : Option ℕ) (clone : StoredAwaiter A) (p q : Party F T A) (found : Option (Held (StoredAwaiter A))) (a : Held (StoredAwaiter A)) → stored_by clone ≡ i → PutsClone i hand clone p q found → found ≡ Some a → PutsIn i hand p q 21
  put_over i hand clone p q found a by x e = (stored_over hand found a x.0 e, clone, by, x.1)

  pub put_alone : (i : ℕ) (hand : Option ℕ) (clone : StoredAwaiter A) (p q : Party F T A) (found : Option (Held (StoredAwaiter A))) → stored_by clone ≡ i → PutsClone i hand clone p q found → found ≡ None → PutsIn i hand p q 20
  put_alone i hand clone p q found by x e = (stored_alone hand found x.0 e, clone, by, x.1)

  -- the place was taken for it
  abbrev pub Begun : ℕ → Party F T A → Type 0
  Begun i q = (hand : Option ℕ) × (y : Option (StoredAwaiter A)) × StandsWith (after_storing i hand) (awaiter_first y []) q × Waits hand y

  begun_at : (i : ℕ) (p q : Party F T A) → Stands (Registrar i) p → BeginsRegister p q true
      → (w : State) × (hand : Option ℕ) × (y : Option (StoredAwaiter A)) × (w.notifying ≡ false) × Waits hand y × DidWith (act CloneAwaiter ∷ row BeginRegister w ∷ act StoreAwaiter ∷ []) (after_storing i hand) (awaiter_first y []) p q
  begun_at i p q s (begins w hand y e h g) = (w, hand, y, e, h, subst (λ (at : Position). DidWith (act CloneAwaiter ∷ row BeginRegister w ∷ act StoreAwaiter ∷ []) (after_storing (poll_number at) hand) (awaiter_first y []) p q) (position_is p (Registrar i) [] s) g)

  pub has_begun : (i : ℕ) (p q : Party F T A) → Stands (Registrar i) p → BeginsRegister p q true → (j : ℕ) × Begun j q
  has_begun i p q s b = let x = begun_at i p q s b in (i, (x.1, x.2, stands p q (act CloneAwaiter ∷ row BeginRegister x.0 ∷ act StoreAwaiter ∷ []) (after_storing i x.1) (awaiter_first x.2 []) x.5, x.4))

  pub stored : (i : ℕ) (p q r : Party F T A) (a : ℕ) → Stands (Registrar i) p → BeginsRegister p q true
      → ((j : ℕ) (hand : Option ℕ) (y : Option (StoredAwaiter A)) → StandsWith (after_storing j hand) (awaiter_first y []) q → Waits hand y → PutsIn j hand q r a) → Stores i p r a
  stored i p q r a s b f = let x = begun_at i p q s b in let path : List Deed = act CloneAwaiter ∷ row BeginRegister x.0 ∷ act StoreAwaiter ∷ [] in let at = after_storing i x.1 in
      let y = f i x.1 x.2 (stands p q path at (awaiter_first x.2 []) x.5) x.4 in
      stores x.0 x.1 y.1 a x.3 y.0 y.2 (did_then p q r path [] at at (awaiter_first x.2 []) (awaiter_first (Some y.1) []) x.5 y.3)

  pub found_notifier : (i : ℕ) (p q : Party F T A) → Stands (Registrar i) p → BeginsRegister p q false → Stores i p q 22
  found_notifier i p q s (finds_one w e g) = finds_notifier w e (subst (λ (at : Position). Did (act CloneAwaiter ∷ row FindNotify w ∷ []) (UnusedClone (poll_number at)) p q) (position_is p (Registrar i) [] s) g)

  -- the older awaiter was dropped, where one stood
  pub over_old : (i : ℕ) (stood : Bool) (p : Party F T A) → HasStored i stood p → stood ≡ true → (j : ℕ) × (old : ℕ) × (clone : StoredAwaiter A) × StandsWith (OldAwaiterInHand j old) (awaiter_first (Some clone) []) p
  over_old i stood p (Some old, clone, e, by, s) f = (i, old, clone, s)
  over_old i stood p (None, clone, e, by, s) f = never (e ∙ f)

  pub settled : (i : ℕ) (stood : Bool) (p q : Party F T A) → HasStored i stood p → stood ≡ true → DidWith (act DropAwaiter ∷ []) (Registered (poll_number (position p))) (places_of p) p q → Settles i stood p q
  settled i stood p q (Some old, clone, e, by, s) f g = let at = OldAwaiterInHand i old in let held : List (ℕ × TaskPlace F T A) = awaiter_first (Some clone) [] in (
    clone,
    by,
    subst (λ (b : Bool). DidWith (dropped_if b) (Registered i) held p q) (sym f)
        (subst (λ (z : Position × List (ℕ × TaskPlace F T A)). DidWith (act DropAwaiter ∷ []) (Registered (poll_number z.0)) z.1 p q) (λ j. (position_is p at held s j, held_is p at held s j)) g),
  )
  settled i stood p q (None, clone, e, by, s) f g = never (e ∙ f)

  pub nothing_stood : (i : ℕ) (stood : Bool) (p : Party F T A) → HasStored i stood p → stood ≡ false → Settles i stood p p
  nothing_stood i stood p (None, clone, e, by, s) f = (clone, by, subst (λ (b : Bool). DidWith (dropped_if b) (Registered i) (awaiter_first (Some clone) []) p p) (sym f) (record { cell = refl; is = s }))
  nothing_stood i stood p (Some old, clone, e, by, s) f = never (sym f ∙ sym e)

  pub has_settled : (i : ℕ) (stood : Bool) (p q : Party F T A) → Settles i stood p q → HasStored i false q
  has_settled i stood p q x = (None, x.0, refl, x.1, stands p q (dropped_if stood) (Registered i) (awaiter_first (Some x.0) []) x.2)

  -- the place is given back
  pub is_registered : (i : ℕ) (p : Party F T A) → HasStored i false p → (j : ℕ) × (clone : StoredAwaiter A) × StandsWith (Registered j) (awaiter_first (Some clone) []) p × (stored_by clone ≡ j)
  is_registered i p (None, clone, e, by, s) = (i, clone, s, by)
  is_registered i p (Some old, clone, e, by, s) = never (sym e)

  ended_at : (i : ℕ) (clone : StoredAwaiter A) (p q : Party F T A) → StandsWith (Registered i) (awaiter_first (Some clone) []) p → EndsRegister p q true → (v : State) × (v.notifying ≡ false) × Did (row EndRegister v ∷ []) (Looking i) p q
  ended_at i clone p q s (ends v e g) = (v, e, subst (λ (at : Position). Did (row EndRegister v ∷ []) (Looking (poll_number at)) p q) (position_is p (Registered i) (awaiter_first (Some clone) []) s) g)

  pub is_looking : (i : ℕ) (p q : Party F T A) → HasStored i false p → EndsRegister p q true → (j : ℕ) × Stands (Looking j) q
  is_looking i p q h e = let s = is_registered i p h in let x = ended_at s.0 s.1 p q s.2 e in (s.0, stands p q (row EndRegister x.0 ∷ []) (Looking s.0) [] x.2)

  pub looks_now : (i : ℕ) (p q r : Party F T A) (a : ℕ) → HasStored i false p → EndsRegister p q true → ((j : ℕ) → Stands (Looking j) q → LooksOn j q r a) → EndsStore i false p r a
  looks_now i p q r a (None, clone, e, by, s) x f = let y = ended_at i clone p q s x in looks y.0 a y.1 (q, y.2, f i (stands p q (row EndRegister y.0 ∷ []) (Looking i) [] y.2))
  looks_now i p q r a (Some old, clone, e, by, s) x f = never (sym e)

  pub takes_back : (i : ℕ) (p q : Party F T A) → HasStored i false p → EndsRegister p q false → EndsStore i false p q 23
  takes_back i p q (None, clone, e, by, s) (finds_notified g) = let held : List (ℕ × TaskPlace F T A) = awaiter_first (Some clone) [] in has_to_take_back clone
      (subst (λ (z : Position × List (ℕ × TaskPlace F T A)). DidWith (act TakeAwaiter ∷ []) (TookBack (poll_number z.0)) z.1 p q) (λ j. (position_is p (Registered i) held s j, held_is p (Registered i) held s j)) g)
  takes_back i p q (Some old, clone, e, by, s) x = never (sym e)

  pub stored_after : (i : ℕ) (stood : Bool) (p q r : Party F T A) (a : ℕ) → Settles i stood p q → EndsStore i false q r a → EndsStore i stood p r a
  stored_after i stood p q r _ x (end_missed m) = end_missed m
  stored_after i stood p q r _ x (looks v a e l) = looks v a e (l.0, did_then p q l.0 (dropped_if stood) (row EndRegister v ∷ []) (Registered i) (Looking i) (awaiter_first (Some x.0) []) [] x.2 l.1, l.2)
  stored_after i stood p q r _ x (has_to_take_back clone g) = has_to_take_back clone (did_then p q r (dropped_if stood) (act TakeAwaiter ∷ []) (Registered i) (TookBack i) (awaiter_first (Some x.0) []) (awaiter_first (Some clone) []) x.2 g)
