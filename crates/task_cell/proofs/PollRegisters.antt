-- The paths of a registering, put together from those of its parts.
use Rattle.task_steps.specs.declared.kept.StoredAwaiter.{StoredAwaiter}
use Rattle.task_cell.proofs.Vocabulary.{◌≡◌, ℕ, Bool, true, false, Option, Some, None, List, [], ◌∷◌, ◌++◌, refl, subst, State, Looking, UnusedClone, Registered, TookBack, CloneInHand, CloneAwaiter}
use Rattle.task_cell.proofs.Vocabulary.{StoreAwaiter, TakeAwaiter, FindNotify, BeginRegister, EndRegister, EndRegisterNotified, DropAwaiter, WakeAwaiter, after_storing, Deed, Party}
use Rattle.task_cell.proofs.Vocabulary.{Waits, position, places_of, StandsWith, DidWith, Did, row, act, RegisterPath, dropped_if, BeginsRegister, begins, finds_one, EndsRegister, ends, finds_notified}
use Rattle.task_cell.proofs.Vocabulary.{Result, Ok, poll_number, same_first, TaskPlace, awaiter_first, Second}
use Rattle.task_cell.specs.PollPaths as paths
use Rattle.task_cell.proofs.Moved.{held_is, position_is, stands}
use Rattle.task_cell.specs.Stores.{GivesBack}
use Rattle.task_steps.specs.Stored.{stored_by}
use Rattle.task_cell.proofs.PollWays.{then_goes}

-- the deeds of a Task that puts its clone in
abbrev pub stored : State → List Deed
stored w = act CloneAwaiter ∷ row BeginRegister w ∷ act StoreAwaiter ∷ []

number_after : (n : ℕ) (hand : Option ℕ) → poll_number (after_storing n hand) ≡ n
number_after n None = refl
number_after n (Some old) = refl

module _ {F T A : Type 0} where
  -- what a Task comes to that would take the slot, and that would give it back
  abbrev pub Begun : Party F T A → Party F T A → Bool → Type 0
  Begun p q true = (w : State) × (hand : Option ℕ) × (y : Option (StoredAwaiter A)) × (w.notifying ≡ false) × Waits hand y × DidWith (stored w) (after_storing (poll_number (position p)) hand) (awaiter_first y []) p q
  Begun p q false = (w : State) × (w.notifying ≡ true) × Did (act CloneAwaiter ∷ row FindNotify w ∷ []) (UnusedClone (poll_number (position p))) p q

  begun_by : (p q : Party F T A) (b : Bool) → BeginsRegister p q b → Begun p q b
  begun_by p q true (begins w hand y e h g) = (w, hand, y, e, h, g)
  begun_by p q false (finds_one w e g) = (w, e, g)

  pub has_begun : (p q : Party F T A) (b c : Bool) → BeginsRegister p q b → b ≡ c → Begun p q c
  has_begun p q b c r e = begun_by p q c (subst (λ b. BeginsRegister p q b) e r)

  abbrev pub Ended : Party F T A → Party F T A → Bool → Type 0
  Ended p q true = (v : State) × (v.notifying ≡ false) × Did (row EndRegister v ∷ []) (Looking (poll_number (position p))) p q
  Ended p q false = DidWith (act TakeAwaiter ∷ []) (TookBack (poll_number (position p))) (places_of p) p q

  ended_by : (p q : Party F T A) (b : Bool) → EndsRegister p q b → Ended p q b
  ended_by p q true (ends v e g) = (v, e, g)
  ended_by p q false (finds_notified g) = g

  pub has_ended : (p q : Party F T A) (b c : Bool) → EndsRegister p q b → b ≡ c → Ended p q c
  has_ended p q b c r e = ended_by p q c (subst (λ b. EndsRegister p q b) e r)

  -- the old awaiter was dropped, where there was one
  is_stored : (p q r : Party F T A) (w : State) (stood : Bool) (hand : Option ℕ) (n : ℕ) (held held' : List (ℕ × TaskPlace F T A)) → DidWith (stored w) (after_storing n hand) held p q → DidWith (dropped_if stood) (Registered (poll_number (position q))) held' q r
      → DidWith (stored w ++ dropped_if stood) (Registered n) held' p r
  is_stored p q r w stood hand n held held' g h = subst (λ i. DidWith (stored w ++ dropped_if stood) (Registered i) held' p r) (number_after n hand)
      (then_goes p q r (stored w) (dropped_if stood) (after_storing n hand) held held' (λ x. Registered (poll_number x)) g h)

  -- the clone was put in
  abbrev pub HasStored : StoredAwaiter A → Party F T A → Party F T A → Type 0
  HasStored clone p q = (w : State) × (stood : Bool) × (w.notifying ≡ false) × DidWith (stored w ++ dropped_if stood) (Registered (poll_number (position p))) (awaiter_first (Some clone) []) p q

  pub stores_clone : (p q r : Party F T A) (b : Bool) (clone : StoredAwaiter A) → BeginsRegister p q b → b ≡ true → (stood : Bool) × DidWith (dropped_if stood) (Registered (poll_number (position q))) (awaiter_first (Some clone) []) q r → HasStored clone p r
  stores_clone p q r b clone f e s = let x = has_begun p q b true f e in (x.0, s.0, x.3, is_stored p q r x.0 s.0 x.1 (poll_number (position p)) (awaiter_first x.2 []) (awaiter_first (Some clone) []) x.5 s.1)

  -- the clone was taken back, where a notifier came meanwhile
  abbrev pub TakenBack : StoredAwaiter A → Party F T A → Party F T A → Type 0
  TakenBack clone p q = (w : State) × (stood : Bool) × (w.notifying ≡ false) × DidWith ((stored w ++ dropped_if stood) ++ (act TakeAwaiter ∷ [])) (TookBack (poll_number (position p))) (awaiter_first (Some clone) []) p q

  pub takes_back : (p r t : Party F T A) (b : Bool) (clone : StoredAwaiter A) → HasStored clone p r → EndsRegister r t b → b ≡ false → TakenBack clone p t
  takes_back p r t b clone x f e = let a : List Deed = stored x.0 ++ dropped_if x.1 in let n : ℕ = poll_number (position p) in let held : List (ℕ × TaskPlace F T A) = awaiter_first (Some clone) [] in (
    x.0,
    x.1,
    x.2,
    subst (λ l. DidWith (a ++ (act TakeAwaiter ∷ [])) (TookBack n) l p t) (held_is r (Registered n) held (stands p r a (Registered n) held x.3))
        (then_goes p r t a (act TakeAwaiter ∷ []) (Registered n) held (places_of r) (λ x. TookBack (poll_number x)) x.3 (has_ended r t b false f e)),
  )

  -- the clone that is taken out is the one that was put in
  pub same_clone : (p : Party F T A) (n : ℕ) (a b : StoredAwaiter A) → StandsWith (TookBack n) (awaiter_first (Some a) []) p → places_of p ≡ awaiter_first (Some b) [] → b ≡ a
  same_clone p n a b s e = let same = same_first (places_of p) [] [] 1 (Second (Some a)) (Second (Some b)) (held_is p (TookBack n) (awaiter_first (Some a) []) s) e in cc

  -- the slot was given back with the clone in it
  pub gave_back : (p r t : Party F T A) (clone : StoredAwaiter A) (v : State) → stored_by clone ≡ poll_number (position p) → HasStored clone p r → Did (row EndRegister v ∷ []) (Looking (poll_number (position r))) r t
      → GivesBack (poll_number (position p)) clone p t
  gave_back p r t clone v by x g = let n : ℕ = poll_number (position p) in let path : List Deed = stored x.0 ++ dropped_if x.1 in let held : List (ℕ × TaskPlace F T A) = awaiter_first (Some clone) [] in record {
    before = path;
    between = r;
    word = v;
    after = [];
    at = Looking n;
    number = by;
    has = x.3;
    gives = subst (λ at. Did (row EndRegister v ∷ []) (Looking (poll_number at)) r t) (position_is r (Registered n) held (stands p r path (Registered n) held x.3)) g;
  }

  module _ {B K : Type 0} (cloned : B → Result B K → Type 0) (woken woken_by_ref : B → K → Type 0) (awaiter : B) where
    abbrev pub IsRegistered : Type 0 → ℕ → Party F T A → Party F T A → Type 0
    IsRegistered Comes n p r = (path : List Deed) × RegisterPath cloned woken woken_by_ref awaiter path × Did path (Looking n) p r × Comes

    pub woken_at_once : {Comes : Type 0} (by : (told : K) → woken_by_ref awaiter told → Comes) (p q r : Party F T A) (n : ℕ) (w : State) (clone : B) → w.notifying ≡ true → cloned awaiter (Ok clone) → (told : K) × woken_by_ref awaiter told
        → Did (act CloneAwaiter ∷ row FindNotify w ∷ []) (UnusedClone n) p q → Did (act DropAwaiter ∷ []) (Looking (poll_number (position q))) q r → IsRegistered Comes n p r
    woken_at_once by p q r n w clone e c made g h = let a : List Deed = act CloneAwaiter ∷ row FindNotify w ∷ [] in
        (a ++ (act DropAwaiter ∷ []), paths.finds_notifier w clone made.0 e c made.1, then_goes p q r a (act DropAwaiter ∷ []) (UnusedClone n) [] [] (λ x. Looking (poll_number x)) g h, by made.0 made.1)

    pub registered : {Comes : Type 0} (p r t : Party F T A) (n : ℕ) (w v : State) (stood : Bool) (held : List (ℕ × TaskPlace F T A)) (clone : B) → w.notifying ≡ false → v.notifying ≡ false → cloned awaiter (Ok clone)
        → DidWith (stored w ++ dropped_if stood) (Registered n) held p r → Did (row EndRegister v ∷ []) (Looking (poll_number (position r))) r t → Comes → IsRegistered Comes n p t
    registered p r t n w v stood held clone e f c g h kept = let a : List Deed = stored w ++ dropped_if stood in
        (a ++ (row EndRegister v ∷ []), paths.registers w v stood clone e f c, then_goes p r t a (row EndRegister v ∷ []) (Registered n) held [] (λ x. Looking (poll_number x)) g h, kept)

    pub was_given_back : (p t u : Party F T A) (n : ℕ) (w v : State) (stood : Bool) (held : List (ℕ × TaskPlace F T A)) → DidWith ((stored w ++ dropped_if stood) ++ (act TakeAwaiter ∷ [])) (TookBack n) held p t
        → Did (row EndRegisterNotified v ∷ []) (CloneInHand (poll_number (position t))) t u → Did (((stored w ++ dropped_if stood) ++ (act TakeAwaiter ∷ [])) ++ (row EndRegisterNotified v ∷ [])) (CloneInHand n) p u
    was_given_back p t u n w v stood held g h = then_goes p t u ((stored w ++ dropped_if stood) ++ (act TakeAwaiter ∷ [])) (row EndRegisterNotified v ∷ []) (TookBack n) held [] (λ x. CloneInHand (poll_number x)) g h

    pub was_notified : {Comes : Type 0} (by : (clone : B) (told : K) → cloned awaiter (Ok clone) → woken clone told → Comes) (p t u x : Party F T A) (n : ℕ) (w v : State) (stood : Bool) (held : List (ℕ × TaskPlace F T A)) (clone : B) → w.notifying ≡ false → v.notifying ≡ true → cloned awaiter (Ok clone) → (told : K) × woken clone told
        → DidWith ((stored w ++ dropped_if stood) ++ (act TakeAwaiter ∷ [])) (TookBack n) held p t → Did (row EndRegisterNotified v ∷ []) (CloneInHand (poll_number (position t))) t u → Did (act WakeAwaiter ∷ []) (Looking (poll_number (position u))) u x → IsRegistered Comes n p x
    was_notified by p t u x n w v stood held clone e f c made g h k = let a : List Deed = stored w ++ dropped_if stood in let b : List Deed = (a ++ (act TakeAwaiter ∷ [])) ++ (row EndRegisterNotified v ∷ []) in (
      a ++ (act TakeAwaiter ∷ row EndRegisterNotified v ∷ act WakeAwaiter ∷ []),
      paths.was_notified w v stood clone made.0 e f c made.1,
      subst (λ path. Did path (Looking n) p x) (joined stood) (then_goes p u x b (act WakeAwaiter ∷ []) (CloneInHand n) [] [] (λ x. Looking (poll_number x)) (was_given_back p t u n w v stood held g h) k),
      by clone made.0 c made.1,
    )
      where
        joined : (stood : Bool) → (((stored w ++ dropped_if stood) ++ (act TakeAwaiter ∷ [])) ++ (row EndRegisterNotified v ∷ [])) ++ (act WakeAwaiter ∷ []) ≡ (stored w ++ dropped_if stood) ++ (act TakeAwaiter ∷ row EndRegisterNotified v ∷ act WakeAwaiter ∷ [])
        joined true = refl
        joined false = refl
