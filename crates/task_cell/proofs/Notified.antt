-- What the steps of a notifier come to.
use Rattle.task_steps.specs.Values.{Values}
use Rattle.task_steps.specs.declared.kept.StoredAwaiter.{StoredAwaiter}
use Rattle.task_cell.proofs.Vocabulary.{◌≡◌, ℕ, Bool, true, false, not, ◌&&◌, ◌||◌, List, [], ◌∷◌, Option, Some, None, refl, sym, ap, ◌∙◌, subst, if◌then◌else◌, State, NotifyingCall, Notifier}
use Rattle.task_cell.proofs.Vocabulary.{Releaser, MissNotify, BeginNotify, TakeAwaiter, EndNotify, after_taking, TaskPlace, Deed, Party, Waits, Makes, taking_awaiter, releasing_awaiter}
use Rattle.task_cell.proofs.Vocabulary.{awaiter_first, held, Fits, position, places_of, StandsWith, DidWith, Notifies, misses, finds_none, takes_awaiter, row, act, way_of, on_work, on_free, same_way, arith}
use Rattle.task_cell.specs.Calls.{BeginsNotify, finds_another, takes_place, EndsNotify}
use Rattle.task_steps.specs.declared.places.Held.{Held}
use Rattle.task_cell.proofs.Moved as moved
use Rattle.task_cell.proofs.Carried.{keeps_places, took_awaiter, gave_awaiter}

-- the awaiter slot is free where nobody is at it
free : (a b : Bool) → (a || b) ≡ false → (not a && not b) ≡ true
free a b e = grind arith

-- what was taken out is what the machine says
pub there : {A : Type 0} (hand : Option ℕ) (y : Option (StoredAwaiter A)) (found : Option (Held (StoredAwaiter A))) → Waits hand y → held found ≡ y → Waits hand (held found)
there hand y found h e = subst (λ z. Waits hand z) (sym e) h

module _ {F T A : Type 0} where
  -- the position and the places of a notifier, as contracts say them
  as_said : (p q : Party F T A) (path : List Deed) (hand : Option ℕ) (way : NotifyingCall) (held : List (ℕ × TaskPlace F T A)) → StandsWith (Notifier way) held p → DidWith path (after_taking hand way) held p q → DidWith path (after_taking hand (way_of (position p))) (places_of p) p q
  as_said p q path hand way held s g = subst (λ (z : NotifyingCall × List (ℕ × TaskPlace F T A)). DidWith path (after_taking hand z.0) z.1 p q)
      (λ i. (sym (ap way_of (moved.position_is p (Notifier way) held s)) i, sym (moved.held_is p (Notifier way) held s) i)) g

  pub missed : {values : Values F T} (way : NotifyingCall) (held : List (ℕ × TaskPlace F T A)) (p q : Party F T A) (w : State) → StandsWith (Notifier way) held p → q.seat.block ≡ p.seat.block
      → Makes values (taking_awaiter w) w p.seat.me q.seat.me → (w.notifying || w.registering) ≡ true → BeginsNotify p q false
  missed {values = values} way held p q w s cell made is =
      let m = moved.moved (MissNotify ∷ []) w (Notifier way) held p q s (subst (λ b. Makes values (if b then MissNotify ∷ [] else BeginNotify ∷ TakeAwaiter ∷ []) w p.seat.me q.seat.me) is made) in
      finds_another w is (as_said p q (row MissNotify w ∷ []) None way held s (moved.did p q (row MissNotify w ∷ []) (after_taking None way) held cell m.viewed
      (keeps_places values (Notifier way) (after_taking None way) held q.seat.me.1 (on_work None way) (on_free None way) m.carried)))

  pub taken : {values : Values F T} (way : NotifyingCall) (held : List (ℕ × TaskPlace F T A)) (p q : Party F T A) (w : State) → StandsWith (Notifier way) held p → q.seat.block ≡ p.seat.block
      → Makes values (taking_awaiter w) w p.seat.me q.seat.me → (w.notifying || w.registering) ≡ false → BeginsNotify p q true
  taken {values = values} way held p q w s cell made is =
      let m = moved.moved (BeginNotify ∷ TakeAwaiter ∷ []) w (Notifier way) held p q s (subst (λ b. Makes values (if b then MissNotify ∷ [] else BeginNotify ∷ TakeAwaiter ∷ []) w p.seat.me q.seat.me) is made) in
      let hand : Option ℕ = m.slots.awaiter in
      let y = took_awaiter values (Notifier way) (Releaser hand way) held q.seat.me.1 (same_way hand way) refl refl m.carried in
      let did = moved.did p q (row BeginNotify w ∷ act TakeAwaiter ∷ []) (Releaser hand way) (awaiter_first y.0 held) cell m.viewed y.2 in
      takes_place w hand y.0 (free w.notifying w.registering is) y.1
      (subst (λ (z : NotifyingCall × List (ℕ × TaskPlace F T A)). DidWith (row BeginNotify w ∷ act TakeAwaiter ∷ []) (Releaser hand z.0) (awaiter_first y.0 z.1) p q)
      (λ i. (sym (ap way_of (moved.position_is p (Notifier way) held s)) i, sym (moved.held_is p (Notifier way) held s) i)) did)

  -- a notifier that has taken the place, or has found another party at it
  pub begun : {values : Values F T} (way : NotifyingCall) (held : List (ℕ × TaskPlace F T A)) (p q : Party F T A) (w : State) (b c : Bool) → StandsWith (Notifier way) held p → q.seat.block ≡ p.seat.block
      → Makes values (taking_awaiter w) w p.seat.me q.seat.me → c ≡ not (w.notifying || w.registering) → b ≡ c → BeginsNotify p q b
  begun way held p q w true c s cell made e f = taken way held p q w s cell made (is_not (w.notifying || w.registering) (sym e ∙ sym f))
    where
      is_not : (b : Bool) → not b ≡ true → b ≡ false
      is_not b e = grind arith
  begun way held p q w false c s cell made e f = missed way held p q w s cell made (is_so (w.notifying || w.registering) (sym e ∙ sym f))
    where
      is_so : (b : Bool) → not b ≡ false → b ≡ true
      is_so b e = grind arith

  released : {values : Values F T} (hand : Option ℕ) (way : NotifyingCall) (y : Option (StoredAwaiter A)) (held : List (ℕ × TaskPlace F T A)) (p q : Party F T A) (w : State) → StandsWith (Releaser hand way) (awaiter_first y held) p → q.seat.block ≡ p.seat.block
      → Makes values (releasing_awaiter w) w p.seat.me q.seat.me → DidWith (row EndNotify w ∷ []) (after_taking hand way) held p q
  released {values = values} hand way y held p q w s cell made =
      let m = moved.moved (EndNotify ∷ []) w (Releaser hand way) (awaiter_first y held) p q s made in
      moved.did p q (row EndNotify w ∷ []) (after_taking hand way) held cell m.viewed (gave_awaiter values (Releaser hand way) (after_taking hand way) (awaiter_first y held) q.seat.me.1 (on_work hand way ∙ sym (same_way hand way)) refl (on_free hand way) m.carried)

  -- what lay there was taken out, and the place given back
  pub ended : {values : Values F T} (hand : Option ℕ) (way : NotifyingCall) (y x : Option (StoredAwaiter A)) (held' : List (ℕ × TaskPlace F T A)) (p q r : Party F T A) (v : State) (found : Option (Held (StoredAwaiter A))) → Waits hand y
      → (y ≡ x) × DidWith [] (Releaser hand way) (awaiter_first None held') p q → r.seat.block ≡ q.seat.block → Makes values (releasing_awaiter v) v q.seat.me r.seat.me → held found ≡ x → EndsNotify hand way held' p r found
  ended hand way y x held' p q r v found waits g cell made is = record {
    word = v;
    is_there = there hand y found waits (is ∙ sym g.0);
    did = moved.did_then p q r [] (row EndNotify v ∷ []) (Releaser hand way) (after_taking hand way) (awaiter_first None held') held' g.1
        (released hand way None held' q r v (moved.stands p q [] (Releaser hand way) (awaiter_first None held') g.1) cell made);
  }

  -- where a party stands that has taken the place
  abbrev pub Took : NotifyingCall → List (ℕ × TaskPlace F T A) → Party F T A → Type 0
  Took way held q = (hand : Option ℕ) × (way : NotifyingCall) × (y : Option (StoredAwaiter A)) × (held : List (ℕ × TaskPlace F T A)) × StandsWith (Releaser hand way) (awaiter_first y held) q × Waits hand y

  pub took : (p q : Party F T A) (b : Bool) → BeginsNotify p q b → b ≡ true → Took (way_of (position p)) (places_of p) q
  took p q true (takes_place w hand y f h g) e = (hand, way_of (position p), y, places_of p, moved.stands p q (row BeginNotify w ∷ act TakeAwaiter ∷ []) (Releaser hand (way_of (position p))) (awaiter_first y (places_of p)) g, h)
  took p q false n e = absurd (cc)

  goes_on : (w v : State) (hand : Option ℕ) (p q : Party F T A) (found : Option (Held (StoredAwaiter A))) → Fits BeginNotify w → Waits hand (held found) → DidWith (row BeginNotify w ∷ act TakeAwaiter ∷ row EndNotify v ∷ []) (after_taking hand (way_of (position p))) (places_of p) p q → Notifies p q (held found)
  goes_on w v None p q None f e g = finds_none w v f g
  goes_on w v (Some i) p q (Some a) f e g = takes_awaiter w v i a.value f e g
  goes_on w v hand p q found f e g = absurd e

  -- both steps
  pub notified : (p q r : Party F T A) (b : Bool) (found : Option (Held (StoredAwaiter A))) → BeginsNotify p q b → b ≡ true
      → ((hand : Option ℕ) (way : NotifyingCall) (y : Option (StoredAwaiter A)) (held' : List (ℕ × TaskPlace F T A)) → StandsWith (Releaser hand way) (awaiter_first y held') q → Waits hand y → EndsNotify hand way held' q r found) → Notifies p r (held found)
  notified p q r true found (takes_place w hand y f h g) e end =
      let way = way_of (position p) in let t = end hand way y (places_of p) (moved.stands p q (row BeginNotify w ∷ act TakeAwaiter ∷ []) (Releaser hand way) (awaiter_first y (places_of p)) g) h in
      goes_on w t.word hand p r found f t.is_there (moved.did_then p q r (row BeginNotify w ∷ act TakeAwaiter ∷ []) (row EndNotify t.word ∷ []) (Releaser hand way) (after_taking hand way) (awaiter_first y (places_of p)) (places_of p) g t.did)
  notified p q r false found n e end = absurd (cc)

  pub found_other : (p q : Party F T A) (b : Bool) → BeginsNotify p q b → b ≡ false → Notifies p q None
  found_other p q false (finds_another w f g) e = misses w f g
  found_other p q true n e = absurd (cc)
