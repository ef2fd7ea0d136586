-- What the steps by which calls end come to for their party.
use Rattle.task_cell.specs.declared.cell.Party.{Party}
use Rattle.task_steps.specs.declared.kept.StoredAwaiter.{StoredAwaiter}
use Rattle.task_cell.proofs.Vocabulary.{◌≡◌, ℕ, Bool, true, false, List, [], ◌∷◌, ◌++◌, Option, Some, None, ap, ◌∙◌, subst, State, Answer, Ended, Position, CallEnding, Emptier, Fits}
use Rattle.task_cell.proofs.Vocabulary.{GiveUpReference, GiveUpLastReference, EndCall, Deed, GivesUp, not_last, last, DidWith, Did, IsNew, Stands, row, act, as_ended, rest_of, position, after_giving_up, HandOver, handed_over, limit_of, Me, View}
use Rattle.task_cell.proofs.Vocabulary.{NotifyingCall, AwaiterInHand, WakeAwaiter, EmptySlots, OfRun, Ran, is_some, after_waking, way_of, places_of, TaskPlace, awaiter_first}
use Rattle.task_cell.proofs.Moved as moved
use Rattle.task_cell.proofs.RunRest.{ended_call}

module _ {F T A : Type 0} where
  -- the reference was the last
  pub record Last (hand : Option ℕ) (answer : Answer) (p q : Party F T A) : Type 0 where
    pub word : State
    pub place : Option (StoredAwaiter A)
    pub fits : Fits GiveUpLastReference word
    pub did : DidWith (row GiveUpLastReference word ∷ []) (Emptier hand answer) (awaiter_first place []) p q

  pub was_last : (hand : Option ℕ) (answer : Answer) (p q : Party F T A) (b : Bool) → GivesUp hand answer p q b → b ≡ true → Last hand answer p q
  was_last hand answer p q true (last w y f g) e = record { word = w; place = y; fits = f; did = g }
  was_last hand answer p q false (not_last w f g) e = absurd (cc)

  -- others are left after the reference
  pub record Others (hand : Option ℕ) (answer : Answer) (p q : Party F T A) : Type 0 where
    pub word : State
    pub fits : Fits GiveUpReference word
    pub did : Did (row GiveUpReference word ∷ []) (after_giving_up hand answer) p q

  pub left_others : (hand : Option ℕ) (answer : Answer) (p q : Party F T A) (b : Bool) → GivesUp hand answer p q b → b ≡ false → Others hand answer p q
  left_others hand answer p q false (not_last w f g) e = record { word = w; fits = f; did = g }
  left_others hand answer p q true (last w y f g) e = absurd (cc)

  -- a path, and then the end of the call
  pub and_ends : (before : List Deed) (answer : Answer) (p q r : Party F T A) → Did before (CallEnding answer Ended) p q → Did (act EndCall ∷ []) (rest_of (position q)) q r → Did (before ++ act EndCall ∷ []) as_ended p r
  and_ends before answer p q r g e = moved.did_then p q r before (act EndCall ∷ []) (CallEnding answer Ended) as_ended [] [] g
      (ended_call answer Ended q r (moved.stands p q before (CallEnding answer Ended) [] g) e)

  -- a Runnable was handed over, which ends the call
  pub handed_on : (p q : Party F T A) (at : Position) (answer : Answer) → handed_over at ≡ CallEnding answer Ended → Stands at p → Did (act HandOver ∷ []) (handed_over (position p)) p q → Did (act HandOver ∷ []) (CallEnding answer Ended) p q
  handed_on p q at answer is s g = subst (λ z. Did (act HandOver ∷ []) z p q) (ap handed_over (moved.position_is p at [] s) ∙ is) g

  pub new_limit : (at : Position) (p q : Party F T A) → IsNew at p q → limit_of q ≡ limit_of p
  new_limit at p q n = ap (λ (m : Me (TaskPlace F T A) View). m.0.limit) n.is

  -- the awaiter in hand was woken
  pub woken_at : (way : NotifyingCall) (i : ℕ) (p q : Party F T A) → Stands (AwaiterInHand i way) p → DidWith (act WakeAwaiter ∷ []) (after_waking (way_of (position p))) (places_of p) p q → Did (act WakeAwaiter ∷ []) (after_waking way) p q
  woken_at way i p q s g = subst (λ (z : NotifyingCall × List (ℕ × TaskPlace F T A)). DidWith (act WakeAwaiter ∷ []) (after_waking z.0) z.1 p q)
      (λ j. (ap way_of (moved.position_is p (AwaiterInHand i way) [] s) j, moved.held_is p (AwaiterInHand i way) [] s j)) g

  -- the last handle has emptied the places, and has an awaiter in hand, or none
  pub emptied_hand : (hand : Option ℕ) (answer : Answer) (p q : Party F T A) → is_some hand ≡ true → Did (act EmptySlots ∷ []) (after_giving_up hand answer) p q → (i : ℕ) × Stands (AwaiterInHand i OfRun) q
  emptied_hand (Some i) answer p q is g = (i, moved.stands p q (act EmptySlots ∷ []) (AwaiterInHand i OfRun) [] g)
  emptied_hand None answer p q is g = absurd (cc)

  pub emptied_call : (hand : Option ℕ) (answer : Answer) (p q : Party F T A) → is_some hand ≡ false → Did (act EmptySlots ∷ []) (after_giving_up hand answer) p q → Stands (CallEnding answer Ended) q
  emptied_call None answer p q is g = moved.stands p q (act EmptySlots ∷ []) (CallEnding answer Ended) [] g
  emptied_call (Some i) answer p q is g = absurd (cc)

  pub empties_none : (hand : Option ℕ) (answer : Answer) (p q r : Party F T A) → is_some hand ≡ false → Did (act EmptySlots ∷ []) (after_giving_up hand answer) p q → Did (act EndCall ∷ []) (rest_of (position q)) q r
      → Did (act EmptySlots ∷ act EndCall ∷ []) as_ended p r
  empties_none None answer p q r is g e = and_ends (act EmptySlots ∷ []) answer p q r g e
  empties_none (Some i) answer p q r is g e = absurd (cc)

  pub empties_wakes : (hand : Option ℕ) (answer : Answer) (p q r s : Party F T A) → is_some hand ≡ true → Did (act EmptySlots ∷ []) (after_giving_up hand answer) p q
      → DidWith (act WakeAwaiter ∷ []) (after_waking (way_of (position q))) (places_of q) q r → Did (act EndCall ∷ []) (rest_of (position r)) r s → Did (act EmptySlots ∷ act WakeAwaiter ∷ act EndCall ∷ []) as_ended p s
  empties_wakes (Some i) answer p q r s is g w e = and_ends (act EmptySlots ∷ act WakeAwaiter ∷ []) (Ran false) p r s
      (moved.did_then p q r (act EmptySlots ∷ []) (act WakeAwaiter ∷ []) (AwaiterInHand i OfRun) (CallEnding (Ran false) Ended) [] [] g
      (woken_at OfRun i q r (moved.stands p q (act EmptySlots ∷ []) (AwaiterInHand i OfRun) [] g) w)) e
  empties_wakes None answer p q r s is g w e = absurd (cc)
