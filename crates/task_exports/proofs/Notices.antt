-- What the steps of a party come to that takes the stored awaiter.
use Rattle.task_cell.proofs.Vocabulary.{TaskPlace, awaiter_first}
use Rattle.std.proofs.Common.{◌≡◌, ℕ, Bool, true, false, List, [], ◌∷◌, ◌++◌, Option, Some, None, is_some, refl, sym, ap, ◌∙◌, subst}
use Rattle.task_core.specs.Word.{State}
use Rattle.task_core.specs.declared.acts.Act.TheVariants.{BeginNotify, EndCall, EndNotify, MissNotify, TakeAwaiter}
use Rattle.task_cell.proofs.Moved.{did_then, held_is, position_is, stands}
use Rattle.task_cell.specs.Calls.{Did, DidWith, Fits, StandsWith, places_of, position}
use Rattle.task_cell.specs.Calls.{BeginsNotify, EndsNotify, finds_another, takes_place}
use Rattle.task_cell.specs.declared.cell.Party.{Party}
use Rattle.task_exports.specs.TaskAnswers.{TakesPlace, taking}
use Rattle.task_laws.specs.Table.{after_taking, after_waking}
use Rattle.task_laws.specs.declared.positions.Answer.{Answer}
use Rattle.task_laws.specs.declared.positions.NotifyingCall.{NotifyingCall}
use Rattle.task_laws.specs.declared.positions.PollAnswer.{PollAnswer}
use Rattle.task_laws.specs.declared.positions.Position.{Position}
use Rattle.task_laws.specs.declared.positions.Position.TheVariants.{Answering, At, AwaiterInHand, CallEnding, Notifier, Releaser}
use Rattle.task_laws.specs.declared.positions.Rest.{Rest}
use Rattle.task_steps.specs.Rule.{Waits}
use Rattle.task_steps.specs.Held.{held as hands}
use Rattle.task_steps.specs.declared.kept.StoredAwaiter.{StoredAwaiter}
use Rattle.task_steps.proofs.Bools.{never}
use Rattle.task_steps.specs.Deeds.{act, row}
use Rattle.task_steps.specs.Standing.{as_task, poll_number, rest_of, way_of}
use Rattle.task_steps.specs.declared.places.Held.{Held}
use Rattle.task_steps.specs.declared.table.Deed.{Deed}

-- an awaiter is in hand where the machine says so
pub both_there : {A : Type 0} (hand : Option ℕ) (found : Option (Held (StoredAwaiter A))) → Waits hand (hands found) → is_some found ≡ is_some hand
both_there None None h = refl
both_there (Some i) (Some a) h = refl
both_there None (Some a) h = absurd h
both_there (Some i) None h = absurd h

module _ {F T A : Type 0} where
  -- the place of the awaiter is taken after a path
  pub takes_after : (way : NotifyingCall) (held : List (ℕ × TaskPlace F T A)) (before : List Deed) (p q r : Party F T A) (b : Bool) → DidWith before (Notifier way) held p q → BeginsNotify q r b → b ≡ true → TakesPlace way (λ v. before ++ taking v) held p r
  takes_after way held before p q r true g (takes_place w hand y f h d) e = let s = stands p q before (Notifier way) held g in let path : List Deed = row BeginNotify w ∷ act TakeAwaiter ∷ [] in (
    w,
    hand,
    y,
    f,
    h,
    did_then p q r before path (Notifier way) (Releaser hand way) held (awaiter_first y held) g
        (subst (λ (z : NotifyingCall × List (ℕ × TaskPlace F T A)). DidWith path (Releaser hand z.0) (awaiter_first y z.1) q r)
        (λ j. (ap way_of (position_is q (Notifier way) held s) j, held_is q (Notifier way) held s j)) d),
  )
  takes_after way held before p q r false g n e = never e

  -- the place of the awaiter is passed by, since another party was at it
  abbrev pub Passes : NotifyingCall → List (ℕ × TaskPlace F T A) → List Deed → Party F T A → Party F T A → Type 0
  Passes way held before p q = (w : State) × Fits MissNotify w × DidWith (before ++ row MissNotify w ∷ []) (after_taking None way) held p q

  pub passes_after : (way : NotifyingCall) (held : List (ℕ × TaskPlace F T A)) (before : List Deed) (p q r : Party F T A) (b : Bool) → DidWith before (Notifier way) held p q → BeginsNotify q r b → b ≡ false → Passes way held before p r
  passes_after way held before p q r false g (finds_another w f d) e = let s = stands p q before (Notifier way) held g in let path : List Deed = row MissNotify w ∷ [] in (
    w,
    f,
    did_then p q r before path (Notifier way) (after_taking None way) held held g
        (subst (λ (z : NotifyingCall × List (ℕ × TaskPlace F T A)). DidWith path (after_taking None z.0) z.1 q r)
        (λ j. (ap way_of (position_is q (Notifier way) held s) j, held_is q (Notifier way) held s j)) d),
  )
  passes_after way held before p q r true g n e = never (sym e)

  -- a party that has done nothing since it stood here
  pub at_rest : (at : Position) (held : List (ℕ × TaskPlace F T A)) (p : Party F T A) → StandsWith at held p → DidWith [] at held p p
  at_rest at held p s = record { cell = refl; is = s }

  -- what lay in the place is in hand
  pub in_hand : (way : NotifyingCall) (held : List (ℕ × TaskPlace F T A)) (hand : Option ℕ) (p q : Party F T A) (found : Option (Held (StoredAwaiter A))) (a : Held (StoredAwaiter A)) → EndsNotify hand way held p q found → found ≡ Some a → ((i : ℕ) → after_taking (Some i) way ≡ AwaiterInHand i way)
      → (v : State) × (i : ℕ) × DidWith (row EndNotify v ∷ []) (AwaiterInHand i way) held p q
  in_hand way held (Some i) p q found a x e goes = (x.word, i, subst (λ at. DidWith (row EndNotify x.word ∷ []) at held p q) (goes i) x.did)
  in_hand way held None p q found a x e goes = absurd (subst (λ (z : Option (Held (StoredAwaiter A))). Waits None (hands z)) e x.is_there)

  -- nothing lay in the place
  pub none_there : (way : NotifyingCall) (held : List (ℕ × TaskPlace F T A)) (hand : Option ℕ) (p q : Party F T A) (found : Option (Held (StoredAwaiter A))) → EndsNotify hand way held p q found → found ≡ None
      → (v : State) × DidWith (row EndNotify v ∷ []) (after_taking None way) held p q
  none_there way held None p q found x e = (x.word, x.did)
  none_there way held (Some i) p q found x e = absurd (subst (λ (z : Option (Held (StoredAwaiter A))). Waits (Some i) (hands z)) e x.is_there)

  -- the call ends after a path
  pub ends_after : (answer : Answer) (x : Rest) (path : List Deed) (p q r : Party F T A) → Did path (CallEnding answer x) p q → Did (act EndCall ∷ []) (rest_of (position q)) q r → Did (path ++ act EndCall ∷ []) (At x) p r
  ends_after answer x path p q r g e = did_then p q r path (act EndCall ∷ []) (CallEnding answer x) (At x) [] [] g
      (subst (λ (at : Position). Did (act EndCall ∷ []) at q r) (ap rest_of (position_is q (CallEnding answer x) [] (stands p q path (CallEnding answer x) [] g))) e)

  -- the awaiter in hand was dealt with
  pub dealt : (way : NotifyingCall) (i : ℕ) (held : List (ℕ × TaskPlace F T A)) (path : List Deed) (p q : Party F T A) → StandsWith (AwaiterInHand i way) held p → DidWith path (after_waking (way_of (position p))) (places_of p) p q → DidWith path (after_waking way) held p q
  dealt way i held path p q s g = let at = AwaiterInHand i way in subst (λ (z : Position × List (ℕ × TaskPlace F T A)). DidWith path (after_waking (way_of z.0)) z.1 p q) (λ j. (position_is p at held s j, held_is p at held s j)) g

  -- the poll ends after a path
  pub poll_ends_after : (i : ℕ) (answer : PollAnswer) (path : List Deed) (p q r : Party F T A) → Did path (Answering i answer) p q → Did (act EndCall ∷ []) (as_task (poll_number (position q))) q r → Did (path ++ act EndCall ∷ []) (as_task i) p r
  poll_ends_after i answer path p q r g e = did_then p q r path (act EndCall ∷ []) (Answering i answer) (as_task i) [] [] g
      (subst (λ (at : Position). Did (act EndCall ∷ []) (as_task (poll_number at)) q r) (position_is q (Answering i answer) [] (stands p q path (Answering i answer) [] g)) e)
