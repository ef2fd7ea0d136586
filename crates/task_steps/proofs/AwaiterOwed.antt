-- What the steps of a notifier owe, and the ends of a call.
use Rattle.std.proofs.Common.{◌≡◌, ℕ, ◌≤◌, Bool, true, false, not, ◌&&◌, ◌||◌, Option, Some, None, List, [], ◌∷◌, refl, sym, ap, ◌∙◌, subst, ◌⊎◌, inr, ⊎_elim, arith}
use Rattle.std.specs.Prelude.{bit_and, bit_or, if◌then◌else◌}
use Rattle.atomic_table.specs.Table.{rest}
use Rattle.task_steps.proofs.Vocabulary.{State, state_of, number_of, Answer, Rest, NotifyingCall, OfRun, CallEnding, Notifier, Releaser}
use Rattle.task_steps.proofs.Vocabulary.{AwaiterInHand, EndCall, WakeAwaiter, DropAwaiter, MissNotify, BeginNotify, TakeAwaiter, Slots, after_taking, after_waking, may_drop, owns_awaiter}
use Rattle.task_steps.proofs.Vocabulary.{Awaiting, await, awaiting, state_of_number_of, fetch_or-notifying, fetch_and-awaiter_notifying, TaskPlace, Deed, Member}
use Rattle.task_steps.specs.Values.{Values}
use Rattle.task_steps.specs.Rule.{has_work, Waits}
use Rattle.task_steps.specs.Steps.{awaiter_first}
use Rattle.task_steps.specs.Scripts.{taking_awaiter, releasing_awaiter}
use Rattle.task_steps.proofs.Facts.{counted_awaiting}
use Rattle.task_steps.proofs.Advance.{stays, takes_awaiter, gives_awaiter, Steps}
use Rattle.task_steps.proofs.Computed.{by_table, noted, row_fits, guarded}
use Rattle.task_steps.proofs.Allowed.{Owes}
use Rattle.task_steps.proofs.Known.{OwesNote}

-- what a way leaves of the places
off_work : (i : ℕ) (way : NotifyingCall) → has_work (after_waking way) ≡ has_work (AwaiterInHand i way)
off_work i OfRun = refl
off_work i way = refl

off_free : (way : NotifyingCall) → owns_awaiter (after_waking way) ≡ false
off_free OfRun = refl
off_free way = refl

pub on_work : (hand : Option ℕ) (way : NotifyingCall) → has_work (after_taking hand way) ≡ has_work (Notifier way)
on_work None OfRun = refl
on_work (Some i) OfRun = refl
on_work hand way = refl

pub on_free : (hand : Option ℕ) (way : NotifyingCall) → owns_awaiter (after_taking hand way) ≡ false
on_free None OfRun = refl
on_free (Some i) OfRun = refl
on_free hand way = refl

pub same_way : (hand : Option ℕ) (way : NotifyingCall) → has_work (Releaser hand way) ≡ has_work (Notifier way)
same_way hand OfRun = refl
same_way hand way = refl

-- a releaser has emptied the awaiter slot
releases : (i : ℕ) (hand : Option ℕ) (way : NotifyingCall) → 1 ≤ (await i (Releaser hand way)).releasers
releases i hand OfRun = omega arith
releases i hand way = omega arith

is_emptied : (slots : Slots) (b : Awaiting) → (b.releasers ≡ 0) ⊎ (slots.awaiter ≡ None) → 1 ≤ b.releasers → slots.awaiter ≡ None
is_emptied slots b s e = ⊎_elim (λ (z : b.releasers ≡ 0). absurd (omega arith)) (λ (z : slots.awaiter ≡ None). z) s

neither : (a b : Bool) → (a || b) ≡ false → (not a && not b) ≡ true
neither a b e = grind arith

module _ (limit : ℕ) where
  pub ends : (answer : Answer) (r : Rest) (ds : List Deed) (us : List Member) → OwesNote limit (EndCall ∷ []) (CallEnding answer r) ds us
  ends answer r ds us m f = noted refl refl refl

  pub wakes : (i : ℕ) (way : NotifyingCall) (ds : List Deed) (us : List Member) → OwesNote limit (WakeAwaiter ∷ []) (AwaiterInHand i way) ds us
  wakes i way ds us m f = noted refl refl (λ j. (off_work i way j, off_free way j, m.slots, 0, 0))

  pub drops : (i : ℕ) (way : NotifyingCall) (ds : List Deed) (us : List Member) → may_drop way ≡ true → OwesNote limit (DropAwaiter ∷ []) (AwaiterInHand i way) ds us
  drops i way ds us may m f = noted (guarded may) refl (λ j. (off_work i way j, off_free way j, m.slots, 0, 0))

module _ (F T A : Type 0) (values : Values F T) (limit : ℕ) where
  pub takes : (way : NotifyingCall) (ds : List Deed) (us : List Member) (l : List (ℕ × TaskPlace F T A)) → Owes F T A values limit taking_awaiter (λ n. bit_or n 128) (Notifier way) ds us l
  takes way ds us l m f x e lt = by (m.word.notifying || m.word.registering) refl
    where
      sets : bit_or x 128 ≡ number_of (record (m.word) { notifying = true })
      sets = fetch_or-notifying x ∙ ap (λ (w : State). number_of (record w { notifying = true })) (ap state_of e ∙ state_of_number_of m.word)

      by : (b : Bool) → (m.word.notifying || m.word.registering) ≡ b → Steps values m (Notifier way) (if b then MissNotify ∷ [] else BeginNotify ∷ TakeAwaiter ∷ []) (bit_or x 128) l
      by true h = by_table m (row_fits h) sets (refl, refl) (stays (on_work None way) (on_free None way) (inr (refl, refl)) (inr refl))
      by false h = by_table m (row_fits (neither m.word.notifying m.word.registering h)) sets (refl, refl)
          (takes_awaiter refl refl (same_way m.slots.awaiter way) (inr (refl, refl)) (λ y w. w))

  pub releases_awaiter : (hand : Option ℕ) (way : NotifyingCall) (ds : List Deed) (us : List Member) (l : List (ℕ × TaskPlace F T A)) → l ≡ awaiter_first None (rest l)
      → Owes F T A values limit releasing_awaiter (λ n. bit_and n 18446744073709551455) (Releaser hand way) ds us l
  releases_awaiter hand way ds us l has m f x e lt = by_table m refl (fetch_and-awaiter_notifying x lt ∙ ap (λ (w : State). number_of (record w { awaiter = false; notifying = false })) (ap state_of e ∙ state_of_number_of m.word)) (refl, refl)
      (gives_awaiter None refl (on_free hand way) (on_work hand way ∙ sym (same_way hand way)) (inr (refl, refl)) has (subst (λ (x : Option ℕ). Waits {A = A} x None) (sym none) tt))
    where
      none : m.slots.awaiter ≡ None
      none = let here : 1 ≤ (awaiting 0 m.parties).releasers = omega (arith, releases 0 hand way, counted_awaiting (λ b. b.releasers) (λ a b. refl) 0 m.parties f.number (Releaser hand way) f.stands) in
          is_emptied m.slots (awaiting 0 m.parties) (f.invariant.shakes 0).emptied here
