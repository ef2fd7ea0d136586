-- What stays true of the timers of a table when one of them changes.
use Rattle.std.proofs.Common.{◌≡◌, ◌≢◌, ℕ, ◌<◌, ◌≤◌, Bool, false, Option, Some, None, inl, inr, sym, ap, ◌∙◌, subst, refl, arith}
use Rattle.std.specs.Prelude.{IsSomeAnd, IfSome}
use Rattle.std.proofs.lemmas.Bool.{cases_eq}
use Rattle.std.proofs.lemmas.Option.{same_Some}
use Rattle.slab.specs.Slab.{Slab, get, Updates}
use Rattle.futures.specs.LinkedLists.Wheel.{Wheel, deadline_of, EachDeadline, Sets}
use Rattle.future_time.specs.declared.entry.Entry.{Entry}
use Rattle.future_time.specs.Orders.{IsNext}
use Rattle.future_time.specs.Tables.{when_of, waker_of}

module _ {W : Type 0} {w v : Wheel} {s t : Slab (Entry W)} {key : ℕ} where
  -- the deadline of each key is that of its entry
  pub keyed_after : (deadline : Option ℕ) (entry : Option (Entry W)) → Sets w v key deadline → Updates s t key entry
      → ((when : ℕ) → deadline ≡ Some when → when_of entry ≡ Some when)
      → ((k when : ℕ) → deadline_of w k ≡ Some when → when_of (get s k) ≡ Some when)
      → (k when : ℕ) → deadline_of v k ≡ Some when → when_of (get t k) ≡ Some when
  keyed_after deadline entry sets updates here keyed k when armed =
      elim (cases_eq k key) [
        | inl same ↦
            let at_key : deadline_of v key ≡ Some when = subst (λ n. deadline_of v n ≡ Some when) same armed in
            subst (λ n. when_of (get t n) ≡ Some when) (sym same) (ap when_of updates.changed ∙ here when (sym sets.changed ∙ at_key))
        | inr differs ↦ ap when_of (updates.others k differs) ∙ keyed k when (sym (sets.others k differs) ∙ armed)
      ]

  -- an entry whose key has no deadline has no waker
  pub woken_after : (deadline : Option ℕ) (entry : Option (Entry W)) → Sets w v key deadline → Updates s t key entry
      → (deadline ≡ None → waker_of entry ≡ None)
      → ((k : ℕ) → deadline_of w k ≡ None → waker_of (get s k) ≡ None)
      → (k : ℕ) → deadline_of v k ≡ None → waker_of (get t k) ≡ None
  woken_after deadline entry sets updates here woken k unarmed =
      elim (cases_eq k key) [
        | inl same ↦
            let at_key : deadline_of v key ≡ None = subst (λ n. deadline_of v n ≡ None) same unarmed in
            subst (λ n. waker_of (get t n) ≡ None) (sym same) (ap waker_of updates.changed ∙ here (sym sets.changed ∙ at_key))
        | inr differs ↦ ap waker_of (updates.others k differs) ∙ woken k (sym (sets.others k differs) ∙ unarmed)
      ]

  -- an entry whose key has no deadline is due, while the timers are open
  pub fired_after : (deadline : Option ℕ) (entry : Option (Entry W)) (reached : ℕ) (closed : Bool) → Sets w v key deadline → Updates s t key entry
      → ((when : ℕ) → when_of entry ≡ Some when → deadline ≡ None → closed ≡ false → when ≤ reached)
      → ((k when : ℕ) → when_of (get s k) ≡ Some when → deadline_of w k ≡ None → closed ≡ false → when ≤ reached)
      → (k when : ℕ) → when_of (get t k) ≡ Some when → deadline_of v k ≡ None → closed ≡ false → when ≤ reached
  fired_after deadline entry reached closed sets updates here fired k when found unarmed opened =
      elim (cases_eq k key) [
        | inl same ↦
            let found_here : when_of (get t key) ≡ Some when = subst (λ n. when_of (get t n) ≡ Some when) same found in
            let at_key : deadline_of v key ≡ None = subst (λ n. deadline_of v n ≡ None) same unarmed in
            here when (sym (ap when_of updates.changed) ∙ found_here) (sym sets.changed ∙ at_key) opened
        | inr differs ↦ fired k when (sym (ap when_of (updates.others k differs)) ∙ found) (sym (sets.others k differs) ∙ unarmed) opened
      ]

module _ {W : Type 0} {s t : Slab (Entry W)} {key : ℕ} where
  -- there is room in the wheel for each entry
  pub room_after : (entry : Option (Entry W)) (old_limit limit : ℕ) → Updates s t key entry → old_limit ≤ limit
      → (entry ≢ None → key < limit)
      → ((k : ℕ) → get s k ≢ None → k < old_limit) → (k : ℕ) → get t k ≢ None → k < limit
  room_after entry old_limit limit updates grows here room k present =
      elim (cases_eq k key) [
        | inl same ↦ subst (λ n. n < limit) (sym same) (here (λ none. present (subst (λ n. get t n ≡ None) (sym same) (updates.changed ∙ none))))
        | inr differs ↦ omega (arith, grows, room k (λ none. present (updates.others k differs ∙ none)))
      ]

-- a key that comes due has an entry that is due
pub due_entry : {W : Type 0} (w : Wheel) (s : Slab (Entry W)) (until key : ℕ) (entry : Entry W) → IsNext w until key
    → ((k when : ℕ) → deadline_of w k ≡ Some when → when_of (get s k) ≡ Some when)
    → get s key ≡ Some entry → entry.when ≤ until
due_entry w s until key entry next keyed found = by_deadline (deadline_of w key) next (λ when armed. keyed key when armed)
  where
    by_deadline : (d : Option ℕ) → IsSomeAnd d (λ when. (when ≤ until) × EachDeadline w (λ other. when ≤ other)) → ((when : ℕ) → d ≡ Some when → when_of (get s key) ≡ Some when) → entry.when ≤ until
    by_deadline (Some when) due same =
        let e : entry.when ≡ when = same_Some _ _ (sym (ap when_of found) ∙ same when refl) in
        omega (arith, due.0)
    by_deadline None due same = absurd due

-- a timer for a time until which no driver rests leaves the drivers as they are
pub told_by : (next : Option ℕ) (when : ℕ) → IfSome next (λ until. until ≤ when) → (until : ℕ) → next ≡ Some until → until ≤ when
told_by next when le until same = subst (λ o. IfSome o (λ u. u ≤ when)) same le
