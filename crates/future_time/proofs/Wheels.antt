-- What a wheel says of the time at which it is to be polled.
use Rattle.std.proofs.Common.{◌≡◌, ◌⊎◌, ℕ, ◌*◌, ◌/◌, ◌^◌, ◌<◌, ◌≤◌, max, Option, Some, None, IfSome, inl, inr, arith, pow_pos, sym, subst, refl, ◌∙◌}
use Rattle.std.specs.Prelude.{IsSomeAnd}
use Rattle.std.proofs.lemmas.Bool.{cases_eq, cases_lt}
use Rattle.std.proofs.lemmas.Option.{none-some, same_Some}
use Rattle.std.proofs.lemmas.Nat.{le-div}
use Rattle.futures.specs.LinkedLists.Wheel.{Wheel, deadline_of, EachDeadline, SomeDeadline, SameDeadlines, Sets, tick, IsSlotStart}
use Rattle.future_time.specs.Orders.{IsNext}

-- a slot begins after the time that was reached
pub slot_ahead : (elapsed time when : ℕ) → IsSlotStart elapsed time when → elapsed < time
unfolding tick
slot_ahead elapsed time when s =
    elim (cases_lt elapsed time) [
      | inl ahead ↦ ahead
      | inr behind ↦
          let start : when / 2 ^ (s.0 * 6) * 2 ^ (s.0 * 6) ≤ elapsed = subst (λ n. n ≤ elapsed) s.2 behind in
          let below : when / 2 ^ (s.0 * 6) ≤ elapsed / 2 ^ (s.0 * 6) = le-div _ elapsed _ (pow_pos (s.0 * 6)) start in
          absurd (omega (arith, s.1.ahead))
    ]

-- a poll at the time that the wheel asks for, which has no key to answer, moves the time on
pub moves_on : (w : Wheel) (time : ℕ) → w.elapsed ≤ time → SomeDeadline w (λ when. (when ≤ time) ⊎ IsSlotStart w.elapsed time when) → EachDeadline w (λ when. time < when) → w.elapsed < time
moves_on w time past some ahead =
    elim some.3 [
      | inl due ↦ absurd (omega (arith, ahead some.0 some.1 some.2, due))
      | inr slot ↦ slot_ahead w.elapsed time some.1 slot
    ]

-- what the wheel says of each deadline that lies ahead is that it is no sooner than the time of the poll
pub no_sooner : (w : Wheel) (time : ℕ) → EachDeadline w (λ when. w.elapsed ≤ when) → EachDeadline w (λ when. time ≤ max when w.elapsed) → EachDeadline w (λ when. time ≤ when)
no_sooner w time ahead late key when armed = omega (arith, ahead key when armed, late key when armed)

-- a key that is due at the time of a poll is the next one
pub is_next : (old w : Wheel) (time until reached key : ℕ) → SameDeadlines old w → EachDeadline w (λ when. time ≤ when) → time ≤ until → reached ≤ time → IsSomeAnd (deadline_of w key) (λ when. when ≤ reached) → IsNext old until key
is_next old w time until reached key kept sooner below past due = by_deadline (deadline_of old key) (subst (λ d. IsSomeAnd d (λ when. when ≤ reached)) (kept key) due)
  where
    by_deadline : (d : Option ℕ) → IsSomeAnd d (λ when. when ≤ reached) → IsSomeAnd d (λ when. (when ≤ until) × EachDeadline old (λ other. when ≤ other))
    by_deadline (Some when) le = (omega (arith, le), λ other late armed. omega (arith, le, sooner other late (kept other ∙ armed)))
    by_deadline None le = absurd le

-- what holds of each deadline holds where one was taken out
pub each_but : (old new : Wheel) (key : ℕ) (P : ℕ → Type 0) → Sets old new key None → EachDeadline old P → EachDeadline new P
each_but old new key P sets each other when armed =
    elim (cases_eq other key) [
      | inl same ↦ absurd (none-some when (sym sets.changed ∙ subst (λ k. deadline_of new k ≡ Some when) same armed))
      | inr differs ↦ each other when (sym (sets.others other differs) ∙ armed)
    ]

-- the time for the next poll is no later than any deadline
pub next_not_late : (w : Wheel) (next : Option ℕ) → EachDeadline w (λ when. w.elapsed ≤ when) → IfSome next (λ time. EachDeadline w (λ when. time ≤ max when w.elapsed)) → IfSome next (λ time. EachDeadline w (λ when. time ≤ when))
next_not_late w None ahead late = tt
next_not_late w (Some time) ahead late = no_sooner w time ahead late

-- a wheel that stays has the deadline of a key as it was
pub sets_same : (w : Wheel) (key : ℕ) → Sets w w key (deadline_of w key)
sets_same w key = record { changed = refl; others = λ _ _. refl }

-- what holds of each deadline holds where one was set of which it holds
pub each_with : (old new : Wheel) (key when : ℕ) (P : ℕ → Type 0) → Sets old new key (Some when) → P when → EachDeadline old P → EachDeadline new P
each_with old new key when P sets here each other found armed =
    elim (cases_eq other key) [
      | inl same ↦ subst P (same_Some _ _ (sym sets.changed ∙ subst (λ k. deadline_of new k ≡ Some found) same armed)) here
      | inr differs ↦ each other found (sym (sets.others other differs) ∙ armed)
    ]
