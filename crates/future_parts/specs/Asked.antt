use Rattle.std.specs.Prelude.{◌≡◌, [], ◌∷◌, ℕ, List, Option, Some, None, nat_eq, ◌≢◌, ◌^◌, ◌+◌, ◌<◌, ◌≤◌, ◌++◌, true, length, slice_get, slice_set, IfSome, IsSome, MatchOption, false, ◌⊎◌}
use Rattle.std.specs.List.{position, remove}
use Rattle.future_parts.specs.declared.asked.line.Line.{Line}
use Rattle.future_parts.specs.declared.asked.line.Waiter.{Waiter}
use Rattle.std.specs.Option.{option_to_list}
use Rattle.future_parts.specs.declared.asked.permits.Permits.{Permits}
use Rattle.future_parts.specs.declared.asked.Answer.{Answer}
use Rattle.future_parts.specs.declared.asked.Answer.TheVariants.{Taken, Closed, Waits, Refused}
use Rattle.future_parts.specs.declared.due.Step.{Step}
use Rattle.future_parts.specs.declared.due.Step.TheVariants.{Next, Done}

module _ {W : Type 0} where
  -- the waiters, the one that came first in front
  abbrev pub waiting : Line W → List (Waiter W)
  waiting line = line.waiters.items

  -- at which index the waiter with this number stands
  abbrev pub spot : Option ℕ → List (Waiter W) → Option ℕ
  spot None waiters = None
  spot (Some number) waiters = position (λ waiter. nat_eq waiter.number number) waiters

  -- the waker that came first was taken out, if there was one
  abbrev pub FirstOut : List (Waiter W) → Option W → List (Waiter W) → Type 0
  FirstOut [] taken rest = (taken ≡ None) × (rest ≡ [])
  FirstOut (first ∷ others) taken rest = (taken ≡ Some first.waker) × (rest ≡ others)

  -- only the line has changed
  abbrev pub SameCounts : Permits W → Permits W → Type 0
  SameCounts old new = (new.free ≡ old.free) × (new.given ≡ old.given) × (new.closed ≡ old.closed)

  -- the line has not changed
  abbrev pub SameLine : Permits W → Permits W → Type 0
  SameLine old new = (waiting new.line ≡ waiting old.line) × (new.line.next ≡ old.line.next) × (new.line.room ≡ old.line.room)

  -- nothing has changed
  abbrev pub Same : Permits W → Permits W → Type 0
  Same old new = SameCounts old new × SameLine old new

  -- a permit was taken, by who never was in the line not one that is assigned
  abbrev pub TakenFrom : Option ℕ → Permits W → Permits W → Type 0
  TakenFrom place old new = (new.free + new.given + 1 ≡ old.free + old.given) × (new.free ≤ old.free) × (new.given ≤ old.given) × (place ≡ None → new.given ≡ old.given) × (new.closed ≡ old.closed) × SameLine old new

  -- a waiter with this waker stands at the end of the line, under a number of its own, which is that of the place
  abbrev pub JoinsLine : Permits W → Permits W → Option ℕ → W → Type 0
  JoinsLine old new place waker = (waiting new.line ≡ waiting old.line ++ record { number = old.line.next; waker = waker } ∷ []) × (place ≡ Some old.line.next) × (new.line.next ≡ old.line.next + 1) × (new.line.room ≡ old.line.room)

  -- the waiter at an index has this waker in place of the spare one
  abbrev pub HasWaker : ℕ → Permits W → Permits W → W → Option W → Type 0
  HasWaker index old new waker spare = (before : Waiter W) × (slice_get (waiting old.line) index ≡ Some before) × (waiting new.line ≡ slice_set (waiting old.line) index (record { number = before.number; waker = waker })) × (spare ≡ Some before.waker) × (new.line.next ≡ old.line.next) × (new.line.room ≡ old.line.room)

  -- what came of a place that had to join the line
  abbrev pub Joined : Answer → Permits W → Option ℕ → Option W → Permits W → Option ℕ → Option W → Type 0
  Joined Taken old place waker new place' spare = ⊥
  Joined Closed old place waker new place' spare = ⊥
  Joined Waits old place waker new place' spare = IsSome waker × IfSome waker (JoinsLine old new place') × SameCounts old new × (spare ≡ None)
  Joined Refused old place waker new place' spare = Same old new × (place' ≡ place) × (spare ≡ waker)

  -- what came of a place that stands in the line
  abbrev pub Renewed : ℕ → Answer → Permits W → Option W → Permits W → Option W → Type 0
  Renewed index Taken old waker new spare = ⊥
  Renewed index Closed old waker new spare = ⊥
  Renewed index Waits old waker new spare = IsSome waker × IfSome waker (λ own. HasWaker index old new own spare) × SameCounts old new
  Renewed index Refused old waker new spare = Same old new × (waker ≡ None) × (spare ≡ None)

  -- no permit is to be had for a place that stands nowhere in the line: none is free, and none is assigned to it
  abbrev pub NoneFor : Option ℕ → Permits W → Type 0
  NoneFor place old = (old.free ≡ 0) × (IsSome place → old.given ≡ 0)

  -- what came of a place that stands nowhere in the line
  abbrev pub Asks : Answer → Permits W → Option ℕ → Option W → Permits W → Option ℕ → Option W → Type 0
  Asks Taken old place waker new place' spare = TakenFrom place old new × (place' ≡ None) × (spare ≡ waker)
  Asks Closed old place waker new place' spare = NoneFor place old × (old.closed ≡ true) × Same old new × (place' ≡ None) × (spare ≡ waker)
  Asks Waits old place waker new place' spare = NoneFor place old × (old.closed ≡ false) × Joined Waits old place waker new place' spare
  Asks Refused old place waker new place' spare = NoneFor place old × (old.closed ≡ false) × Joined Refused old place waker new place' spare

  -- a waker for which there is memory is not refused
  abbrev pub NotRefused : Answer → Permits W → Option W → Type 0
  NotRefused answer old waker = IsSome waker → length (waiting old.line) < old.line.room → old.line.next + 2 < 2 ^ 64 → answer ≢ Refused

  -- what a poll of a place led to
  abbrev pub Polled : Answer → Permits W → Option ℕ → Option W → Permits W → Option ℕ → Option W → Type 0
  Polled answer old place waker new place' spare = MatchOption (spot place (waiting old.line)) (Asks answer old place waker new place' spare) (λ index. Renewed index answer old waker new spare × (place' ≡ place))

  -- the waiter at an index is gone
  abbrev pub LeavesLine : Permits W → Permits W → ℕ → Type 0
  LeavesLine old new index = (waiting new.line ≡ remove (waiting old.line) index) × (new.line.next ≡ old.line.next) × (new.line.room ≡ old.line.room) × SameCounts old new

  -- the line is open or closed as before, and has given out as many numbers, and as much room
  abbrev pub SameRest : Permits W → Permits W → Type 0
  SameRest old new = (new.closed ≡ old.closed) × (new.line.next ≡ old.line.next) × (new.line.room ≡ old.line.room)

  -- a permit that was added went to the waiter that came first, which is woken, or to the free ones where none waited
  pub record Added (old new : Permits W) (woken : Option W) : Type 0 where
    pub first : FirstOut (waiting old.line) woken (waiting new.line)
    pub given : new.given ≡ old.given + length (option_to_list woken)
    pub free : new.free + length (option_to_list woken) ≡ old.free + 1
    pub rest : SameRest old new

  -- the same of a permit that was assigned
  pub record HandedOn (old new : Permits W) (woken : Option W) : Type 0 where
    pub first : FirstOut (waiting old.line) woken (waiting new.line)
    pub given : new.given + 1 ≡ old.given + length (option_to_list woken)
    pub free : new.free + length (option_to_list woken) ≡ old.free + 1
    pub rest : SameRest old new

  -- a place was given up: its waiter left the line, or the permit that was assigned to it was handed on
  pub record Leaves (place : Option ℕ) (old new : Permits W) (woken : Option W) : Type 0 where
    pub out : IfSome (spot place (waiting old.line)) (λ index. LeavesLine old new index × (woken ≡ None))
    pub on : spot place (waiting old.line) ≡ None → IsSome place → 0 < old.given → HandedOn old new woken
    pub none : spot place (waiting old.line) ≡ None → (old.given ≡ 0) ⊎ (place ≡ None) → Same old new × (woken ≡ None)

  -- the waker that a step of a duty leaves to be woken
  abbrev pub woken_by : {D : Type 0} → Step W D → Option W
  woken_by (Next due rest) = due.waker
  woken_by Done = None
