use Rattle.std.specs.Prelude.{◌≡◌, Option, None, true, false, IsSome}
use Rattle.future_parts.specs.declared.asked.single.Single.{Single}
use Rattle.future_parts.specs.declared.asked.Answer.{Answer}
use Rattle.future_parts.specs.declared.asked.Answer.TheVariants.{Taken, Closed, Waits, Refused}

module _ {T W : Type 0} where
  -- who is there has not changed
  abbrev pub SameEnds : Single T W → Single T W → Type 0
  SameEnds old new = (new.sending ≡ old.sending) × (new.receiving ≡ old.receiving)

  -- what a poll led to
  abbrev pub Polled : Answer → Option T → Single T W → Option W → Single T W → Option W → Type 0
  Polled Taken found old waker new spare = IsSome found × (old.value ≡ found) × (new.value ≡ None) × (new.waker ≡ old.waker) × (spare ≡ waker) × SameEnds old new
  Polled Closed found old waker new spare = (found ≡ None) × (old.value ≡ None) × (old.sending ≡ false) × (new.value ≡ None) × (new.waker ≡ old.waker) × (spare ≡ waker) × SameEnds old new
  Polled Waits found old waker new spare = (found ≡ None) × (old.value ≡ None) × (old.sending ≡ true) × IsSome waker × (new.waker ≡ waker) × (spare ≡ old.waker) × (new.value ≡ None) × SameEnds old new
  Polled Refused found old waker new spare = (found ≡ None) × (old.value ≡ None) × (old.sending ≡ true) × (waker ≡ None) × (new.waker ≡ old.waker) × (spare ≡ None) × (new.value ≡ None) × SameEnds old new
