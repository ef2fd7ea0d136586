use Rattle.std.specs.Prelude.{◌≡◌, Option, Some, None, IsSome}
use Rattle.future_parts.specs.declared.mutex.kept_value.KeptValue.{KeptValue}
use Rattle.future_parts.specs.declared.asked.Answer.{Answer}
use Rattle.future_parts.specs.declared.asked.Answer.TheVariants.{Taken, Closed, Waits, Refused}
use Rattle.future_parts.specs.Asked.{Added}

module _ {T : Type 0} where
  -- the value was handed out where the answer says so, and stays else
  abbrev pub ValueHandedOut : Answer → Option T → Option T → Option T → Type 0
  ValueHandedOut Taken old out new = (out ≡ old) × IsSome out × (new ≡ None)
  ValueHandedOut Closed old out new = (out ≡ None) × (new ≡ old)
  ValueHandedOut Waits old out new = (out ≡ None) × (new ≡ old)
  ValueHandedOut Refused old out new = (out ≡ None) × (new ≡ old)

module _ {T W : Type 0} where
  -- the value is here, for the waiter that came first, which is woken, or free where none waited
  abbrev pub PutBack : T → KeptValue T W → KeptValue T W → Option W → Type 0
  PutBack value old new woken = (new.value ≡ Some value) × Added old.permits new.permits woken
