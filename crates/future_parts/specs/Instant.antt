use Rattle.std.specs.Prelude.{◌≡◌, Option, Some, None}
use Rattle.task_core.specs.declared.traits.Poll.{Poll}
use Rattle.task_core.specs.declared.traits.Poll.TheVariants.{Pending, Ready}

module _ {T : Type 0} where
  -- the answer with this value, if there is one
  abbrev pub poll_of : Option T → Poll T
  poll_of (Some value) = Ready value
  poll_of None = Pending

  -- the waker was woken, and there is no output yet
  abbrev pub WokeAndWaits : Type 0 → Poll T → Type 0
  WokeAndWaits woken answer = woken × (answer ≡ Pending)
