use Rattle.std.specs.Prelude.{◌≡◌, ◌+◌, ℕ, Option}
use Rattle.future_parts.specs.declared.semaphore.lent.Lent.{Lent}
use Rattle.future_parts.specs.declared.asked.Answer.{Answer}
use Rattle.future_parts.specs.declared.asked.Answer.TheVariants.{Taken, Closed, Waits, Refused}
use Rattle.future_parts.specs.Asked.{Added}

-- how many permits an answer lends
abbrev pub lent_by : Answer → ℕ
lent_by Taken = 1
lent_by Closed = 0
lent_by Waits = 0
lent_by Refused = 0

module _ {W : Type 0} where
  -- a lent permit was given back: it went to the waiter that came first, or to the free ones where none waited
  abbrev pub GivenBack : Lent W → Lent W → Option W → Type 0
  GivenBack old new woken = (new.lent + 1 ≡ old.lent) × Added old.permits new.permits woken
