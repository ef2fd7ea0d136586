use Rattle.std.specs.Prelude.{◌≡◌, ◌⊎◌, Option, Some, None, Result, Ok}
use Rattle.task_core.specs.declared.traits.Poll.{Poll}
use Rattle.task_core.specs.declared.traits.Poll.TheVariants.{Pending, Ready}
use Rattle.future_parts.specs.declared.shared.Shared.{Shared}

module _ {S N : Type 0} where
  -- how the state of an object began
  abbrev pub made_with : Shared S N → N
  made_with shared = shared.first

module _ {W E T : Type 0} (cloned : W → Result W E → Type 0) (woken_by_ref : W → E → Type 0) where
  -- a poll that is pending made a clone of its waker, or woke it
  abbrev pub IsRegistered : W → Poll T → Type 0
  IsRegistered waker Pending = ((clone : W) × cloned waker (Ok clone)) ⊎ ((ended : E) × woken_by_ref waker ended)
  IsRegistered waker (Ready output) = Unit {0}

  -- a future that has its state keeps it while it is pending, and gives it to its output; one that has answered is pending
  abbrev pub AwaitPolled : {H : Type 0} → (T → H) → Option H → W → Poll T → Option H → Type 0
  AwaitPolled handle None waker answer new = (answer ≡ Pending) × (new ≡ None)
  AwaitPolled handle (Some state) waker Pending new = IsRegistered waker Pending × (new ≡ Some state)
  AwaitPolled handle (Some state) waker (Ready output) new = (handle output ≡ state) × (new ≡ None)
