-- What a poll of a timeout leaves.
use Rattle.std.proofs.Common.{◌≡◌, Option, Some, sym, subst}
use Rattle.std.specs.Prelude.{Result}
use Rattle.task_core.specs.declared.traits.Poll.{Poll}
use Rattle.future_time.specs.declared.sleep.Sleep.{Sleep}
use Rattle.future_time.specs.declared.timeout.TimeoutError.{TimeoutError}
use Rattle.future_time.specs.declared.timeout.Waited.{Waited}
use Rattle.future_time.specs.Timeouts.{BothPolled, TimeoutPolled, left_of}

module _ {R W E F T : Type 0} (polled : F → W → Poll T → F → Type 0) (cloned : W → Result W E → Type 0) (woken_by_ref : W → E → Type 0) (waker : W) where
  pub timeout_polled : (found : Option (Waited F (Sleep R W E))) (old : Waited F (Sleep R W E)) (answer : Poll (Result T TimeoutError)) (new : Waited F (Sleep R W E)) (rest : Option (Waited F (Sleep R W E)))
      → found ≡ Some old → BothPolled polled cloned woken_by_ref old waker answer new → rest ≡ left_of answer new
      → TimeoutPolled polled cloned woken_by_ref found waker answer rest
  timeout_polled found old answer new rest same both left = subst (λ o. TimeoutPolled polled cloned woken_by_ref o waker answer rest) (sym same) (new, both, left)
