use Rattle.std.specs.Prelude.{◌≡◌, Option, Some, None, Result, Ok, Err}
use Rattle.task_core.specs.declared.traits.Poll.{Poll}
use Rattle.task_core.specs.declared.traits.Poll.TheVariants.{Pending, Ready}
use Rattle.future_time.specs.declared.entry.Elapsed.{Elapsed}
use Rattle.future_time.specs.declared.sleep.Closed.{Closed}
use Rattle.future_time.specs.declared.sleep.Sleep.{Sleep}
use Rattle.future_time.specs.declared.timeout.TimeoutError.{TimeoutError}
use Rattle.future_time.specs.declared.timeout.TimeoutError.TheVariants.{Elapsed as IsLate, Closed as IsClosed}
use Rattle.future_time.specs.declared.timeout.Waited.{Waited}
use Rattle.std.specs.declared.time.Instant.{Instant}
use Rattle.std.specs.declared.time.Duration.{Duration}
use Rattle.future_time.specs.Sleeps.{SleepPolled, IsAfter}

module _ {T : Type 0} where
  -- what a timeout answers where its future is pending, and its timer answers this
  abbrev pub late_of : Poll (Result Elapsed Closed) → Poll (Result T TimeoutError)
  late_of Pending = Pending
  late_of (Ready (Ok elapsed)) = Ready (Err (IsLate elapsed))
  late_of (Ready (Err closed)) = Ready (Err IsClosed)

module _ {T V : Type 0} where
  -- what is left after this answer: nothing where it is the last one
  abbrev pub left_of : Poll (Result T TimeoutError) → V → Option (V)
  left_of Pending waited = Some waited
  left_of (Ready output) waited = None

module _ {R W E F T : Type 0} (polled : F → W → Poll T → F → Type 0) (cloned : W → Result W E → Type 0) (woken_by_ref : W → E → Type 0) where
  -- the timeout answers what the future answered, or else as its timer did, which is polled then
  abbrev pub AfterFuture : Poll T → Waited F (Sleep R W E) → W → Poll (Result T TimeoutError) → Type 0
  AfterFuture (Ready output) old waker answer = answer ≡ Ready (Ok output)
  AfterFuture Pending old waker answer = (own : Poll (Result Elapsed Closed)) × SleepPolled cloned woken_by_ref old.sleep.key.when waker own × (answer ≡ late_of own)

  -- the future was polled by this waker, and the timer where that is pending
  abbrev pub BothPolled : Waited F (Sleep R W E) → W → Poll (Result T TimeoutError) → Waited F (Sleep R W E) → Type 0
  BothPolled old waker answer new = (own : Poll T) × polled old.future waker own new.future × AfterFuture own old waker answer × (new.sleep.key ≡ old.sleep.key)

  -- both parts were polled, and dropped where the timeout is over; one that was over before is pending
  abbrev pub TimeoutPolled : Option (Waited F (Sleep R W E)) → W → Poll (Result T TimeoutError) → Option (Waited F (Sleep R W E)) → Type 0
  TimeoutPolled None waker answer new = (answer ≡ Pending) × (new ≡ None)
  TimeoutPolled (Some old) waker answer new = (waited : Waited F (Sleep R W E)) × BothPolled old waker answer waited × (new ≡ left_of answer waited)

module _ {R W E F : Type 0} where
  -- the timeout has this future, and a sleep for this time
  abbrev pub IsTimeout : Instant → Duration → F → Option (Waited F (Sleep R W E)) → Type 0
  IsTimeout start duration future None = ⊥
  IsTimeout start duration future (Some waited) = (waited.future ≡ future) × IsAfter start duration waited.sleep.key.when
