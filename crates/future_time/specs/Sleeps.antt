use Rattle.std.specs.Prelude.{◌≡◌, ◌⊎◌, ℕ, ◌+◌, ◌*◌, ◌-◌, ◌^◌, ◌<◌, ◌≤◌, Option, Some, None, Result, Ok, Err}
use Rattle.std.specs.Duration.{as_nanos}
use Rattle.std.specs.Time.{instant_nanos, FitsClock}
use Rattle.std.specs.declared.time.Instant.{Instant}
use Rattle.std.specs.declared.time.Duration.{Duration}
use Rattle.task_core.specs.declared.traits.Poll.{Poll}
use Rattle.task_core.specs.declared.traits.Poll.TheVariants.{Pending, Ready}
use Rattle.future_time.specs.declared.entry.Elapsed.{Elapsed}
use Rattle.future_time.specs.declared.entry.Look.{Look}
use Rattle.future_time.specs.declared.entry.Look.TheVariants.{Over, Waits, Unregistered, Closed as NotInTime}
use Rattle.future_time.specs.declared.sleep.Closed.{Closed}

module _ {W E : Type 0} where
  -- a clone of the waker is registered, or there was none to be had and the waker was woken
  abbrev pub IsRegistered : (W → Result W E → Type 0) → (W → E → Type 0) → W → Type 0
  IsRegistered cloned woken_by_ref waker = ((clone : W) × cloned waker (Ok clone)) ⊎ (((refused : E) × cloned waker (Err refused)) × (ended : E) × woken_by_ref waker ended)

  -- a timer for this tick is over, which shows that the tick was reached, or closed, or the waker is registered
  abbrev pub SleepPolled : (W → Result W E → Type 0) → (W → E → Type 0) → ℕ → W → Poll (Result Elapsed Closed) → Type 0
  SleepPolled cloned woken_by_ref when waker (Ready (Ok elapsed)) = elapsed.when ≡ when
  SleepPolled cloned woken_by_ref when waker (Ready (Err closed)) = Unit
  SleepPolled cloned woken_by_ref when waker Pending = IsRegistered cloned woken_by_ref waker

-- what a look at a timer is told as; it woke the waker where no clone of it was to be had
abbrev pub IsAnswer : Type 0 → Look → Poll (Result Elapsed Closed) → Type 0
IsAnswer woken (Over elapsed) answer = answer ≡ Ready (Ok elapsed)
IsAnswer woken NotInTime answer = (closed : Closed) × (answer ≡ Ready (Err closed))
IsAnswer woken Waits answer = answer ≡ Pending
IsAnswer woken Unregistered answer = (answer ≡ Pending) × woken

-- the tick is the first one that is no sooner than this time after an instant of the clock, which has that time
abbrev pub IsAfter : Instant → Duration → ℕ → Type 0
IsAfter start duration when =
    (now : Instant) × FitsClock (instant_nanos now + as_nanos duration) × (when < 2 ^ 64 - 1 → instant_nanos now + as_nanos duration ≤ instant_nanos start + when * 1_000_000)
    × (when * 1_000_000 < (instant_nanos now + as_nanos duration - instant_nanos start) + 1_000_000)
