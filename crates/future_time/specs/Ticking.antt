use Rattle.std.specs.Prelude.{◌≡◌, ℕ, ◌+◌, ◌-◌, ◌^◌, min, Option, Result, Ok, Err}
use Rattle.task_core.specs.declared.traits.Poll.{Poll}
use Rattle.task_core.specs.declared.traits.Poll.TheVariants.{Pending, Ready}
use Rattle.future_time.specs.declared.entry.Elapsed.{Elapsed}
use Rattle.future_time.specs.declared.sleep.Closed.{Closed}
use Rattle.future_time.specs.declared.interval.Interval.{Interval}
use Rattle.future_time.specs.Sleeps.{SleepPolled}

module _ {R W E : Type 0} where
  -- the time for which an interval is set after this answer: one period later where that time is over
  abbrev pub next_of : Interval R W E → Poll (Result Elapsed Closed) → ℕ
  next_of interval (Ready (Ok elapsed)) = min (interval.key.when + interval.period) (2 ^ 64 - 1)
  next_of interval (Ready (Err closed)) = interval.key.when
  next_of interval Pending = interval.key.when

  -- the interval was polled as a sleep until its time, and is set for the next one where that is over
  abbrev pub TickPolled : (W → Result W E → Type 0) → (W → E → Type 0) → Interval R W E → W → Poll (Result Elapsed Closed) → Interval R W E → Type 0
  TickPolled cloned woken_by_ref old waker answer new = SleepPolled cloned woken_by_ref old.key.when waker answer × (new.key.when ≡ next_of old answer) × (new.period ≡ old.period)
