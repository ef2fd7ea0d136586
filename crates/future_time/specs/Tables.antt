use Rattle.std.specs.Prelude.{◌≡◌, ◌≢◌, ◌⊎◌, ℕ, ◌<◌, Bool, true, false, Option, Some, None, IsSome}
use Rattle.slab.specs.Slab.{Slab, get}
use Rattle.future_time.specs.declared.entry.Entry.{Entry}
use Rattle.future_time.specs.declared.entry.Look.{Look}
use Rattle.future_time.specs.declared.entry.Look.TheVariants.{Over, Closed, Waits, Unregistered}

module _ {W : Type 0} where
  -- the tick at which a timer is due
  abbrev pub when_of : Option (Entry W) → Option ℕ
  when_of (Some entry) = Some entry.when
  when_of None = None

  -- the waker of the future that awaits a timer
  abbrev pub waker_of : Option (Entry W) → Option W
  waker_of (Some entry) = entry.waker
  waker_of None = None

  -- the waker was taken out of the entry of this key, and nothing else changed
  abbrev pub TakesWaker : Slab (Entry W) → Slab (Entry W) → ℕ → Type 0
  TakesWaker old new key = (waker_of (get new key) ≡ None) × (when_of (get new key) ≡ when_of (get old key)) × ((other : ℕ) → other ≢ key → get new other ≡ get old other)

  -- there is a timer for this tick, which lies ahead
  abbrev pub IsAhead : ℕ → Option (Entry W) → ℕ → Type 0
  IsAhead reached entry when = (when_of entry ≡ Some when) × (reached < when)

  -- what a poll by this waker, if there was one, finds of a timer for this tick
  abbrev pub IsSeen : ℕ → Bool → Option (Entry W) → ℕ → Option W → Look → Type 0
  IsSeen reached closed entry when waker (Over elapsed) = (when_of entry ≡ Some when) × (elapsed.when ≡ when) × (elapsed.reached ≡ reached)
  IsSeen reached closed entry when waker Closed = (when_of entry ≢ Some when) ⊎ ((closed ≡ true) × IsAhead reached entry when)
  IsSeen reached closed entry when waker Waits = (closed ≡ false) × IsAhead reached entry when × IsSome waker
  IsSeen reached closed entry when waker Unregistered = (closed ≡ false) × IsAhead reached entry when × (waker ≡ None)
