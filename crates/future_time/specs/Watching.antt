use Rattle.std.specs.Prelude.{ℕ, Option, Some, None, unwrap_or, if◌then◌else◌, nat_lt}
use Rattle.std.specs.Time.{instant_nanos}
use Rattle.std.specs.declared.time.Instant.{Instant}
use Rattle.future_time.specs.declared.registry.table.LastPoll.{LastPoll}
use Rattle.future_time.specs.declared.registry.table.LastPoll.TheVariants.{NotYet, Running, Ended}
use Rattle.future_time.specs.declared.registry.table.WatchedTask.{WatchedTask}

-- the instant since which a future stands so
abbrev pub date_of : LastPoll → Instant
date_of (NotYet at) = at
date_of (Running at) = at
date_of (Ended at) = at

module _ {N : Type 0} where
  -- a watched future stands so since this instant, or where there is none since the one that it had
  abbrev pub polled_at : (Instant → LastPoll) → Option Instant → Option (WatchedTask N) → Option (WatchedTask N)
  polled_at stands now None = None
  polled_at stands now (Some task) = Some (record { name = task.name; last_poll = stands (unwrap_or now (date_of task.last_poll)) })

  -- what is shown of a key: its future, where that stands as it does since before an instant
  abbrev pub shown_since : Instant → ℕ × WatchedTask N → Option (WatchedTask N)
  shown_since since entry = if nat_lt (instant_nanos (date_of entry.1.last_poll)) (instant_nanos since) then Some entry.1 else None
