use Rattle.std.specs.Prelude.{◌≡◌}
use Rattle.future_time.specs.declared.entry.table.TimerTable.{TimerTable}

module _ {W : Type 0} where
  -- the timers, what was reached, and whether they are closed, stay
  abbrev pub SameTimers : TimerTable W → TimerTable W → Type 0
  SameTimers old new = (new.wheel ≡ old.wheel) × (new.entries ≡ old.entries) × (new.reached ≡ old.reached) × (new.closed ≡ old.closed)
