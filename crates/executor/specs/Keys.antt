use Rattle.std.specs.Prelude.{◌≡◌, ◌%◌, slice_index_or}
use Rattle.std.specs.Arc.{arc_value}
use Rattle.executor.specs.declared.store.Store.{Store}
use Rattle.executor.specs.declared.store.Part.{Part}
use Rattle.executor.specs.declared.store.Key.{Key}

-- the key is of this store: dropped, it gives its place back to the part that has it
abbrev pub IsKeyOf : {H R : Type 0} → Store H → Key R → Type 0
IsKeyOf {H} store key = (other : Part H) → arc_value key.returned ≡ arc_value (slice_index_or store.parts.items (key.number % 8) other).returned
