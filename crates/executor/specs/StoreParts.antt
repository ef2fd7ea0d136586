use Rattle.std.specs.Prelude.{ℕ}
use Rattle.std.specs.Arc.{arc_value}
use Rattle.executor.specs.declared.store.Part.{Part}

-- the number of a part of a store
abbrev pub part_number : {H : Type 0} → Part H → ℕ
part_number part = (arc_value part.returned).slots.part
