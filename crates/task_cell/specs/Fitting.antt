-- What a share of a cell knows of the block.
use Rattle.std.specs.Prelude.{◌≡◌, ℕ, ◌<◌}
use Rattle.task_cell.specs.declared.cell.Cell.{Cell}

-- the rule's key is the limit of references, and the memory is of the allocator that the cell names
abbrev pub Fitting : {R Q M B : Type 0} → ℕ → Cell R Q M B → B → Type 0
Fitting key cell heap = (key ≡ cell.limit) × (cell.limit < 36028797018963968) × (heap ≡ cell.alloc)
