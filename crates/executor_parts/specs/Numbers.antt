use Rattle.std.specs.Prelude.{◌≡◌, ℕ, List, Bool, false, nat_eq, slice_index_or}
use Rattle.std.specs.List.{list_any}

-- a flag is set exactly where its number was posted, and only numbers with a flag were
abbrev pub IsMarked : List Bool → List ℕ → Type 0
IsMarked flags posted = (n : ℕ) → slice_index_or flags n false ≡ list_any (nat_eq n) posted
