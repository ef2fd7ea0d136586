use Rattle.std.specs.Prelude.{ℕ, List, Bool, length, nat_eq}
use Rattle.std.specs.List.{list_any}
use Rattle.executor_parts.specs.declared.numbers.Numbers.{Numbers}

-- the numbers that wait, the oldest first
abbrev pub posted : Numbers → List ℕ
posted it = it.posted.items

-- the numbers that may be posted are those below this one
abbrev pub room_of : Numbers → ℕ
room_of it = length it.waits.items

-- whether a number waits
abbrev pub waits : Numbers → ℕ → Bool
waits it n = list_any (nat_eq n) (posted it)
