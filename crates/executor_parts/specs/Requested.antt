use Rattle.std.specs.Prelude.{ℕ, Option, Some, None, length, slice_index_or, max}
use Rattle.executor_parts.specs.declared.requests.Requests.{Requests}

-- the generation of the last member of a number whose abort was asked for, if any was
abbrev pub requested : Requests → ℕ → Option ℕ
requested it number = slice_index_or it.generations.items number None

-- requests are kept for the numbers below this one
abbrev pub room_of : Requests → ℕ
room_of it = length it.generations.items

-- the later one of two members of a number
abbrev pub later : Option ℕ → ℕ → ℕ
later (Some before) generation = max before generation
later None generation = generation
