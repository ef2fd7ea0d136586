use Rattle.std.specs.Prelude.{ℕ, ◌≤◌, IsSomeAnd}
use Rattle.futures.specs.LinkedLists.Wheel.{Wheel, deadline_of, EachDeadline}

-- the key is due by this time, and no other one is due before it
abbrev pub IsNext : Wheel → ℕ → ℕ → Type 0
IsNext wheel until key = IsSomeAnd (deadline_of wheel key) (λ when. (when ≤ until) × EachDeadline wheel (λ other. when ≤ other))
