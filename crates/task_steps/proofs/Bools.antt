-- Small facts of truth values.
use Rattle.std.specs.Prelude.{◌≡◌, true, false}

-- no test that fails has passed
pub never : {P : Type 0} → false ≡ true → P
never e = absurd (cc)
