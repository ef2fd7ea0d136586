use Rattle.std.specs.Prelude.{◌≡◌, ◌++◌, List}
use Rattle.std.specs.List.{All}

module _ {T : Type 0} where
  -- the new list is the old one, and then items of which this holds
  pub record Appends (holds : T → Type 0) (old new : List T) : Type 0 where
    pub added : List T
    pub behind : new ≡ old ++ added
    pub each : All holds added
