use Rattle.std.specs.Prelude.{◌≡◌, ℕ, ◌<◌, List, length, slice_index_or}

module _ {T : Type 0} where
  -- there are eight parts, each at its number
  pub record InParts (number : T → ℕ) (parts : List T) : Type 0 where
    pub eight : length parts ≡ 8
    pub each : (i : ℕ) (other : T) → i < 8 → number (slice_index_or parts i other) ≡ i
