use Rattle.std.specs.Prelude.{◌≡◌}
use Rattle.task_core.specs.declared.traits.Poll.{Poll}
use Rattle.task_core.specs.declared.traits.Poll.TheVariants.{Pending, Ready}
use Rattle.future_parts.specs.declared.racing.Raced.{Raced}
use Rattle.future_parts.specs.declared.racing.Raced.TheVariants.{First, Second}

module _ {T U : Type 0} where
  -- the output meets what the future that gave it states
  abbrev pub MeetsOne : (T → Type 0) → (U → Type 0) → Raced T U → Type 0
  MeetsOne meets meets_too (First output) = meets output
  MeetsOne meets meets_too (Second output) = meets_too output

  -- the answer of the second future, as that of the race
  abbrev pub as_second : Poll U → Poll (Raced T U)
  as_second Pending = Pending
  as_second (Ready output) = Ready (Second output)

module _ {G W T U : Type 0} where
  -- the race answers what the first future answered, or else what the second one does, which is polled then
  abbrev pub AfterFirst : (G → W → Poll U → G → Type 0) → Poll T → G → W → Poll (Raced T U) → G → Type 0
  AfterFirst polled (Ready output) old waker answer new = (answer ≡ Ready (First output)) × (new ≡ old)
  AfterFirst polled Pending old waker answer new = (own : Poll U) × polled old waker own new × (answer ≡ as_second own)
