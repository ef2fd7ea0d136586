use Rattle.std.specs.Prelude.{◌≡◌, Option, None}
use Rattle.task_core.specs.declared.traits.Poll.{Poll}
use Rattle.task_core.specs.declared.traits.Poll.TheVariants.{Pending, Ready}

module _ {T K : Type 0} where
  -- the key is kept while the future is pending, and given up once it is ready
  abbrev pub StaysIfPending : Poll T → Option K → Option K → Type 0
  StaysIfPending Pending old new = new ≡ old
  StaysIfPending (Ready output) old new = new ≡ None
