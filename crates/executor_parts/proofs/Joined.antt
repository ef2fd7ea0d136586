-- A member joins where a value is put under a number that had none.
use Rattle.std.proofs.Common.{◌≡◌, ℕ, Some, None, is_some, ap}
use Rattle.slab.specs.Slab.{Slab, Updates, get}
use Rattle.executor_parts.specs.Members.{Joins}

pub joins : {T : Type 0} (old new : Slab T) (number : ℕ) (value : T) → get old number ≡ None → Updates old new number (Some value) → Joins old new number
joins old new number value free put = record {
  was_free = ap is_some free;
  joined = ap is_some put.changed;
  others = λ other differs. ap is_some (put.others other differs);
}
