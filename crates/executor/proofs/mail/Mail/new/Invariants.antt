use Rattle.std.proofs.Common.{◌≡◌, ◌<◌, ℕ, length}
use Rattle.std.specs.Prelude.{slice_index_or}
use Rattle.executor.proofs.mail.Mail.new.Given as goal

abbrev pub invariant-loop-part : goal.invariant-loop-part
invariant-loop-part g l = record {
  many : length l.parts.items ≡ l.part;
  each : (i : ℕ) (other : _) → i < l.part → (slice_index_or l.parts.items i other).part ≡ i;
}
