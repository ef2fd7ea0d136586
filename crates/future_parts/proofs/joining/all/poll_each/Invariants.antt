use Rattle.std.proofs.Common.{◌≡◌, ℕ, ◌<◌, ◌≤◌, length, Some}
use Rattle.std.specs.Prelude.{slice_get}
use Rattle.future_parts.specs.Joining.{HalfPolled}
use Rattle.future_parts.proofs.joining.all.poll_each.Given as goal

abbrev pub invariant-loop-index : goal.invariant-loop-index
invariant-loop-index g l = record {
  as_long : length l.halves.items ≡ length l.fn.halves.items;
  polled : (k : ℕ) (half next : _) → k < l.index → slice_get l.fn.halves.items k ≡ Some half → slice_get l.halves.items k ≡ Some next → HalfPolled g.F.Future.polled (λ kept. kept.output) half l.waker next;
  rest : (k : ℕ) → l.index ≤ k → slice_get l.halves.items k ≡ slice_get l.fn.halves.items k;
}
