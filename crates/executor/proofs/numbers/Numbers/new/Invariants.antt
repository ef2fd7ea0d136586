use Rattle.std.proofs.Common.{◌≡◌, length}
use Rattle.executor.proofs.numbers.Numbers.new.Given as goal

abbrev pub invariant-loop-worker : goal.invariant-loop-worker
invariant-loop-worker l = length l.shown.items ≡ l._worker
