use Rattle.std.proofs.Common.{◌≡◌, ◌≤◌}
use Rattle.executor.proofs.store.Store.take_at.Given as goal

abbrev pub invariant-loop-slot : goal.invariant-loop-slot
invariant-loop-slot g l = record {
  stays : l.walk ≡ l.fn.walk;
  from : l.fn.walk.slot ≤ l.slot;
}
