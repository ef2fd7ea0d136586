use Rattle.std.proofs.Common.{◌≡◌, ◌≤◌, ◌+◌, ◌++◌, length, map}
use Rattle.std.specs.VecDeque.{deque_capacity}
use Rattle.future_parts.specs.declared.joining.half.Half.TheVariants.{Awaited}
use Rattle.future_parts.proofs.joining.all.await_each.Given as goal

abbrev pub invariant-loop-future : goal.invariant-loop-future
invariant-loop-future g l = record {
  room : length l.halves.items + length l.futures.items ≤ deque_capacity l.halves;
  moved : l.halves.items ++ map Awaited l.futures.items ≡ map Awaited l.fn.futures.items;
}

abbrev pub decreases-loop-future : goal.decreases-loop-future
decreases-loop-future g l = length l.futures.items
