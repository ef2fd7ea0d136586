use Rattle.std.proofs.Common.{◌≡◌, ◌≤◌, ◌+◌, ◌++◌, true, length, map, Some}
use Rattle.std.specs.List.{list_all, All}
use Rattle.std.specs.VecDeque.{deque_capacity}
use Rattle.future_parts.specs.Joining.{is_ended, output_of}
use Rattle.future_parts.proofs.joining.all.move_out.Given as goal

abbrev pub invariant-loop-half : goal.invariant-loop-half
invariant-loop-half g l = record {
  ended : list_all is_ended l.halves.items ≡ true;
  room : length l.outputs.items + length l.halves.items ≤ deque_capacity l.outputs;
  moved : map Some l.outputs.items ++ map (output_of (λ kept. kept.output)) l.halves.items ≡ map (output_of (λ kept. kept.output)) l.fn.halves.items;
  meets : All (λ it. ∥ g.F.Yields.meets it ∥₁) l.outputs.items;
}

abbrev pub decreases-loop-half : goal.decreases-loop-half
decreases-loop-half g l = length l.halves.items
