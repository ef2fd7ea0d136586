use Rattle.std.proofs.Common.{◌≡◌, ◌++◌, length}
use Rattle.executor_parts.specs.Posted.{posted, room_of}
use Rattle.executor.proofs.posted.widen.Given as goal

abbrev pub invariant-loop-number : goal.invariant-loop-number
invariant-loop-number l = record {
  left : room_of l.numbers ≡ room_of l.initial.numbers;
  room : room_of l.wider ≡ room_of l.initial.wider;
  order : posted l.wider ++ posted l.numbers ≡ posted l.initial.numbers;
}

abbrev pub decreases-loop-number : goal.decreases-loop-number
decreases-loop-number l = length (posted l.numbers)
