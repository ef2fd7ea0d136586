use Rattle.executor_parts.proofs.blocking.block_on.Given as goal

abbrev pub invariant-loop : goal.invariant-loop
invariant-loop g l = record {
  can_next : (goal.iterator-loop g).can_next l.iterator';
  is_finite : (goal.iterator-loop g).is_finite l.iterator';
  goes_on : (answer : _) (after : _) → g.T.Awaited.answers l.task answer after → g.T.Awaited.answers l.fn.task answer after;
}
