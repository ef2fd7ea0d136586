use Rattle.std.proofs.lemmas.List.Sorted.{IsPermutation-map}
use Rattle.executor_parts.specs.Priority.{priority_of}
use Rattle.executor_parts.proofs.Greatest.{bound_of_parts}
use Rattle.executor_parts.proofs.heap.PriorityHeap.pop.Goals as goal

pub returns-clause-greatest : goal.returns-clause-greatest
returns-clause-greatest g c = (bound_of_parts (λ entry. entry.runnable) priority_of c.in_ok-entry.entry _ (c.in_ok-entry.ensures.heap_order c.args.self.now.ordered).1)

pub returns-clause-others : goal.returns-clause-others
returns-clause-others g c = (IsPermutation-map (λ entry. entry.runnable) _ _ c.in_ok-entry.ensures.permutation)
