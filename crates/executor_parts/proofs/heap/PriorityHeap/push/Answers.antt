use Rattle.std.proofs.lemmas.List.Sorted.{IsPermutation-map}
use Rattle.executor_parts.proofs.heap.PriorityHeap.push.Goals as goal

pub returns-in-Ok-clause-added : goal.returns-in-Ok-clause-added
returns-in-Ok-clause-added g c = IsPermutation-map (λ entry. entry.runnable) _ _ c.in-Ok.ensures.permutation
