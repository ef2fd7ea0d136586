use Rattle.std.specs.Prelude.{ℕ, ⊤, List, map}
use Rattle.std.specs.declared.alloc.Global.{Global}
use Rattle.task_core.specs.declared.traits.Wake as wake
use Rattle.task_core.specs.declared.traits.Yields as yields
use Rattle.std.specs.BinaryHeap.{heap_items}
use Rattle.task_cell.specs.declared.runnable.Runnable.{Runnable}
use Rattle.executor_parts.specs.declared.heap.PriorityHeap.{PriorityHeap}

module _ {R F Q A O K : Type 0} {G : yields.Ghosts F O} {W : wake.Ghosts A K} where
  -- the Runnables that a heap holds, in no particular order
  abbrev pub entries : PriorityHeap R F Q A O K G W → List (Runnable R F Q ℕ A ⊤ Global O K G)
  entries it = map (λ entry. entry.runnable) (heap_items it.heap)

  -- how many it has room for
  abbrev pub room_of : PriorityHeap R F Q A O K G W → ℕ
  room_of it = it.room
