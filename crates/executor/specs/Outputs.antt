use Rattle.task_core.specs.declared.traits.Poll.{Poll}
use Rattle.task_core.specs.Yielded.{Yielded}

module _ {F O : Type 0} where
  -- the future of some task has answered this output, by what its type states of each poll: which task, only the lock knows
  abbrev pub IsYielded : (F → Poll O → F → Type 0) → O → Type 0
  IsYielded moves output = (spawned : F) × Yielded moves spawned output
