use Rattle.std.specs.Prelude.{◌≡◌, ℕ, Option, Some, None, Result, Ok, Err}
use Rattle.task_core.specs.declared.traits.TaskPoll.{TaskPoll}
use Rattle.task_core.specs.declared.traits.TaskPoll.TheVariants.{Pending, Ready, Refused}
use Rattle.rows_fixtures.specs.declared.output.Output.{Output}

-- a Task's poll answered ready with that number
abbrev pub IsReadyWith : {E : Type 0} → TaskPoll (Result Output E) → ℕ → Type 0
IsReadyWith (Ready (Ok output)) number = output.number ≡ number
IsReadyWith (Ready (Err closed)) number = ⊥
IsReadyWith Pending number = ⊥
IsReadyWith Refused number = ⊥

-- a poll of a Cancel or of a FallibleTask answered ready with that number
abbrev pub IsSomeWith : TaskPoll (Option Output) → ℕ → Type 0
IsSomeWith (Ready (Some output)) number = output.number ≡ number
IsSomeWith (Ready None) number = ⊥
IsSomeWith Pending number = ⊥
IsSomeWith Refused number = ⊥
