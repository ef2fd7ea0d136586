-- The seats of a spawn: the Runnable and the Task are one at first.
use Rattle.std.specs.Prelude.{[], ◌∷◌}
use Rattle.task_laws.specs.declared.positions.Position.TheVariants.{At}
use Rattle.task_laws.specs.declared.positions.Rest.TheVariants.{Runnable, Task}
use Rattle.task_steps.specs.declared.table.View.{View}
use Rattle.task_steps.specs.Rule.{view, fresh}

-- the Runnable keeps the seat, and the Task gets another
abbrev pub opening_runnable : View → View
opening_runnable v = view v.limit (fresh (At Runnable) ∷ [])

-- the seat that the Task gets
abbrev pub opening_task : View → View
opening_task v = view v.limit (fresh (At (Task 0)) ∷ [])
