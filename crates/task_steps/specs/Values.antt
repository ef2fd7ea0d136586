-- What the rule says of each value in the place of the work.
use Rattle.task_core.specs.declared.traits.Yields.{Ghosts}
use Rattle.task_core.specs.Yielded.{Continued, Yielded}
use Rattle.task_steps.specs.declared.kept.Kept.{Kept}

-- what holds of a future that lies there, and of an output
pub record Values (F T : Type 0) : Type 1 where
  pub future : F → Type 0
  pub output : T → Type 0

-- polls have made them of the future that was spawned, by what its type states of each
abbrev pub values_of : {F O : Type 0} (G : Ghosts F O) → F → Values F (Kept F O G)
values_of G spawned = record { future = Continued G.moves spawned; output = λ kept. Yielded G.moves spawned kept.output }
