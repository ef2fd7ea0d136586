-- The future and the output lie in the caller's memory, so the cell knows nothing of them.
use Rattle.task_steps.specs.Values.{Values}

-- nothing is said of a future or an output
abbrev pub unknown : {F T : Type 0} → Values F T
unknown = record { future = λ _. Unit {0}; output = λ _. Unit {0} }
