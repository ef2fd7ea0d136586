-- What a call has in its hands.
use Rattle.std.specs.Prelude.{Option, Some, None}
use Rattle.task_steps.specs.declared.places.Held.{Held}

-- the value in the hands of a call, if there is one
abbrev pub held : {T : Type 0} → Option (Held T) → Option T
held None = None
held (Some h) = Some h.value
