use Rattle.std.specs.Prelude.{◌≡◌, ℕ, ◌+◌, Option, Some, None}
use Rattle.task_core.specs.Poll.{IfReady}
use Rattle.task_core.specs.declared.traits.Poll.{Poll}
use Rattle.rows_fixtures.specs.declared.behaviour.Behaviour.{Behaviour}
use Rattle.rows_fixtures.specs.declared.behaviour.Behaviour.TheVariants.{Ready, Pending, Sum, Keep, KeepPending, DropTask, Yield, Cancel}
use Rattle.rows_fixtures.specs.declared.output.Output.{Output}

-- the number that a future answers, if it ever is ready
abbrev pub answer_of : Behaviour → Option ℕ
answer_of (Ready number) = Some number
answer_of Pending = None
answer_of (Sum first second) = Some (first + second)
answer_of (Keep number) = Some number
answer_of KeepPending = None
answer_of (DropTask number) = Some number
answer_of (Yield number) = Some number
answer_of Cancel = None

-- a poll's output is the number that the future answers, and the future behaves as before
abbrev pub IsPolled : Behaviour → Poll Output → Behaviour → Type 0
IsPolled old answer new = IfReady answer (λ output. answer_of old ≡ Some output.number) × (new ≡ old)
