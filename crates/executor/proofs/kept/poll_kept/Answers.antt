use Rattle.std.specs.Prelude.{Result, Ok, Err}
use Rattle.task_core.specs.declared.traits.TaskPoll.{TaskPoll}
use Rattle.task_core.specs.declared.traits.TaskPoll.TheVariants.{Pending as Waits, Ready, Refused}
use Rattle.task_cell.specs.PollPaths.{IfOutput}
use Rattle.executor.proofs.kept.poll_kept.Goals as goal

output : {T E : Type 0} {P Q : T → Type 0} (polled : TaskPoll (Result T E)) → IfOutput polled P → ((value : T) → P value → Q value) → IfOutput polled Q
output (Ready (Ok value)) told follows = follows value told
output (Ready (Err closed)) told follows = tt
output Waits told follows = tt
output Refused told follows = tt

pub returns-clause-yielded : goal.returns-clause-yielded
returns-clause-yielded g c = output c.poll-answer.result c.poll-answer.ensures.yielded (λ value told. (_, told))
