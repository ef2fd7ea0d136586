use Rattle.task_atomic.proofs.Nesting.{nested_calls_are_whole, whole_runs_nest, calls_in_turn_nest}
use Rattle.task_atomic.proofs.sequential.Goals as goal

pub returns : goal.returns
returns c = record { nested = nested_calls_are_whole; whole = whole_runs_nest; turns = calls_in_turn_nest }
