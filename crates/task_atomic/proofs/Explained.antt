-- A witness has the interleaving of which the small task's theorems speak.
use Rattle.std.proofs.Common.{Some, sym, ap, ◌∙◌}
use Rattle.task_core.specs.Word.{State}
use Rattle.task_steps.specs.Rule.{steps_of}
use Rattle.task_atomic.specs.Small.{small_task}
use Rattle.task_atomic.specs.Witnessed.{WitnessesExplain}
use Rattle.task_atomic.proofs.SmallRuns.{steps_are_runs}
use Rattle.task_atomic.proofs.CodeCalls.{calls_are_acts}
use Rattle.task_atomic.proofs.Nesting.{nested_calls_are_whole}

pub witnesses_explain : WitnessesExplain
witnesses_explain limit word at ds w = record {
  runs = steps_are_runs limit (steps_of w.log) w.machine w.ran ∙ ap (λ (x : State). Some (small_task x)) (sym w.word_is);
  calls = calls_are_acts limit w.log w.machine w.reached w.number ds w.did;
  whole = nested_calls_are_whole limit w.log w.machine w.reached;
}
