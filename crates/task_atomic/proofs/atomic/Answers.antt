use Rattle.task_atomic.proofs.Atoms.{steps_are_atomic}
use Rattle.task_atomic.proofs.SmallRuns.{steps_are_runs}
use Rattle.task_atomic.proofs.Finds.{rows_find}
use Rattle.task_atomic.proofs.CallActs.{calls_make_their_acts, calls_end_by_answers}
use Rattle.task_atomic.proofs.Looks.{pending_is_registered, open_task_keeps_awaiter}
use Rattle.task_atomic.proofs.atomic.Goals as goal

pub returns : goal.returns
returns c = record {
  steps = steps_are_atomic;
  refines = steps_are_runs;
  finds = rows_find;
  calls = calls_make_their_acts;
  ends = calls_end_by_answers;
  pending = pending_is_registered;
  kept = open_task_keeps_awaiter;
}
