-- Each row of the task of one thread is a call that is made alone.
use Rattle.task_laws.specs.LocalRows.{EachRowAgrees}
use Rattle.task_laws.proofs.Scenes.{rules}

pub each_row_agrees : EachRowAgrees
each_row_agrees limit t a = record {
  run_closed = grind rules;
  run_starts = grind rules;
  run_ready = grind rules;
  run_pending = grind rules;
  drop_runnable = grind rules;
  schedule = grind rules;
  gain = grind rules;
  refuse_gain = grind rules;
  wake = grind rules;
  drop_waker = grind rules;
  wake_by_value = grind rules;
  cancel = grind rules;
  detach = grind rules;
  drop_task = grind rules;
  is_finished = grind rules;
  poll = grind rules;
  cancel_and_poll = grind rules;
}
