use Rattle.task_progress.proofs.Sums.{steps_are_bounded, open_calls_bound_steps}
use Rattle.task_progress.proofs.OwnSteps.{each_party_is_bounded}
use Rattle.task_progress.proofs.Attempts.{lock_free, misses_after_look}
use Rattle.task_progress.proofs.Waits.{no_call_waits}
use Rattle.task_progress.proofs.Seen.{what_task_saw_stays}
use Rattle.task_progress.proofs.Ending.{each_ends_alone, all_calls_end, never_stuck}
use Rattle.task_progress.proofs.AtRest.{without_work_at_rest, due_wakes_are_polled}
use Rattle.task_progress.proofs.ComesToRest.{all_come_to_rest, due_wakes_stay, closed_makes_no_runnable, runs_lead_to_rest, closed_leads_to_rest}
use Rattle.task_progress.proofs.Carried.{due_wakes_are_carried, due_wakes_lead_to_polls}
use Rattle.task_progress.proofs.progress.Goals as goal

pub returns : goal.returns
returns c = record {
  steps = steps_are_bounded;
  own_steps = each_party_is_bounded;
  open_calls = open_calls_bound_steps;
  lock_free = lock_free;
  call_misses = misses_after_look;
  may_step = no_call_waits;
  ends_alone = each_ends_alone;
  task_saw = what_task_saw_stays;
  calls_end = all_calls_end;
  never_stuck = never_stuck;
  wake_stays_due = due_wakes_stay;
  wake_is_polled = due_wakes_are_polled;
  wake_is_carried = due_wakes_are_carried;
  wake_leads_to_poll = due_wakes_lead_to_polls;
  comes_to_rest = all_come_to_rest;
  run_leads_to_rest = runs_lead_to_rest;
  closed_makes_none = closed_makes_no_runnable;
  closed_leads_to_rest = closed_leads_to_rest;
  at_rest = without_work_at_rest;
}
