use Rattle.std.proofs.Common.{subst, sym}
use Rattle.task_cell.specs.Calls.{Stands}
use Rattle.task_steps.specs.Standing.{as_runnable}
use Rattle.task_exports.proofs.calls.hold.schedule_held.Goals as goal

pub schedule-requires : goal.schedule-requires
schedule-requires g c = record { runnable = (c.in-Some.ensures.lent.0, subst (λ p. Stands as_runnable p) (sym c.in-Some.ensures.lent.1) c.requires.runnable.1) }
