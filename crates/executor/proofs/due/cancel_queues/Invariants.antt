use Rattle.work_queues.specs.Closing.{queues_left}
use Rattle.executor.proofs.due.cancel_queues.Given as goal

abbrev pub decreases-loop-dues : goal.decreases-loop-dues
decreases-loop-dues g l = queues_left l.queues
