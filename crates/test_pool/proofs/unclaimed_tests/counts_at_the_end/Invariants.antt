use Rattle.work_queues.specs.Closing.{queues_left}
use Rattle.test_pool.proofs.unclaimed_tests.counts_at_the_end.Given as goal

abbrev pub decreases-loop-items : goal.decreases-loop-items
decreases-loop-items l = queues_left l.queues
