use Rattle.std.proofs.Common.{length}
use Rattle.test_executors.proofs.slot_tests.Slots.drop.Given as goal

abbrev pub decreases-loop-parked : goal.decreases-loop-parked
decreases-loop-parked g l = length l.list.items
