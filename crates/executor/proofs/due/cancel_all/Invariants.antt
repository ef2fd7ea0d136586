use Rattle.std.specs.VecDeque.{deque_len}
use Rattle.executor.proofs.due.cancel_all.Given as goal

abbrev pub decreases-loop-due : goal.decreases-loop-due
decreases-loop-due g l = deque_len l.dues
