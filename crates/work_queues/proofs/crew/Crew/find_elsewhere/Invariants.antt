use Rattle.std.proofs.Common.{◌≡◌, []}
use Rattle.work_queues.proofs.crew.Crew.find_elsewhere.Given as goal

abbrev pub invariant-loop-queue : goal.invariant-loop-queue
invariant-loop-queue g l = (l.worker.batch.items ≡ []) × (l.looked.queues ≡ l._queue)
