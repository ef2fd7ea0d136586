use Rattle.std.proofs.Common.{rules}
use Rattle.work_queues.proofs.Sleeping.{looks_at_flag}
use Rattle.work_queues.proofs.bells.Bells.shows_none.Goals as goal

pub load-requires : goal.load-requires
load-requires c = (search rules, search rules, looks_at_flag _ _ _ _ _ _ c.loop-queue.queue (search rules) (search rules))
