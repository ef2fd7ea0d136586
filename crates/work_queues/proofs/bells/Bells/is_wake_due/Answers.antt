use Rattle.std.proofs.Common.{rules}
use Rattle.work_queues.proofs.Sleeping.{looks_for_sleepers, looks_for_searcher}
use Rattle.work_queues.proofs.bells.Bells.is_wake_due.Goals as goal

pub load-requires : goal.load-requires
load-requires c = (search rules, search rules, looks_for_sleepers _ _ _ _ _ _ (search rules))

pub load-requires-2 : goal.load-requires-2
load-requires-2 c = (search rules, search rules, looks_for_searcher _ _ _ _ _ _ (search rules))
