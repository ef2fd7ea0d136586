use Rattle.std.proofs.Common.{rules}
use Rattle.work_queues.proofs.Sleeping.{looks_whether_due, hears}
use Rattle.work_queues.proofs.bells.Bells.hear.Goals as goal

pub load-requires : goal.load-requires
load-requires c = (search rules, search rules, looks_whether_due _ _ _ _ _ _)

pub store-requires : goal.store-requires
store-requires c = (search rules, search rules, hears _ _ _ _ _ _ (search rules))
