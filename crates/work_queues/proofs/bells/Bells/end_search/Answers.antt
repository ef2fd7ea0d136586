use Rattle.std.proofs.Common.{rules}
use Rattle.work_queues.proofs.Sleeping.{ends_search}
use Rattle.work_queues.proofs.bells.Bells.end_search.Goals as goal

pub store-requires : goal.store-requires
store-requires c = (search rules, search rules, ends_search _ _ _ _ _ _ (search rules))
