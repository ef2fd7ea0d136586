use Rattle.std.proofs.Common.{rules}
use mathlib.Core.Option.{none}
use Rattle.work_queues.proofs.Sleeping.{begins_search}
use Rattle.work_queues.proofs.bells.Bells.begin_search.Goals as goal

pub compare_exchange-requires : goal.compare_exchange-requires
compare_exchange-requires c = (search rules, search rules, begins_search _ _ _ _ _ _ none (search rules))
