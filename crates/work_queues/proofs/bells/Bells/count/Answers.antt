use Rattle.std.proofs.Common.{rules}
use mathlib.Core.Option.{none}
use Rattle.work_queues.proofs.Sleeping.{counts}
use Rattle.work_queues.proofs.bells.Bells.count.Goals as goal

pub compare_exchange-requires : goal.compare_exchange-requires
compare_exchange-requires g c = (search rules, search rules, counts _ _ _ _ _ _ _ none (search rules) (search rules))
