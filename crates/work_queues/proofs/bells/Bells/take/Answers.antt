use Rattle.std.proofs.Common.{rules}
use mathlib.Core.Option.{none}
use Rattle.work_queues.proofs.Sleeping.{takes}
use Rattle.work_queues.proofs.bells.Bells.take.Goals as goal

pub compare_exchange-requires : goal.compare_exchange-requires
compare_exchange-requires c = (search rules, search rules, takes _ _ _ _ _ _ none (search rules) (search rules))
