use Rattle.std.proofs.Common.{rules}
use mathlib.Core.Option.{none}
use Rattle.work_queues.proofs.Sleeping.{rouses}
use Rattle.work_queues.proofs.bells.Bells.rouse.Goals as goal

pub compare_exchange-requires : goal.compare_exchange-requires
compare_exchange-requires c = (search rules, search rules, rouses _ _ _ _ _ _ c.args.worker none (search rules) (search rules))
