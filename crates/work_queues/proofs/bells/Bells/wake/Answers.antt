use Rattle.std.proofs.Common.{rules}
use mathlib.Core.Option.{none}
use Rattle.work_queues.proofs.Sleeping.{looks_at_worker, wakes}
use Rattle.work_queues.proofs.bells.Bells.wake.Goals as goal

pub load-requires : goal.load-requires
load-requires c = (search rules, search rules, looks_at_worker _ _ _ _ _ _ c.args.worker (search rules) (search rules))

pub compare_exchange-requires : goal.compare_exchange-requires
compare_exchange-requires c = (search rules, search rules, wakes _ _ _ _ _ _ c.args.worker none (search rules) (search rules) (search rules))
