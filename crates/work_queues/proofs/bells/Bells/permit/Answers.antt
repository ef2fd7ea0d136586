use Rattle.std.proofs.Common.{rules}
use mathlib.Core.Option.{none}
use Rattle.work_queues.proofs.Sleeping.{permits}
use Rattle.work_queues.proofs.bells.Bells.permit.Goals as goal

pub compare_exchange-found-requires : goal.compare_exchange-found-requires
compare_exchange-found-requires c = (search rules, search rules, permits _ _ _ _ _ _ c.args.worker none (search rules) (search rules))
