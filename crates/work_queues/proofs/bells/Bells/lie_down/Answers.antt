use Rattle.std.proofs.Common.{rules}
use mathlib.Core.Option.{none}
use Rattle.work_queues.proofs.Sleeping.{lies_down}
use Rattle.work_queues.proofs.bells.Bells.lie_down.Goals as goal

pub compare_exchange-requires : goal.compare_exchange-requires
compare_exchange-requires g c = (search rules, search rules, lies_down _ _ _ _ _ _ c.args.claim.now.number none (search rules) (search rules) (search rules))
