use Rattle.std.proofs.Common.{rules}
use Rattle.work_queues.proofs.Sleeping.{gets_up, counts_not}
use Rattle.work_queues.proofs.bells.Bells.rise.Goals as goal

pub swap-requires : goal.swap-requires
swap-requires c = (search rules, search rules, gets_up _ _ _ _ _ _ c.args.worker (search rules) (search rules) (search rules))

pub fetch_sub-requires : goal.fetch_sub-requires
fetch_sub-requires c = (search rules, search rules, counts_not _ _ _ _ _ _ (search rules) (search rules))
