use Rattle.std.proofs.Common.{rules}
use Rattle.work_queues.proofs.Sleeping.{gives_back}
use Rattle.work_queues.proofs.bells.Bells.give_back.Goals as goal

pub store-requires : goal.store-requires
store-requires c = (search rules, search rules, gives_back _ _ _ _ _ _ c.args.claim.number 0 (search rules) (search rules) (search rules))
