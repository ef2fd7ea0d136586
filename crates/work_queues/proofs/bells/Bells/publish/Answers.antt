use Rattle.std.proofs.Common.{rules}
use Rattle.work_queues.proofs.Sleeping.{shows, hides}
use Rattle.work_queues.proofs.bells.Bells.publish.Goals as goal

pub store-requires : goal.store-requires
store-requires c = (search rules, search rules, shows _ _ _ _ _ _ c.args.flag.now.queue 0 (search rules) (search rules) (search rules))

pub store-requires-then-flag : goal.store-requires-then-flag
store-requires-then-flag c = (search rules, search rules, hides _ _ _ _ _ _ c.args.flag.now.queue 1 (search rules) (search rules) (search rules))
