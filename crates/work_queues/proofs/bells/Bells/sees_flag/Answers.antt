use Rattle.std.proofs.Common.{rules, inl}
use Rattle.work_queues.proofs.Sleeping.{looks_at_flag, settles}
use Rattle.work_queues.proofs.bells.Bells.sees_flag.Goals as goal

pub load-requires : goal.load-requires
load-requires c = (search rules, search rules, looks_at_flag _ _ _ _ _ _ c.loop-flag.flag (search rules) (search rules))

pub load-requires-2 : goal.load-requires-2
load-requires-2 c = (search rules, search rules, settles _ _ _ _ _ _ (inl (search rules)))
