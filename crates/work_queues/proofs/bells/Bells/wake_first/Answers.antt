use Rattle.std.proofs.Common.{rules, inr}
use Rattle.work_queues.proofs.Sleeping.{settles}
use Rattle.work_queues.proofs.bells.Bells.wake_first.Goals as goal

pub load-requires : goal.load-requires
load-requires c = (search rules, search rules, settles _ _ _ _ _ _ (inr (search rules)))
