use Rattle.std.proofs.Common.{rules}
use Rattle.work_queues.proofs.Sleeping.{enters_owing}
use Rattle.work_queues.proofs.bells.Bells.look_of.Goals as goal

pub load_new_seat-seat-requires : goal.load_new_seat-seat-requires
load_new_seat-seat-requires c = (search rules, enters_owing _ _ _ _)
