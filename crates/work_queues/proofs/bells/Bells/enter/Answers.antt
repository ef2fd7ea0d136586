use Rattle.std.proofs.Common.{rules}
use Rattle.work_queues.proofs.Sleeping.{enters}
use Rattle.work_queues.proofs.bells.Bells.enter.Goals as goal

pub load_new_seat-seat-requires : goal.load_new_seat-seat-requires
load_new_seat-seat-requires c = (search rules, enters _ _ _ _)
