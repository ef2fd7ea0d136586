use Rattle.task_exports.proofs.calls.ends.record.Goals as goal

pub none-requires : goal.none-requires
none-requires c = record { there = c.requires.gone.0; last = c.requires.gone.1 }

pub invariant_of-result : goal.invariant_of-result
invariant_of-result c = record { ended = c.requires.party }
