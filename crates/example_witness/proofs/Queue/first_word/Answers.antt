use Rattle.example_witness.proofs.Alone.{sole}
use Rattle.example_witness.proofs.Queue.first_word.Goals as goal

pub returns : goal.returns
returns g c = record { sole = (_, sole _ _ c.witness.ensures.witness) }
