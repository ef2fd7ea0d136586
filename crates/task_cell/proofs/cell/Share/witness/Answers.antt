use Rattle.task_cell.proofs.Vocabulary.{ap, [], member, may_witness}
use Rattle.task_cell.proofs.cell.Share.witness.Goals as goal

pub load-requires-clause-allowed : goal.load-requires-clause-allowed
load-requires-clause-allowed g c = let s = c.requires.party in may_witness _ _ _ _ _ _ _ (member s.0 _) [] (ap (λ m. m.0.members) s.2)

pub returns-clause-same : goal.returns-clause-same
returns-clause-same g c = λ i. record { seat = record { marker = c.args.party.now.seat.marker; block = c.load.ensures.seat.0 i; id = c.load.ensures.seat.1 i; me = c.load.ensures.seat.2.0 i } }
