use Rattle.task_cell.proofs.Vocabulary.{ap, [], member, may_note_witness}
use Rattle.task_cell.proofs.share.Ledger.record.Goals as goal

pub note-requires-clause-allowed : goal.note-requires-clause-allowed
note-requires-clause-allowed g c = let s = c.requires.party in may_note_witness _ _ _ _ _ _ _ (member s.0 _) [] (ap (λ m. m.0.members) s.1)

pub returns : goal.returns
returns g c = λ i. record { seat = record { marker = c.args.party.seat.marker; block = c.note.ensures.0 i; id = c.note.ensures.1 i; me = c.note.ensures.2.1.0 i } }
