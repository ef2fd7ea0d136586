use Rattle.task_cell.proofs.Vocabulary.{[], refl, Emptier, empties, awaiter_first, None, state_of}
use Rattle.task_cell.proofs.Steps.{may_act}
use Rattle.task_cell.proofs.RunGoes.{emptied}
use Rattle.task_cell.proofs.cell.LastShare.note_emptied.Goals as goal

pub load-requires-clause-allowed : goal.load-requires-clause-allowed
load-requires-clause-allowed g c = let s = c.requires.party in may_act _ c.args.party.now (Emptier s.0 s.1) (awaiter_first None []) _ _ s.2 (empties _ _ _ _ _ s.0 s.1 _ _ _ refl)

pub returns : goal.returns
returns g c = λ hand answer s. let e = c.load.ensures.seat in emptied hand answer None c.args.party.now (record { seat = c.load.new.seat }) (state_of c.load.result) s e.0 e.2.0
