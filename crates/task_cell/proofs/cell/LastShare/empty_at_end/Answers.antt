use Rattle.task_cell.proofs.Vocabulary.{[], ◌∷◌, None, Nothing, Ended, EmptySlots, act}
use Rattle.task_cell.proofs.Moved.{stands}
use Rattle.task_cell.proofs.TaskMoves.{ends}
use Rattle.task_cell.proofs.cell.LastShare.empty_at_end.Goals as goal

pub empty-ledger-requires-clause-party : goal.empty-ledger-requires-clause-party
empty-ledger-requires-clause-party g c = let s = c.requires.party in (None, Nothing, s.0, s.1)

pub end-requires-clause-party : goal.end-requires-clause-party
end-requires-clause-party g c = let s = c.requires.party in (Nothing, Ended, stands _ _ _ _ _ (c.empty-ledger.ensures.path None Nothing s.0 s.1))

pub returns : goal.returns
returns g c = let s = c.requires.party in ends _ _ _ (act EmptySlots ∷ []) Nothing Ended (c.empty-ledger.ensures.path None Nothing s.0 s.1) c.end.ensures
