use Rattle.task_cell.proofs.Vocabulary.{[], ◌∷◌, subst, Nothing, Ended, HandOver, Did, act, handed_over}
use Rattle.task_cell.proofs.Moved.{stands, position_is}
use Rattle.task_cell.proofs.cell.Share.schedule.Goals as goal

pub end-requires-clause-party : goal.end-requires-clause-party
end-requires-clause-party g c = let s = c.requires.party in (Nothing, Ended, stands _ _ _ _ _ (subst (λ at. Did (act HandOver ∷ []) (handed_over at) c.args.party.now c.deliver-ledger.new.party) (position_is c.args.party.now _ [] s) c.deliver-ledger.ensures.path))
