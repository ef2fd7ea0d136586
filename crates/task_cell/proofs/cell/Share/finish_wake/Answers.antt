use Rattle.task_cell.proofs.Vocabulary.{[], ◌∷◌, subst, Nothing, Ended, HandOver, Did, act, handed_over}
use Rattle.task_cell.proofs.Moved.{stands, position_is}
use Rattle.task_cell.proofs.TaskMoves.{ends}
use Rattle.task_cell.proofs.cell.Share.finish_wake.Goals as goal

pub end-requires-clause-party : goal.end-requires-clause-party
end-requires-clause-party g c = (Nothing, Ended, stands _ _ _ _ _ (subst (λ at. Did (act HandOver ∷ []) (handed_over at) c.args.deliverer c.deliver_by.new.party) (position_is c.args.deliverer _ [] c.requires.deliverer) c.deliver_by.ensures.path))

pub let_go-requires : goal.let_go-requires
let_go-requires g c = stands _ _ _ _ _ (ends _ _ _ (act HandOver ∷ []) Nothing Ended (subst (λ at. Did (act HandOver ∷ []) (handed_over at) c.args.deliverer c.deliver_by.new.party) (position_is c.args.deliverer _ [] c.requires.deliverer) c.deliver_by.ensures.path) c.end.ensures)
