use Rattle.task_cell.specs.Woken.{WokeStored}
use Rattle.task_cell.proofs.Vocabulary.{◌∙◌, sym, subst, ◌∷◌, [], OfRun, EndClosed, notifies, Stands, row, Rests}
use Rattle.task_cell.proofs.Moved.{stands}
use Rattle.task_cell.proofs.RunEnds.{closes_rest}
use Rattle.task_cell.proofs.cell.Share.finish_cleared.Goals as goal

pub finish-requires-clause-cell : goal.finish-requires-clause-cell
finish-requires-clause-cell g c = c.end_closed-found.ensures.1.cell ∙ c.requires.cell

pub finish-requires-clause-party : goal.finish-requires-clause-party
finish-requires-clause-party g c = let w = c.end_closed-found.result in
    subst (λ b. Stands (notifies b OfRun) c.end_closed-found.new.party) (sym c.awaiter.ensures) (stands c.args.party.now c.end_closed-found.new.party (row EndClosed w ∷ []) (notifies w.awaiter OfRun) [] c.end_closed-found.ensures.1)

pub returns : goal.returns
returns g c = closes_rest _ c.end_closed-found.result c.args.party.now c.end_closed-found.new.party c.finish.new.party c.end_closed-found.ensures
    (subst (λ b. Rests (WokeStored g.A.Wake.woken) b c.end_closed-found.new.party c.finish.new.party) c.awaiter.ensures c.finish.ensures)
