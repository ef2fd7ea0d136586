use Rattle.task_cell.proofs.Vocabulary.{◌∙◌, ◌∷◌, [], refl, OfRun, PendingFutureDropped, EndClosed, Empty, notifies, row, ends_closed, work_first}
use Rattle.task_cell.proofs.Steps.{may_make}
use Rattle.task_cell.proofs.RunGoes.{ended_closed}
use Rattle.task_cell.proofs.Moved.{stands, did_then}
use Rattle.task_cell.proofs.cell.Share.end_closed.Goals as goal

pub fetch_and-requires-clause-cell : goal.fetch_and-requires-clause-cell
fetch_and-requires-clause-cell g c = let s = c.requires.party in (c.take.ensures PendingFutureDropped s.0 [] s.1).cell ∙ c.requires.cell

pub fetch_and-requires-clause-allowed : goal.fetch_and-requires-clause-allowed
fetch_and-requires-clause-allowed g c = let s = c.requires.party in let x = c.take.ensures PendingFutureDropped s.0 [] s.1 in
    may_make _ c.take.new.party PendingFutureDropped (work_first Empty []) _ _ (stands c.args.party.now c.take.new.party [] PendingFutureDropped (work_first Empty []) x) (ends_closed _ _ _ _ _ _ _ _ refl) (λ m f. refl)

pub returns : goal.returns
returns g c = let s = c.requires.party in let x = c.take.ensures PendingFutureDropped s.0 [] s.1 in let w = c.fetch_and.result in
    let e = ended_closed c.take.new.party c.fetch_and.new.party w (stands c.args.party.now c.take.new.party [] PendingFutureDropped (work_first Empty []) x) c.fetch_and.ensures.cell c.fetch_and.ensures.made in
    (e.0, did_then c.args.party.now c.take.new.party c.fetch_and.new.party [] (row EndClosed w ∷ []) PendingFutureDropped (notifies w.awaiter OfRun) (work_first Empty []) [] x e.1)
