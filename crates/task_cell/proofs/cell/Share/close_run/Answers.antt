use Rattle.task_cell.specs.Woken.{WokeStored}
use Rattle.task_cell.proofs.Vocabulary.{◌∙◌, sym, subst, ◌∷◌, [], OfRun, ClosedRun, FutureGone, Unschedule, notifies, Empty, Stands, row, Rests, work_first}
use Rattle.task_cell.proofs.Moved.{stands}
use Rattle.task_cell.proofs.RunRest.{unscheduled, close_rest}
use Rattle.task_cell.proofs.cell.Share.close_run.Goals as goal

pub unschedule-found-requires-clause-cell : goal.unschedule-found-requires-clause-cell
unschedule-found-requires-clause-cell g c = let s = c.requires.party in let x = c.take.ensures (FutureGone ClosedRun) s.0 [] s.1 in x.cell ∙ c.requires.cell

pub unschedule-found-requires-clause-party : goal.unschedule-found-requires-clause-party
unschedule-found-requires-clause-party g c = let s = c.requires.party in let x = c.take.ensures (FutureGone ClosedRun) s.0 [] s.1 in (ClosedRun, stands c.args.party.now c.take.new.party [] (FutureGone ClosedRun) (work_first Empty []) x)

pub finish-requires-clause-cell : goal.finish-requires-clause-cell
finish-requires-clause-cell g c = let s = c.requires.party in let x = c.take.ensures (FutureGone ClosedRun) s.0 [] s.1 in let w = c.unschedule-found.result in
    let h = unscheduled ClosedRun w (work_first Empty []) c.args.party.now c.take.new.party c.unschedule-found.new.party x c.unschedule-found.ensures in h.cell ∙ c.requires.cell

pub finish-requires-clause-party : goal.finish-requires-clause-party
finish-requires-clause-party g c = let s = c.requires.party in let x = c.take.ensures (FutureGone ClosedRun) s.0 [] s.1 in let w = c.unschedule-found.result in
    let h = unscheduled ClosedRun w (work_first Empty []) c.args.party.now c.take.new.party c.unschedule-found.new.party x c.unschedule-found.ensures in subst (λ b. Stands (notifies b OfRun) c.unschedule-found.new.party) (sym c.awaiter.ensures) (stands c.args.party.now c.unschedule-found.new.party (row Unschedule w ∷ []) (notifies w.awaiter OfRun) [] h)

pub returns : goal.returns
returns g c = let s = c.requires.party in let x = c.take.ensures (FutureGone ClosedRun) s.0 [] s.1 in let w = c.unschedule-found.result in
    let h = unscheduled ClosedRun w (work_first Empty []) c.args.party.now c.take.new.party c.unschedule-found.new.party x c.unschedule-found.ensures in close_rest _ w c.args.party.now c.unschedule-found.new.party c.finish.new.party h (subst (λ b. Rests (WokeStored g.A.Wake.woken) b c.unschedule-found.new.party c.finish.new.party) c.awaiter.ensures c.finish.ensures)
