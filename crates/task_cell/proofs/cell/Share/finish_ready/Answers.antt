use Rattle.task_cell.specs.Woken.{WokeStored}
use Rattle.task_cell.proofs.Vocabulary.{◌∙◌, sym, subst, [], OfRun, ReadyFutureDropped, notifies, Empty, Stands, Rests, work_first}
use Rattle.task_cell.proofs.Moved.{stands}
use Rattle.task_cell.proofs.RunEnds.{ready_rest}
use Rattle.task_cell.proofs.cell.Share.finish_ready.Goals as goal

pub take-requires-clause-party : goal.take-requires-clause-party
take-requires-clause-party g c = let s = c.requires.party in (ReadyFutureDropped, s.0, [], s.1)

pub store_output-found-requires-clause-cell : goal.store_output-found-requires-clause-cell
store_output-found-requires-clause-cell g c = let s = c.requires.party in let x = c.take.ensures ReadyFutureDropped s.0 [] s.1 in x.cell ∙ c.requires.cell

pub store_output-found-requires-clause-party : goal.store_output-found-requires-clause-party
store_output-found-requires-clause-party g c = let s = c.requires.party in let x = c.take.ensures ReadyFutureDropped s.0 [] s.1 in stands c.args.party.now c.take.new.party [] ReadyFutureDropped (work_first Empty []) x

pub finish-requires-clause-cell : goal.finish-requires-clause-cell
finish-requires-clause-cell g c = let s = c.requires.party in let x = c.take.ensures ReadyFutureDropped s.0 [] s.1 in let h = c.store_output-found.ensures in
    h.2.cell ∙ (x.cell ∙ c.requires.cell)

pub finish-requires-clause-party : goal.finish-requires-clause-party
finish-requires-clause-party g c = let s = c.requires.party in let x = c.take.ensures ReadyFutureDropped s.0 [] s.1 in let w = c.store_output-found.result in let h = c.store_output-found.ensures in
    subst (λ b. Stands (notifies b OfRun) c.store_output-found.new.party) (sym c.awaiter.ensures) (stands c.take.new.party c.store_output-found.new.party h.0 (notifies w.awaiter OfRun) [] h.2)

pub returns : goal.returns
returns g c = let s = c.requires.party in let x = c.take.ensures ReadyFutureDropped s.0 [] s.1 in let w = c.store_output-found.result in let h = c.store_output-found.ensures in
    λ p y f. ready_rest _ w (work_first y []) (work_first Empty []) p c.args.party.now c.take.new.party c.store_output-found.new.party c.finish.new.party f x h (subst (λ b. Rests (WokeStored g.A.Wake.woken) b c.store_output-found.new.party c.finish.new.party) c.awaiter.ensures c.finish.ensures)
