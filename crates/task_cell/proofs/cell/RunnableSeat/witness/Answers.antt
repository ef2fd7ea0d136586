use Rattle.task_cell.proofs.Vocabulary.{[], as_runnable}
use Rattle.task_cell.proofs.WakerMoves.{fresh_stands}
use Rattle.task_cell.proofs.cell.RunnableSeat.witness.Goals as goal

pub witness-requires-clause-party : goal.witness-requires-clause-party
witness-requires-clause-party g c = let s = c.args.self.now in (as_runnable, [], fresh_stands as_runnable _ s.party s.placed)
