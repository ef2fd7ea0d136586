use Rattle.task_cell.proofs.Vocabulary.{◌∙◌, sym}
use Rattle.task_cell.proofs.RunEnds.{completes_cell, output_left, stores_kept, stores_dropped}
use Rattle.task_cell.proofs.cell.Share.store_output.Goals as goal

pub returns-then-keeps_output : goal.returns-then-keeps_output
returns-then-keeps_output g c = stores_kept c.args.party.now c.complete-found.new.party c.complete-found.result c.complete-found.ensures (sym c.keeps_output.ensures ∙ c.if-keeps_output.true)

pub drop_output-requires-clause-cell : goal.drop_output-requires-clause-cell
drop_output-requires-clause-cell g c = completes_cell c.args.party.now c.complete-found.new.party c.complete-found.result c.complete-found.ensures ∙ c.requires.cell

pub drop_output-requires-clause-party : goal.drop_output-requires-clause-party
drop_output-requires-clause-party g c = let x = output_left c.args.party.now c.complete-found.new.party c.complete-found.result c.complete-found.ensures (sym c.keeps_output.ensures ∙ c.if-keeps_output.false) in (c.complete-found.result.awaiter, x.0, x.1)

pub returns : goal.returns
returns g c = stores_dropped c.args.party.now c.complete-found.new.party c.drop_output.new.party c.complete-found.result c.complete-found.ensures (sym c.keeps_output.ensures ∙ c.if-keeps_output.false) c.drop_output.ensures
