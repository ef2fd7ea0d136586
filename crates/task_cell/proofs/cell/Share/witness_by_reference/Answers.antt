use Rattle.task_cell.proofs.Vocabulary.{[], subst, Me, TaskPlace, View, head_of, Witness}
use Rattle.task_steps.specs.Standing.{as_lent}
use Rattle.task_steps.specs.declared.kept.Kept.{Kept}
use Rattle.task_cell.proofs.WakerMoves.{fresh_stands}
use Rattle.task_cell.proofs.cell.Share.witness_by_reference.Goals as goal

pub witness-word-requires-clause-party : goal.witness-word-requires-clause-party
witness-word-requires-clause-party g c = (as_lent, [], fresh_stands as_lent _ c.borrow-party.result.1 c.borrow-party.ensures.party)

pub returns : goal.returns
returns g c = subst (λ (m : Me (TaskPlace g.row.F.Denot (Kept g.row.F.Denot g.row.F-Output.Denot g.F.Yields) g.row.A.Denot) View). Witness m.0.limit c.witness-word.result (head_of m.0.members).at (head_of m.0.members).deeds) c.borrow-party.ensures.party c.witness-word.ensures.witness
