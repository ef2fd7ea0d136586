use Rattle.task_cell.proofs.Vocabulary.{subst, Me, TaskPlace, View, head_of, Witness}
use Rattle.task_steps.specs.declared.kept.Kept.{Kept}
use Rattle.task_cell.proofs.runnable.Runnable.witness.Goals as goal

pub returns-clause-witness : goal.returns-clause-witness
returns-clause-witness g c = subst (λ (m : Me (TaskPlace g.row.F.Denot (Kept g.row.F.Denot g.row.F-Output.Denot g.F.Yields) g.row.A.Denot) View). Witness m.0.limit c.witness.result (head_of m.0.members).at (head_of m.0.members).deeds)
    c.args.self.now.inner.placed c.witness.ensures.witness
