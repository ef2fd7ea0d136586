use Rattle.task_cell.proofs.Vocabulary.{ap, ◌∙◌, subst, false}
use Rattle.task_cell.specs.declared.cell.Cell.{Cell}
use Rattle.task_cell.specs.Belongs.{cell_of}
use Rattle.task_cell.proofs.cell.Share.deliver_by.Goals as goal

pub returns-clause-fact : goal.returns-clause-fact
returns-clause-fact g c = (
  c.new-runnable.result,
  ap cell_of c.new-runnable.ensures.cell ∙ c.requires.share,
  c.new-runnable.ensures.around,
  subst (λ (z : Cell g.row.R.Denot g.row.Q.Denot g.row.M.Denot g.row.B.Denot). g.Q.Schedule.scheduled z.schedule c.new-runnable.result (record { woken_while_running = false })) c.cell.ensures c.schedule.ensures,
)
