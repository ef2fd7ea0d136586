use Rattle.task_cell.proofs.Vocabulary.{ap, ◌∙◌, subst, false, HandedOver}
use Rattle.counted_block.specs.Blocks.{BlockId}
use Rattle.task_cell.specs.declared.cell.Cell.{Cell}
use Rattle.task_cell.specs.Belongs.{cell_of}
use Rattle.task_cell.proofs.runnable.Runnable.schedule.Goals as goal

pub returns : goal.returns
returns g c = let share = c.into_party-share.ensures.share ∙ ap (λ z. z.share) c.into_parts-inner.ensures.inner in
    record {
      fact = subst (λ (z : (BlockId × Cell g.row.R.Denot g.row.Q.Denot g.row.M.Denot g.row.B.Denot) × g.row.X.Denot). HandedOver g.Q.Schedule.scheduled z.0 z.1 false)
          (λ i. (cell_of (share i), c.into_parts-inner.ensures.around i)) c.schedule.ensures.fact;
    }
