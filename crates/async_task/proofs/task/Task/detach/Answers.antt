use Rattle.task_cell.proofs.Vocabulary.{subst, sym, false, [], List, Deed, Did, HandedOver, as_ended, DetachPath}
use Rattle.counted_block.specs.Blocks.{BlockId}
use Rattle.task_cell.specs.declared.cell.Cell.{Cell}
use Rattle.task_cell.specs.declared.cell.Party.{Party}
use Rattle.task_steps.specs.declared.kept.Kept.{Kept}
use Rattle.task_cell.specs.Belongs.{cell_of}
use Rattle.task_cell.proofs.Moved.{stands}
use Rattle.async_task.proofs.HandleParties.{stands_task}
use Rattle.async_task.proofs.task.Task.detach.Goals as goal

pub detach-requires-clause-party : goal.detach-requires-clause-party
detach-requires-clause-party g c = let t = c.into_parts-inner.result.0 in stands_task t.party t.alone t.placed t.free

pub record-requires-clause-party : goal.record-requires-clause-party
record-requires-clause-party g c = let d = c.detach.ensures.path in (as_ended, stands _ _ d.0 as_ended [] d.2)

pub returns : goal.returns
returns g c = let same = c.into_parts-inner.ensures in
    record {
      path = subst (λ (z : (BlockId × Cell g.row.R.Denot g.row.Q.Denot g.row.M.Denot g.row.B.Denot) × g.row.X.Denot × Party g.row.F.Denot (Kept g.row.F.Denot g.row.F-Output.Denot g.F.Yields) g.row.A.Denot × Party g.row.F.Denot (Kept g.row.F.Denot g.row.F-Output.Denot g.F.Yields) g.row.A.Denot).
          (path : List Deed) × DetachPath (HandedOver g.Q.Schedule.scheduled z.0 z.1 false) path × Did path as_ended z.2 z.3)
          (λ i. (cell_of (same.inner i).share, same.around i, (same.inner i).party, sym c.record.ensures i)) c.detach.ensures.path;
    }
