use Rattle.task_cell.proofs.Vocabulary.{subst, sym, false, [], HandedOver, position, as_ended, CancelPath, DetachPath}
use Rattle.counted_block.specs.Blocks.{BlockId}
use Rattle.task_cell.specs.declared.cell.Cell.{Cell}
use Rattle.task_cell.specs.declared.cell.Party.{Party}
use Rattle.task_steps.specs.declared.kept.Kept.{Kept}
use Rattle.task_cell.specs.Woken.{WokeStored}
use Rattle.task_cell.specs.Belongs.{cell_of}
use Rattle.task_cell.proofs.Moved.{did_then, stands}
use Rattle.async_task.specs.HandlePaths.{EndsTask}
use Rattle.async_task.proofs.HandleParties.{stands_task, stands_again}
use Rattle.async_task.proofs.task.Task.discard.Goals as goal

pub cancel-requires-clause-party : goal.cancel-requires-clause-party
cancel-requires-clause-party g c = let t = c.into_parts-inner.result.0 in stands_task t.party t.alone t.placed t.free

pub detach-requires-clause-party : goal.detach-requires-clause-party
detach-requires-clause-party g c = let t = c.into_parts-inner.result.0 in let s = stands_task t.party t.alone t.placed t.free in let e = c.cancel.ensures.path in
    (s.0, stands_again t.party c.cancel.new.party e.0 s.0 s.1 e.2)

pub record-requires-clause-party : goal.record-requires-clause-party
record-requires-clause-party g c = let d = c.detach.ensures.path in (as_ended, stands _ _ d.0 as_ended [] d.2)

pub returns : goal.returns
returns g c = let t = c.into_parts-inner.result.0 in let same = c.into_parts-inner.ensures in let closing = c.cancel.ensures.path in let path = c.detach.ensures.path in
    record {
      path = subst (λ (z : (BlockId × Cell g.row.R.Denot g.row.Q.Denot g.row.M.Denot g.row.B.Denot) × g.row.X.Denot × Party g.row.F.Denot (Kept g.row.F.Denot g.row.F-Output.Denot g.F.Yields) g.row.A.Denot × Party g.row.F.Denot (Kept g.row.F.Denot g.row.F-Output.Denot g.F.Yields) g.row.A.Denot).
          EndsTask (CancelPath (HandedOver g.Q.Schedule.scheduled z.0 z.1 false) (WokeStored g.A.Wake.woken)) (DetachPath (HandedOver g.Q.Schedule.scheduled z.0 z.1 false)) z.2 z.3)
          (λ i. (cell_of (same.inner i).share, same.around i, (same.inner i).party, sym c.record.ensures i))
          (closing.0, path.0, closing.1, path.1, did_then t.party c.cancel.new.party c.detach.new.party closing.0 path.0 (position t.party) as_ended [] [] closing.2 path.2);
    }
