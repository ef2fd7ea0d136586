use Rattle.task_cell.specs.Woken.{WokeStored}
use Rattle.task_cell.proofs.Vocabulary.{[], sym, ap, ◌∙◌, subst, List, Deed, Did, HandedOver, PolledOnce, RunPath, as_ended}
use Rattle.counted_block.specs.Blocks.{BlockId}
use Rattle.task_cell.specs.declared.cell.Cell.{Cell}
use Rattle.task_cell.specs.Belongs.{cell_of, spawned_in}
use Rattle.task_cell.proofs.Moved.{stands}
use Rattle.task_cell.proofs.runnable.Runnable.run.Goals as goal

pub record-requires-clause-party : goal.record-requires-clause-party
record-requires-clause-party g c = let p = c.run-ended.ensures.path in (as_ended, stands _ _ p.0 as_ended [] p.2)

pub returns : goal.returns
returns g c = let share = c.into_party-share.ensures.share ∙ ap (λ z. z.share) c.into_parts-inner.ensures.inner in let mine = c.into_party-share.ensures.is ∙ ap (λ z. z.party) c.into_parts-inner.ensures.inner in let p = c.run-ended.ensures.path in
    record {
      path = subst (λ (z : g.row.F.Denot × (BlockId × Cell g.row.R.Denot g.row.Q.Denot g.row.M.Denot g.row.B.Denot) × g.row.X.Denot). (path : List Deed) × RunPath (PolledOnce g.F.Future.polled z.0 z.1 z.2) (WokeStored g.A.Wake.woken) (HandedOver g.Q.Schedule.scheduled z.1 z.2) c.run-ended.result.1 path × Did path as_ended c.args.self.inner.party c.record.result.party)
          (λ i. (spawned_in (share i), cell_of (share i), c.into_parts-inner.ensures.around i))
          (p.0, p.1, subst (λ x. Did p.0 as_ended x c.record.result.party) mine (subst (λ x. Did p.0 as_ended c.into_party-share.result.1 x) (sym c.record.ensures) p.2));
    }
