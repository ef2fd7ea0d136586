use Rattle.task_cell.proofs.Vocabulary.{◌≡◌, ℕ, List, [], ◌∷◌, ap, refl, sym, subst, ◌∙◌, false, Deed, HandedOver, WakerDropPath, after, member, never, view}
use Rattle.counted_block.specs.Blocks.{BlockId}
use Rattle.task_steps.specs.Standing.{as_ended}
use Rattle.task_cell.specs.declared.cell.Cell.{Cell}
use Rattle.task_cell.specs.Belongs.{cell_of, limit_in}
use Rattle.task_cell.specs.Wakers.{is_owned}
use Rattle.task_cell.proofs.Moved.{stands}
use Rattle.task_cell.proofs.Witnessed.{has_ended_by}
use Rattle.task_cell.proofs.waker.TaskWaker.discard.Goals as goal

pub record-requires-clause-party : goal.record-requires-clause-party
record-requires-clause-party g c = let d = c.drop_waker.ensures.path in (as_ended, stands _ _ d.0 as_ended [] d.2)

pub returns-in-Ok : goal.returns-in-Ok
returns-in-Ok g c = let share = c.in-Ok.ensures.share ∙ ap (λ z. z.share) c.into_parts-inner.ensures.inner in let d = c.drop_waker.ensures.path in
    record {
      path = subst (λ (z : (BlockId × Cell g.row.R.Denot g.row.Q.Denot g.row.M.Denot g.row.B.Denot) × g.row.X.Denot × ℕ).
          (path : List Deed) × WakerDropPath (HandedOver g.Q.Schedule.scheduled z.0 z.1 false) path × ((c.record.result.party.seat.block ≡ z.0.0) × (c.record.result.party.seat.me ≡ (view z.2 (member as_ended (after path []) ∷ []), []))))
          (λ i. (cell_of (share i), c.into_parts-inner.ensures.around i, limit_in (share i)))
          (d.0, d.1, has_ended_by _ _ c.in-Ok.party c.drop_waker.new.party c.record.result.party d.0 c.in-Ok.ensures.cell.0 c.in-Ok.ensures.cell.1 c.in-Ok.ensures.party.1 d.2 c.record.ensures);
      owned = λ _. refl;
    }

pub returns-in-Err : goal.returns-in-Err
returns-in-Err g c = record { path = tt; owned = λ owned. never (sym (ap (λ z. is_owned z.hold) (sym c.into_parts-inner.ensures.inner) ∙ c.in-Err.ensures.was_lent) ∙ owned) }
