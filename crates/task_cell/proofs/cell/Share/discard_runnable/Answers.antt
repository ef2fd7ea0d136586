use Rattle.task_cell.proofs.Vocabulary.{sym, ◌∙◌, [], None, OfDrop, Nothing, Ended, DroppedRunnable}
use Rattle.task_cell.proofs.Moved.{stands}
use Rattle.task_cell.proofs.RunRest.{drop_clears, drop_closes, drop_notifies, drop_takes_cell, drop_has, drop_wakes, drop_gives_up, drop_leaves, drop_ends}
use Rattle.task_cell.specs.Belongs.{values_in}
use Rattle.task_cell.proofs.cell.Share.discard_runnable.Goals as goal

pub take-requires-clause-party : goal.take-requires-clause-party
take-requires-clause-party g c = let f = c.discard_start.ensures in (_, f.1, [], stands _ _ _ _ _ f.3)

pub unschedule-found-requires-clause-cell : goal.unschedule-found-requires-clause-cell
unschedule-found-requires-clause-cell g c = (drop_clears (values_in c.args.self) _ _ _ c.discard_start.ensures c.take.ensures).cell ∙ (c.discard_start.ensures.3.cell ∙ c.requires.cell)

pub unschedule-found-requires-clause-party : goal.unschedule-found-requires-clause-party
unschedule-found-requires-clause-party g c = (DroppedRunnable, stands _ _ _ _ _ (drop_clears (values_in c.args.self) _ _ _ c.discard_start.ensures c.take.ensures))

pub take_due-awaiter-requires-clause-cell : goal.take_due-awaiter-requires-clause-cell
take_due-awaiter-requires-clause-cell g c = (drop_closes (values_in c.args.self) _ _ _ c.discard_start.ensures c.take.ensures _ _ c.unschedule-found.ensures _ c.awaiter.ensures).cell ∙ c.requires.cell

pub take_due-awaiter-requires-clause-party : goal.take_due-awaiter-requires-clause-party
take_due-awaiter-requires-clause-party g c = (OfDrop, drop_notifies (values_in c.args.self) _ _ _ c.discard_start.ensures c.take.ensures _ _ c.unschedule-found.ensures _ c.awaiter.ensures)

pub wake_taken-requires-clause-cell : goal.wake_taken-requires-clause-cell
wake_taken-requires-clause-cell g c = drop_takes_cell (values_in c.args.self) _ _ _ c.discard_start.ensures c.take.ensures _ _ c.unschedule-found.ensures _ c.awaiter.ensures _ _ c.take_due-awaiter.ensures ∙ (c.requires.cell ∙ sym c.ledger.ensures)

pub wake_taken-requires-clause-party : goal.wake_taken-requires-clause-party
wake_taken-requires-clause-party g c = (OfDrop, drop_has (values_in c.args.self) _ _ _ c.discard_start.ensures c.take.ensures _ _ c.unschedule-found.ensures _ c.awaiter.ensures _ _ c.take_due-awaiter.ensures)

pub release-ledger-requires-clause-cell : goal.release-ledger-requires-clause-cell
release-ledger-requires-clause-cell g c = let k = drop_wakes (values_in c.args.self) _ _ _ c.discard_start.ensures c.take.ensures _ _ c.unschedule-found.ensures _ c.awaiter.ensures _ _ c.take_due-awaiter.ensures _ _ c.wake_taken.ensures in
    k.2.cell ∙ (drop_takes_cell (values_in c.args.self) _ _ _ c.discard_start.ensures c.take.ensures _ _ c.unschedule-found.ensures _ c.awaiter.ensures _ _ c.take_due-awaiter.ensures ∙ c.requires.cell)

pub release-ledger-requires-clause-party : goal.release-ledger-requires-clause-party
release-ledger-requires-clause-party g c = (None, Nothing, drop_gives_up (values_in c.args.self) _ _ _ c.discard_start.ensures c.take.ensures _ _ c.unschedule-found.ensures _ c.awaiter.ensures _ _ c.take_due-awaiter.ensures _ _ c.wake_taken.ensures)

pub end-requires-clause-party : goal.end-requires-clause-party
end-requires-clause-party g c = (Nothing, Ended, drop_leaves (values_in c.args.self) _ _ _ c.discard_start.ensures c.take.ensures _ _ c.unschedule-found.ensures _ c.awaiter.ensures _ _ c.take_due-awaiter.ensures _ _ c.wake_taken.ensures _ c.release-ledger.ensures.path)

pub returns : goal.returns
returns g c = drop_ends (values_in c.args.self) _ _ _ c.discard_start.ensures c.take.ensures _ _ c.unschedule-found.ensures _ c.awaiter.ensures _ _ c.take_due-awaiter.ensures _ _ c.wake_taken.ensures _ c.release-ledger.ensures.path _ c.end.ensures
