use Rattle.task_cell.proofs.Vocabulary.{[], ◌∷◌, EndCall, HandOver, act, as_ended, row, not, refl, ◌∙◌, ap, sym, subst, Nothing}
use Rattle.task_core.specs.declared.acts.Act.TheVariants.{CloseOrphan, OrphanTask}
use Rattle.task_cell.specs.WakerPaths.{DropsWaker as CellDrops}
use Rattle.task_steps.specs.Standing.{as_deliverer}
use Rattle.task_steps.specs.WakerScripts.{ends_waker}
use Rattle.task_cell.proofs.Moved.{did_then, stands, limit_is}
use Rattle.task_cell.proofs.WakerCalls.{orphan_closed}
use Rattle.task_exports.specs.Answers.{shared, last_waker, orphan_waker}
use Rattle.task_exports.proofs.Live.{of_cell, of_limit, lasts_left}
use Rattle.task_exports.proofs.waker.drop_reference.Goals as goal

pub returns-in-Shared-clause-path : goal.returns-in-Shared-clause-path
returns-in-Shared-clause-path c = let x = subst (CellDrops c.args.hand.party c.drop_reference-found.new.party) c.in-Shared.is c.drop_reference-found.ensures.path in
    shared x.0 x.1 (c.drop_reference-found.ensures.share.is_there, c.drop_reference-found.ensures.share.is_last ∙ ap (λ x. not (ends_waker x)) c.in-Shared.is) x.2

pub returns-in-Last-clause-path : goal.returns-in-Last-clause-path
returns-in-Last-clause-path c = let x = subst (CellDrops c.args.hand.party c.drop_reference-found.new.party) c.in-Last.is c.drop_reference-found.ensures.path in
    last_waker x.0 x.1 x.2 x.3 (lasts_left c.args.hand.share c.drop_reference-found.result.1 c.share-share.result c.args.hand.party _ _ _ _ _ c.requires.hand c.share-share.ensures c.drop_reference-found.ensures.share (ap (λ x. not (ends_waker x)) c.in-Last.is) x.4) x.4

pub last-requires : goal.last-requires
last-requires c = record { last = (c.drop_reference-found.ensures.share.is_there, c.drop_reference-found.ensures.share.is_last ∙ ap (λ x. not (ends_waker x)) c.in-Orphaned.is) }

pub close_orphan-owned-requires-clause-cell : goal.close_orphan-owned-requires-clause-cell
close_orphan-owned-requires-clause-cell c = let x = subst (CellDrops c.args.hand.party c.drop_reference-found.new.party) c.in-Orphaned.is c.drop_reference-found.ensures.path in
    x.3.cell ∙ (of_cell c.args.hand.share c.share-share.result c.args.hand.party c.requires.hand c.share-share.ensures ∙ sym (c.last.ensures.0 ∙ c.drop_reference-found.ensures.share.cell.0))

pub close_orphan-owned-requires-clause-party : goal.close_orphan-owned-requires-clause-party
close_orphan-owned-requires-clause-party c = let x = subst (CellDrops c.args.hand.party c.drop_reference-found.new.party) c.in-Orphaned.is c.drop_reference-found.ensures.path in stands _ _ _ _ _ x.3

pub hand_on-hand-requires-clause-cell : goal.hand_on-hand-requires-clause-cell
hand_on-hand-requires-clause-cell c = let x = orphan_closed _ _ _ (subst (CellDrops c.args.hand.party c.drop_reference-found.new.party) c.in-Orphaned.is c.drop_reference-found.ensures.path) c.close_orphan-owned.ensures.path in
    let e = c.close_orphan-owned.ensures.share in let k = c.last.ensures in let l = c.drop_reference-found.ensures.share in
    (x.cell ∙ (of_cell c.args.hand.share c.share-share.result c.args.hand.party c.requires.hand c.share-share.ensures ∙ sym (e.0 ∙ k.0 ∙ l.cell.0)), limit_is _ _ _ _ _ x ∙ (of_limit c.args.hand.share c.share-share.result c.args.hand.party c.requires.hand c.share-share.ensures ∙ sym (ap (λ t. t.limit) (e.1 ∙ k.1 ∙ l.terms))))

pub hand_on-hand-requires-clause-party : goal.hand_on-hand-requires-clause-party
hand_on-hand-requires-clause-party c = let x = orphan_closed _ _ _ (subst (CellDrops c.args.hand.party c.drop_reference-found.new.party) c.in-Orphaned.is c.drop_reference-found.ensures.path) c.close_orphan-owned.ensures.path in (as_deliverer, Nothing, refl, refl, stands _ _ _ _ _ x)

pub returns-in-Orphaned-clause-path : goal.returns-in-Orphaned-clause-path
returns-in-Orphaned-clause-path c = let x = subst (CellDrops c.args.hand.party c.drop_reference-found.new.party) c.in-Orphaned.is c.drop_reference-found.ensures.path in let y = c.close_orphan-owned.ensures.path in
    orphan_waker x.0 y.0 c.hand_on-hand.result.1.party x.1 x.2 c.hand_on-hand.ensures.runnable.0 c.hand_on-hand.ensures.runnable.2
    (did_then _ _ _ (row OrphanTask x.0 ∷ row CloseOrphan y.0 ∷ []) (act HandOver ∷ act EndCall ∷ []) as_deliverer as_ended [] [] (orphan_closed _ _ _ x y) c.hand_on-hand.ensures.ended)

pub returns-in-Orphaned-clause-record : goal.returns-in-Orphaned-clause-record
returns-in-Orphaned-clause-record c = (c.hand_on-hand.ensures.record.0, c.hand_on-hand.ensures.record.1 ∙ (c.close_orphan-owned.ensures.share.0 ∙ (c.last.ensures.0 ∙ (c.drop_reference-found.ensures.share.cell.0 ∙ c.share-share.ensures.0))))
