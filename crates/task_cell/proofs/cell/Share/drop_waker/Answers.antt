use Rattle.task_cell.proofs.Vocabulary.{false, not, ◌∙◌, ap, sym, subst, Nothing, DropsWaker, HandedOver}
use Rattle.task_steps.specs.WakerScripts.{ends_waker}
use Rattle.task_cell.proofs.Moved.{stands, limit_is}
use Rattle.task_cell.proofs.Sharing.{same_cell}
use Rattle.task_cell.proofs.WakerCalls.{drops_shared, drops_last, orphan_closed, drops_orphaned}
use Rattle.task_cell.proofs.cell.Share.drop_waker.Goals as goal

pub none-requires : goal.none-requires
none-requires g c = record { there = c.drop_reference-found.ensures.share.is_there; last = c.drop_reference-found.ensures.share.is_last ∙ ap (λ x. not (ends_waker x)) c.in-Shared.is }

pub returns-in-Shared : goal.returns-in-Shared
returns-in-Shared g c = record { path = drops_shared _ c.args.party.now c.drop_reference-found.new.party (subst (DropsWaker c.args.party.now c.drop_reference-found.new.party) c.in-Shared.is c.drop_reference-found.ensures.path) }

pub last-requires : goal.last-requires
last-requires g c = record { last = (c.drop_reference-found.ensures.share.is_there, c.drop_reference-found.ensures.share.is_last ∙ ap (λ x. not (ends_waker x)) c.in-Last.is) }

pub empty_at_end-requires-clause-cell : goal.empty_at_end-requires-clause-cell
empty_at_end-requires-clause-cell g c = let x = subst (DropsWaker c.args.party.now c.drop_reference-found.new.party) c.in-Last.is c.drop_reference-found.ensures.path in x.4.cell ∙ (c.requires.cell.0 ∙ sym (c.last.ensures.0 ∙ c.drop_reference-found.ensures.share.cell.0))

pub empty_at_end-requires-clause-party : goal.empty_at_end-requires-clause-party
empty_at_end-requires-clause-party g c = let x = subst (DropsWaker c.args.party.now c.drop_reference-found.new.party) c.in-Last.is c.drop_reference-found.ensures.path in (x.1, stands _ _ _ _ _ x.4)

pub returns-in-Last : goal.returns-in-Last
returns-in-Last g c = record { path = drops_last _ c.args.party.now c.drop_reference-found.new.party c.empty_at_end.new.party (subst (DropsWaker c.args.party.now c.drop_reference-found.new.party) c.in-Last.is c.drop_reference-found.ensures.path) c.empty_at_end.ensures }

pub last-requires-in-Orphaned : goal.last-requires-in-Orphaned
last-requires-in-Orphaned g c = record { last = (c.drop_reference-found.ensures.share.is_there, c.drop_reference-found.ensures.share.is_last ∙ ap (λ x. not (ends_waker x)) c.in-Orphaned.is) }

pub close_orphan-share-requires-clause-cell : goal.close_orphan-share-requires-clause-cell
close_orphan-share-requires-clause-cell g c = let x = subst (DropsWaker c.args.party.now c.drop_reference-found.new.party) c.in-Orphaned.is c.drop_reference-found.ensures.path in x.3.cell ∙ (c.requires.cell.0 ∙ sym (c.last-in-Orphaned.ensures.0 ∙ c.drop_reference-found.ensures.share.cell.0))

pub close_orphan-share-requires-clause-party : goal.close_orphan-share-requires-clause-party
close_orphan-share-requires-clause-party g c = let x = subst (DropsWaker c.args.party.now c.drop_reference-found.new.party) c.in-Orphaned.is c.drop_reference-found.ensures.path in stands _ _ _ _ _ x.3

pub hand_on-requires-clause-cell : goal.hand_on-requires-clause-cell
hand_on-requires-clause-cell g c = let x = orphan_closed _ _ _ (subst (DropsWaker c.args.party.now c.drop_reference-found.new.party) c.in-Orphaned.is c.drop_reference-found.ensures.path) c.close_orphan-share.ensures.path in
    let e = c.close_orphan-share.ensures.share in let k = c.last-in-Orphaned.ensures in let l = c.drop_reference-found.ensures.share in
    (x.cell ∙ (c.requires.cell.0 ∙ sym (e.0 ∙ k.0 ∙ l.cell.0)), limit_is _ _ _ _ _ x ∙ (c.requires.cell.1 ∙ sym (ap (λ t. t.limit) (e.1 ∙ k.1 ∙ l.terms))))

pub hand_on-requires-clause-party : goal.hand_on-requires-clause-party
hand_on-requires-clause-party g c = let x = orphan_closed _ _ _ (subst (DropsWaker c.args.party.now c.drop_reference-found.new.party) c.in-Orphaned.is c.drop_reference-found.ensures.path) c.close_orphan-share.ensures.path in (Nothing, stands _ _ _ _ _ x)

pub returns-in-Orphaned : goal.returns-in-Orphaned
returns-in-Orphaned g c = let d = subst (DropsWaker c.args.party.now c.drop_reference-found.new.party) c.in-Orphaned.is c.drop_reference-found.ensures.path in let x = orphan_closed _ _ _ d c.close_orphan-share.ensures.path in
    let e = c.close_orphan-share.ensures.share in let k = c.last-in-Orphaned.ensures in
    record {
      path = drops_orphaned _ c.args.party.now c.drop_reference-found.new.party c.close_orphan-share.new.party c.hand_on.new.party d c.close_orphan-share.ensures.path
          (subst (λ z. HandedOver g.Q.Schedule.scheduled z c.args.around false) (same_cell c.args.self c.close_orphan-share.result c.drop_reference-found.result.1 _ c.drop_reference-found.ensures.share (e.0 ∙ k.0, e.1 ∙ k.1, e.2 ∙ k.2)) c.hand_on.ensures.fact)
          (c.hand_on.ensures.path Nothing (stands _ _ _ _ _ x));
    }
