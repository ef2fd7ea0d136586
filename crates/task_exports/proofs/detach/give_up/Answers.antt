use Rattle.std.proofs.Common.{[], ◌∷◌, refl, sym, ap, ◌∙◌, subst, not}
use Rattle.task_core.specs.declared.acts.Act.TheVariants.{DetachOrphan, EndCall, HandOver}
use Rattle.task_cell.proofs.Moved.{did_then, stands}
use Rattle.task_cell.specs.TaskPaths.{Detaches as DetachesRow}
use Rattle.task_exports.proofs.Detaching.{last_after, last_so, live_after, shared_so, unclaimed_so}
use Rattle.task_exports.specs.TaskAnswers.{detach_missed, is_orphaned}
use Rattle.task_laws.specs.declared.positions.Answer.TheVariants.{Nothing}
use Rattle.task_steps.specs.Deeds.{act, row}
use Rattle.task_steps.specs.Standing.{as_deliverer, as_ended}
use Rattle.task_steps.specs.TaskScripts.{ends_task, ends_last}
use Rattle.task_cell.specs.Belongs.{values_in}
use Rattle.task_exports.proofs.detach.give_up.Goals as goal

pub returns-in-Err-clause-path : goal.returns-in-Err-clause-path
returns-in-Err-clause-path c = detach_missed c.in-Err.ensures.missed

pub returns-in-Shared-clause-path : goal.returns-in-Shared-clause-path
returns-in-Shared-clause-path c = shared_so (values_in c.share-share.result) c.args.hand _ (subst (λ f. DetachesRow (values_in c.share-share.result) c.args.hand.party c.give_task_up_some.new.party f) c.in-Shared.is c.in-Ok.ensures.path) (c.in-Ok.ensures.share.is_there ∙ ap (λ f. not (ends_task f)) c.in-Shared.is, c.in-Ok.ensures.share.is_last ∙ ap ends_last c.in-Shared.is)

pub returns-in-Unclaimed-clause-path : goal.returns-in-Unclaimed-clause-path
returns-in-Unclaimed-clause-path c = let h = c.requires.hand in let s = c.share-share.ensures in let l = c.in-Ok.ensures.share in let x = (subst (λ f. DetachesRow (values_in c.share-share.result) c.args.hand.party c.give_task_up_some.new.party f) c.in-Unclaimed.is c.in-Ok.ensures.path) in
    unclaimed_so (values_in c.share-share.result) c.args.hand _ x (live_after c.share-share.result c.in-Ok.made.1 _ _ _ _ _ _ (h.1 ∙ sym s.0) (h.2 ∙ sym (ap (λ k. k.limit) s.1)) l (ap (λ f. not (ends_task f)) c.in-Unclaimed.is) x.4, λ i. ((l.cell.0 ∙ s.0) i, (l.cell.1 ∙ s.2) i))

pub returns-in-Last-clause-path : goal.returns-in-Last-clause-path
returns-in-Last-clause-path c = let h = c.requires.hand in let s = c.share-share.ensures in let l = c.in-Ok.ensures.share in let x = (subst (λ f. DetachesRow (values_in c.share-share.result) c.args.hand.party c.give_task_up_some.new.party f) c.in-Last.is c.in-Ok.ensures.path) in
    last_so (values_in c.share-share.result) c.args.hand _ x (last_after c.share-share.result c.in-Ok.made.1 _ _ _ _ _ _ _ (h.1 ∙ sym s.0) (h.2 ∙ sym (ap (λ k. k.limit) s.1)) l (ap (λ f. not (ends_task f)) c.in-Last.is) (ap ends_last c.in-Last.is) x.3, λ i. ((l.cell.0 ∙ s.0) i, (l.cell.1 ∙ s.2) i))

pub hand_on-hand-requires-clause-party : goal.hand_on-hand-requires-clause-party
hand_on-hand-requires-clause-party c = let x = (subst (λ f. DetachesRow (values_in c.share-share.result) c.args.hand.party c.give_task_up_some.new.party f) c.in-Orphaned.is c.in-Ok.ensures.path) in (as_deliverer, Nothing, refl, refl, stands c.args.hand.party c.give_task_up_some.new.party _ _ _ x.2)

pub returns-in-Orphaned-clause-path : goal.returns-in-Orphaned-clause-path
returns-in-Orphaned-clause-path c = let x = (subst (λ f. DetachesRow (values_in c.share-share.result) c.args.hand.party c.give_task_up_some.new.party f) c.in-Orphaned.is c.in-Ok.ensures.path) in let o = c.hand_on-hand.ensures.runnable in let t = c.share.ensures in let l = c.in-Ok.ensures.share in let s = c.share-share.ensures in
    is_orphaned x.0 c.hand_on-hand.result.1.party x.1 (did_then _ _ _ (row DetachOrphan x.0 ∷ []) (act HandOver ∷ act EndCall ∷ []) as_deliverer as_ended [] [] x.2 c.hand_on-hand.ensures.ended) (o.0, λ i. ((o.1.0 ∙ (t.0 ∙ (l.cell.0 ∙ s.0))) i, (o.1.1 ∙ (t.2 ∙ (l.cell.1 ∙ s.2))) i)) o.2

pub returns-in-Orphaned-clause-record : goal.returns-in-Orphaned-clause-record
returns-in-Orphaned-clause-record c = (c.hand_on-hand.ensures.record.0, c.hand_on-hand.ensures.record.1 ∙ (c.share.ensures.0 ∙ (c.in-Ok.ensures.share.cell.0 ∙ c.share-share.ensures.0)))
