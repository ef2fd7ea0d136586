use Rattle.task_cell.proofs.Vocabulary.{sym, ap, ◌∙◌, subst, Stands}
use Rattle.task_exports.specs.Answers.{made, refused}
use Rattle.task_exports.specs.Hands.{IsLive}
use Rattle.task_exports.specs.declared.hand.Hand.{Hand}
use Rattle.task_steps.specs.Standing.{as_runnable, as_task}
use Rattle.task_exports.proofs.spawn.async_task_new.Goals as goal

pub returns-in-Ok : goal.returns-in-Ok
returns-in-Ok c = let f = c.fill-first.ensures in let same = f.same in let r = c.put.ensures in let t = c.put-in-Ok.ensures in let m = c.into_maybe.ensures in let n = c.into_maybe-in-Ok.ensures in
    made _ _ (r.1, subst (λ (x : Hand). IsLive x) (sym r.0) (m.is_there, f.cell.0 ∙ sym m.cell.0, f.limit.0 ∙ sym (ap (λ k. k.limit) m.terms)))
    (t.1, subst (λ (x : Hand). IsLive x) (sym t.0) (n.is_there, f.cell.1 ∙ sym (n.cell.0 ∙ same.0), f.limit.1 ∙ sym (ap (λ k. k.limit) (n.terms ∙ same.2))))
    (ap (λ (x : Hand). x.share.maybe.id) t.0 ∙ (n.cell.0 ∙ (same.0 ∙ sym (ap (λ (x : Hand). x.share.maybe.id) r.0 ∙ m.cell.0))), ap (λ (x : Hand). x.share.maybe.value) t.0 ∙ (n.cell.1 ∙ (same.1 ∙ sym (ap (λ (x : Hand). x.share.maybe.value) r.0 ∙ m.cell.1))))
    (subst (λ (x : Hand). Stands as_runnable x.party) (sym r.0) f.runnable.0) (subst (λ (x : Hand). Stands (as_task 0) x.party) (sym t.0) f.task.0)

pub returns-in-Err : goal.returns-in-Err
returns-in-Err c = refused _ _ c.requires.room.0 c.requires.room.1
