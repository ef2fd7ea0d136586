use Rattle.std.proofs.Common.{ap, sym, ◌∙◌, subst}
use Rattle.task_cell.specs.Calls.{Stands}
use Rattle.task_exports.proofs.Crossing.{live_of}
use Rattle.task_exports.specs.TaskAnswers.{Cancels, HasRunnable, schedules}
use Rattle.task_steps.specs.Standing.{as_task}
use Rattle.task_exports.proofs.cancel.async_task_cancel.Goals as goal

pub share-share-requires : goal.share-share-requires
share-share-requires c = record { there = (live_of _ _ c.take-share.ensures.0 c.requires.handle.1).0 }

pub close-answer-requires-clause-cell : goal.close-answer-requires-clause-cell
close-answer-requires-clause-cell c = let l = live_of _ _ c.take-share.ensures.0 c.requires.handle.1 in (l.1 ∙ sym c.share-share.ensures.0, l.2 ∙ sym (ap (λ k. k.limit) c.share-share.ensures.1))

pub close-answer-requires-clause-party : goal.close-answer-requires-clause-party
close-answer-requires-clause-party c = let s = c.requires.party in (s.0, subst (λ x. Stands (as_task s.0) x.party) (sym c.take-share.ensures.0) s.1)

pub returns-clause-handle : goal.returns-clause-handle
returns-clause-handle c = let p = c.put.ensures.0 in let e = c.take-share.ensures.0 in let s = c.share-share.ensures in let m = c.into_maybe-share.ensures in (
  c.put.ensures.1,
  ap (λ x. x.share.maybe.there) p ∙ m.is_there,
  ap (λ x. x.share.maybe.id) p ∙ (m.cell.0 ∙ (s.0 ∙ ap (λ x. x.share.maybe.id) e)),
  ap (λ x. x.share.maybe.value) p ∙ (m.cell.1 ∙ (s.2 ∙ ap (λ x. x.share.maybe.value) e)),
  ap (λ k. k.limit) (ap (λ x. x.share.maybe.key) p ∙ (m.terms ∙ (s.1 ∙ ap (λ x. x.share.maybe.key) e))),
)

pub returns-clause-path : goal.returns-clause-path
returns-clause-path c = λ n s. let e = c.take-share.ensures.0 in
    subst (λ x. Cancels n x.party c.put.new.h.hand.party c.close-answer.result) e
    (subst (λ y. Cancels n c.take-share.result.party y.party c.close-answer.result) (sym c.put.ensures.0) (c.close-answer.ensures.path n (subst (λ x. Stands (as_task n) x.party) (sym e) s)))

pub returns-clause-runnable : goal.returns-clause-runnable
returns-clause-runnable c = let e = c.take-share.ensures.0 in let s = c.share-share.ensures in
    subst (λ cell. HasRunnable (schedules c.close-answer.result) cell c.close-answer.new.out) (λ i. ((s.0 ∙ ap (λ x. x.share.maybe.id) e) i, (s.2 ∙ ap (λ x. x.share.maybe.value) e) i)) c.close-answer.ensures.runnable
