use Rattle.std.proofs.Common.{◌∙◌, sym}
use Rattle.std.proofs.Common.{ap}
use Rattle.task_exports.proofs.step.make_with.Goals as goal

pub share-share-requires : goal.share-share-requires
share-share-requires g c = record { there = c.requires.handle.0 }

pub make-answer-requires-clause-cell : goal.make-answer-requires-clause-cell
make-answer-requires-clause-cell g c = let l = c.requires.handle in (l.1 ∙ sym c.share-share.ensures.0, l.2 ∙ sym (ap (λ k. k.limit) c.share-share.ensures.1))

pub returns-clause-handle : goal.returns-clause-handle
returns-clause-handle g c = let s = c.share-share.ensures in let m = c.into_maybe-share.ensures in (m.is_there, m.cell.0 ∙ s.0, m.cell.1 ∙ s.2, ap (λ k. k.limit) (m.terms ∙ s.1))
