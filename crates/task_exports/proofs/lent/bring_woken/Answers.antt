use Rattle.task_cell.proofs.Vocabulary.{subst, sym}
use Rattle.task_exports.specs.Answers.{Wakes}
use Rattle.task_exports.proofs.lent.bring_woken.Goals as goal

pub returns : goal.returns
returns c x of = subst (λ k. Wakes x k c.wake_by-hand.result.1) (sym c.close-brought.ensures) (c.wake_by-hand.ensures x of)
