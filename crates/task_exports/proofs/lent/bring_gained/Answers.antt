use Rattle.task_cell.proofs.Vocabulary.{subst, sym}
use Rattle.task_exports.specs.Answers.{Gains}
use Rattle.task_exports.proofs.lent.bring_gained.Goals as goal

pub returns : goal.returns
returns c x of = subst (λ k. Gains x k c.gain_by-hand.result.1) (sym c.close-brought.ensures) (c.gain_by-hand.ensures x of)
