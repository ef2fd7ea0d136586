use Rattle.task_cell.proofs.Vocabulary.{refl, ◌∷◌, [], AnswerPending, DropFuture}
use Rattle.task_steps.proofs.Shares.{keeps_either}
use Rattle.task_cell.proofs.Vocabulary.{Polling, answers_pending}
use Rattle.task_cell.proofs.Steps.{may_make}
use Rattle.task_cell.proofs.RunGoes.{answered_pending}
use Rattle.task_cell.proofs.cell.Share.answer_pending.Goals as goal

pub load-requires-clause-allowed : goal.load-requires-clause-allowed
load-requires-clause-allowed g c = let s = c.requires.party in may_make _ c.args.party.now Polling s.0 _ _ s.1 (answers_pending _ _ _ _ _ _ _ _) (λ m f. keeps_either m.word.closed (AnswerPending ∷ DropFuture ∷ []) (AnswerPending ∷ []) m.word refl refl)

pub returns-clause-path : goal.returns-clause-path
returns-clause-path g c = λ held s. answered_pending held c.args.party.now c.load.new.party c.load.result s c.load.ensures.cell c.load.ensures.made
