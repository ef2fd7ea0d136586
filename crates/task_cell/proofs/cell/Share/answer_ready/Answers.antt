use Rattle.std.proofs.Common.{refl}
use Rattle.task_cell.proofs.Vocabulary.{Polling, answers_ready}
use Rattle.task_cell.proofs.Steps.{may_make}
use Rattle.task_cell.proofs.RunGoes.{answered_ready}
use Rattle.task_cell.proofs.cell.Share.answer_ready.Goals as goal

pub load-requires-clause-allowed : goal.load-requires-clause-allowed
load-requires-clause-allowed g c = let s = c.requires.party in may_make _ c.args.party.now (Polling) s.0 _ _ s.1 (answers_ready _ _ _ _ _ _ _ _) (λ m f. refl)

pub returns : goal.returns
returns g c = λ held s. answered_ready held c.args.party.now c.load.new.party c.load.result s c.load.ensures.cell c.load.ensures.made
