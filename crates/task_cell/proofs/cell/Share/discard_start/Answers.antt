use Rattle.task_cell.proofs.Vocabulary.{refl, ◌∷◌, DiscardClosed, DiscardOpen, DropFuture}
use Rattle.task_steps.proofs.Shares.{keeps_either}
use Rattle.task_cell.proofs.Vocabulary.{[], At, Runnable, discards}
use Rattle.task_cell.proofs.Steps.{may_make}
use Rattle.task_cell.proofs.RunGoes.{discarded}
use Rattle.task_cell.proofs.cell.Share.discard_start.Goals as goal

pub fetch_or-requires-clause-allowed : goal.fetch_or-requires-clause-allowed
fetch_or-requires-clause-allowed g c = may_make _ c.args.party.now (At Runnable) [] _ _ c.requires.party (discards _ _ _ _ _ _ _ _) (λ m f. keeps_either m.word.closed (DiscardClosed ∷ DropFuture ∷ []) (DiscardOpen ∷ DropFuture ∷ []) m.word refl refl)

pub returns : goal.returns
returns g c = discarded c.args.party.now c.fetch_or.new.party c.fetch_or.result c.requires.party c.fetch_or.ensures.cell c.fetch_or.ensures.made
