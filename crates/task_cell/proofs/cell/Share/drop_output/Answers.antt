use Rattle.task_cell.proofs.Vocabulary.{◌∷◌, [], refl, ◌∙◌, OutputInHand, OfRun, DropOutput, notifies, act, Empty, work_first}
use Rattle.task_steps.proofs.RunOwed.{drops_output}
use Rattle.task_cell.proofs.Steps.{may_make}
use Rattle.task_cell.proofs.RunGoes.{dropped_output}
use Rattle.task_cell.proofs.Moved.{stands, did_then}
use Rattle.task_cell.proofs.cell.Share.drop_output.Goals as goal

pub load-requires-clause-cell : goal.load-requires-clause-cell
load-requires-clause-cell g c = let s = c.requires.party in (c.take-unclaimed.ensures (OutputInHand s.0) s.1 [] s.2).cell ∙ c.requires.cell

pub load-requires-clause-allowed : goal.load-requires-clause-allowed
load-requires-clause-allowed g c = let s = c.requires.party in let x = c.take-unclaimed.ensures (OutputInHand s.0) s.1 [] s.2 in
    may_make _ c.take-unclaimed.new.party (OutputInHand s.0) (work_first Empty []) _ _ (stands c.args.party.now c.take-unclaimed.new.party [] (OutputInHand s.0) (work_first Empty []) x) (drops_output _ _ _ _ _ s.0 _ _ _ refl) (λ m f. refl)

pub returns : goal.returns
returns g c = λ due z s. let x = c.take-unclaimed.ensures (OutputInHand due) z [] s in
    did_then c.args.party.now c.take-unclaimed.new.party c.load.new.party [] (act DropOutput ∷ []) (OutputInHand due) (notifies due OfRun) (work_first Empty []) [] x
    (dropped_output due c.take-unclaimed.new.party c.load.new.party c.load.result (stands c.args.party.now c.take-unclaimed.new.party [] (OutputInHand due) (work_first Empty []) x) c.load.ensures.cell c.load.ensures.made)
