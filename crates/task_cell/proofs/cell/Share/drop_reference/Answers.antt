use Rattle.task_cell.proofs.Vocabulary.{not, [], sym, ap, ◌∙◌, subst, At, Waker, DropsWaker, drops_waker}
use Rattle.task_cell.proofs.WakerMoves as moves
use Rattle.task_cell.proofs.Steps.{may_give_up}
use Rattle.task_steps.proofs.Handles.{drops_handle}
use Rattle.task_steps.specs.WakerScripts.{ends_waker}
use Rattle.task_cell.proofs.cell.Share.drop_reference.Goals as goal

pub give-found-requires-clause-allowed : goal.give-found-requires-clause-allowed
give-found-requires-clause-allowed g c = may_give_up _ c.args.party.now (At Waker) [] _ _ _ c.requires.party (drops_waker _ _ _ _ _ _ _ _) (drops_handle _ _ _)

pub returns-clause-share : goal.returns-clause-share
returns-clause-share g c = let e = c.give-found.ensures.share in record { cell = e.cell; terms = e.terms; is_there = e.is_there; is_last = e.is_last ∙ ap (λ x. not (ends_waker x)) (sym c.dropped_as.ensures) }

pub returns-clause-path : goal.returns-clause-path
returns-clause-path g c = let e = c.give-found.ensures in subst (λ x. DropsWaker c.args.party.now c.give-found.new.party x) (sym c.dropped_as.ensures) (moves.drops _ c.args.party.now c.give-found.new.party c.requires.party e.cell e.made)
