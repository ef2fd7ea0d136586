use Rattle.task_cell.proofs.Vocabulary.{[], sym, ◌∙◌, subst, GivingUp, gives_up, GivesUp}
use Rattle.task_cell.proofs.Steps.{may_give_up}
use Rattle.task_steps.proofs.Handles.{gives_reference}
use Rattle.task_cell.proofs.RunGoes.{gave_up}
use Rattle.task_cell.proofs.cell.Share.give_up.Goals as goal

pub give-found-requires-clause-allowed : goal.give-found-requires-clause-allowed
give-found-requires-clause-allowed g c = let s = c.requires.party in may_give_up _ c.args.party.now (GivingUp s.0 s.1) [] _ _ _ s.2 (gives_up _ _ _ _ _ s.0 s.1 _ _ _) (gives_reference _ s.0 s.1 _ _)

pub returns-clause-path : goal.returns-clause-path
returns-clause-path g c = λ hand answer s. let f = c.give-found.ensures in
    subst (λ b. GivesUp hand answer c.args.party.now c.give-found.new.party b) (sym c.is_last.ensures) (gave_up hand answer c.args.party.now c.give-found.new.party c.give-found.result.0 s f.cell f.made)

pub returns-clause-share : goal.returns-clause-share
returns-clause-share g c = let e = c.give-found.ensures.share in record { cell = e.cell; terms = e.terms; is_there = e.is_there; is_last = e.is_last ∙ sym c.is_last.ensures }
