use Rattle.task_cell.proofs.Vocabulary.{ap, ◌∷◌, [], sym, ◌∙◌, subst, nat_eq, OutputCloser, Detacher, DropOutput, Empty, head_of, saw_closed, act, GivesTaskUp}
use Rattle.task_cell.proofs.Vocabulary.{gives_task_up, work_first}
use Rattle.task_cell.proofs.Steps.{may_give_up}
use Rattle.task_steps.proofs.Handles.{gives_task}
use Rattle.task_cell.proofs.Sharing.{left_by_last}
use Rattle.task_cell.proofs.Moved.{stands, did_then}
use Rattle.task_cell.proofs.TaskMoves.{gives_rest}
use Rattle.task_cell.proofs.cell.Share.take_unclaimed.Goals as goal

pub note_output_dropped-requires-clause-cell : goal.note_output_dropped-requires-clause-cell
note_output_dropped-requires-clause-cell g c = let s = c.requires.party in (c.take-unclaimed.ensures OutputCloser s.0 [] s.1).cell ∙ c.requires.cell

pub note_output_dropped-requires-clause-party : goal.note_output_dropped-requires-clause-party
note_output_dropped-requires-clause-party g c = let s = c.requires.party in let put = c.take-unclaimed.ensures OutputCloser s.0 [] s.1 in
    stands c.args.party.now c.take-unclaimed.new.party [] OutputCloser (work_first Empty []) put

pub give-found-requires-clause-cell : goal.give-found-requires-clause-cell
give-found-requires-clause-cell g c = let s = c.requires.party in c.note_output_dropped.ensures.cell ∙ ((c.take-unclaimed.ensures OutputCloser s.0 [] s.1).cell ∙ c.requires.cell)

pub give-found-requires-clause-allowed : goal.give-found-requires-clause-allowed
give-found-requires-clause-allowed g c = let s = c.requires.party in let put = c.take-unclaimed.ensures OutputCloser s.0 [] s.1 in
    let d = did_then c.args.party.now c.take-unclaimed.new.party c.note_output_dropped.new.party [] (act DropOutput ∷ []) OutputCloser Detacher (work_first Empty []) [] put c.note_output_dropped.ensures in
    may_give_up _ c.note_output_dropped.new.party Detacher [] _ _ _ (stands c.args.party.now c.note_output_dropped.new.party (act DropOutput ∷ []) Detacher [] d) (gives_task_up _ _ _ _ _ _ _ _ (ap (λ m. saw_closed (head_of m.0.members).deeds) d.is ∙ s.2)) (gives_task _ _ _)

pub returns-clause-path : goal.returns-clause-path
returns-clause-path g c = let s = c.requires.party in let put = c.take-unclaimed.ensures OutputCloser s.0 [] s.1 in let given = c.give-found.ensures in
    let d = did_then c.args.party.now c.take-unclaimed.new.party c.note_output_dropped.new.party [] (act DropOutput ∷ []) OutputCloser Detacher (work_first Empty []) [] put c.note_output_dropped.ensures in
    subst (λ k. GivesTaskUp c.args.party.now c.give-found.new.party (nat_eq k 0)) (sym c.references.ensures)
    (gives_rest c.args.party.now c.note_output_dropped.new.party c.give-found.new.party _ d given.cell (given.knows.closed (ap (λ m. saw_closed (head_of m.0.members).deeds) d.is ∙ s.2)) given.made)

pub returns-clause-share : goal.returns-clause-share
returns-clause-share g c = let e = c.give-found.ensures.share in record { cell = e.cell; terms = e.terms; is_there = e.is_there; is_last = e.is_last ∙ (left_by_last c.give-found.result.0.references ∙ ap (λ k. nat_eq k 0) (sym c.references.ensures)) }
