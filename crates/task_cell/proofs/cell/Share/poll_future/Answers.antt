use Rattle.task_cell.proofs.Vocabulary.{ap, ◌∙◌, subst, refl, ◌∷◌, [], rest, Polling, Future, view, member, StandsWith, deeds, limit_of, work_first}
use Rattle.task_cell.specs.Belongs.{cell_of}
use Rattle.task_cell.proofs.Carried.{same_work}
use Rattle.task_cell.proofs.Running.{notes_on}
use Rattle.task_cell.proofs.Carried.{lies_future}
use Rattle.task_cell.specs.Belongs.{values_in}
use Rattle.task_cell.proofs.Vocabulary.{IsFuture, sym}
use Rattle.task_cell.proofs.cell.Share.poll_future.Goals as goal

pub returns-clause-once : goal.returns-clause-once
returns-clause-once g c = let s = c.requires.party in let p = c.polled-answer.ensures.once in
    let there = same_work s.0 c.first_mut.result.now _ _ _ (ap (λ m. m.1) s.1) c.first_mut.ensures.value ∙ p.2 in
    let polled = ap (λ m. (m.0, work_first c.polled-answer.new.slot (rest m.1))) s.1 ∙ ap (λ y. (view (limit_of c.args.party) (member Polling (deeds c.args.party) ∷ []), work_first y [])) p.3 in (
      p.0,
      p.1,
      subst (λ y. StandsWith Polling (work_first y []) c.args.party) there s.1,
      notes_on (work_first (Future p.1) []) c.args.party _ _ _ _ (record { cell = refl; is = polled }) (c.note_answer-party.ensures (work_first (Future p.1) []) polled),
      (_, ap cell_of c.lent.ensures.share, refl, p.4),
      subst (λ y. IsFuture (values_in c.args.self) y) there s.2,
      p.5,
    )

pub polled-answer-requires : goal.polled-answer-requires
polled-answer-requires g c = let s = c.requires.party in let f = lies_future (values_in c.args.self) s.0 s.2 in
    (f.0, sym (same_work s.0 c.first_mut.result.now _ _ _ (ap (λ m. m.1) s.1) c.first_mut.ensures.value) ∙ f.1)
