use Rattle.task_cell.proofs.Vocabulary.{[], ◌∷◌, ◌∙◌, sym, Ended, HandOver, act}
use Rattle.task_steps.specs.Standing.{as_runnable}
use Rattle.task_cell.proofs.Moved.{stands}
use Rattle.task_cell.proofs.WakerMoves.{fresh_stands}
use Rattle.task_exports.proofs.Given.{handed_on, new_limit, and_ends}
use Rattle.std.proofs.Common.{ap}
use Rattle.task_exports.proofs.schedule.hand_on.Goals as goal

pub hand_over-runnable-requires-clause-party : goal.hand_over-runnable-requires-clause-party
hand_over-runnable-requires-clause-party c = let s = c.requires.party in (s.0, s.2, s.4)

pub end-requires-clause-party : goal.end-requires-clause-party
end-requires-clause-party c = let s = c.requires.party in (s.1, Ended, stands _ _ _ _ _ (handed_on _ _ s.0 s.1 s.3 s.4 c.hand_over-runnable.ensures.path))

pub returns-clause-record : goal.returns-clause-record
returns-clause-record c = ((c.gone.ensures.is_there, c.gone.ensures.is_last), c.gone.ensures.cell.0)

pub returns-clause-runnable : goal.returns-clause-runnable
returns-clause-runnable c = let n = c.hand_over-runnable.ensures.runnable in let m = c.into_maybe.ensures in (
  (m.is_there, n.cell ∙ (c.requires.cell.0 ∙ sym m.cell.0), new_limit _ _ _ n ∙ (c.requires.cell.1 ∙ sym (ap (λ k. k.limit) m.terms))),
  m.cell,
  fresh_stands as_runnable _ c.hand_over-runnable.result n.is,
)

pub returns-clause-ended : goal.returns-clause-ended
returns-clause-ended c = let s = c.requires.party in and_ends (act HandOver ∷ []) s.1 _ _ _ (handed_on _ _ s.0 s.1 s.3 s.4 c.hand_over-runnable.ensures.path) c.end.ensures
