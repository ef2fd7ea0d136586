use Rattle.task_cell.proofs.Vocabulary.{[], is_closed, work_first}
use Rattle.task_cell.proofs.RunGoes.{may_end, ended_pending, found_closed_meanwhile}
use Rattle.task_cell.proofs.cell.Share.end_pending.Goals as goal

pub attempt_from-requires-clause-allowed : goal.attempt_from-requires-clause-allowed
attempt_from-requires-clause-allowed g c = let s = c.requires.party in (may_end _ _ _ _ _ c.args.party.now s.0 s.1 s.2).0

pub attempt_from-requires-clause-shares : goal.attempt_from-requires-clause-shares
attempt_from-requires-clause-shares g c = let s = c.requires.party in (may_end _ _ _ _ _ c.args.party.now s.0 s.1 s.2).1

pub returns-in-Ok-clause-path : goal.returns-in-Ok-clause-path
returns-in-Ok-clause-path g c = λ y s. ended_pending _ y c.args.party.now c.attempt_from.new.party c.in-Ok.made.0 s c.in-Ok.ensures.cell c.in-Ok.ensures.changed

pub returns-in-Err-clause-path : goal.returns-in-Err-clause-path
returns-in-Err-clause-path g c = λ y s. is_closed (found_closed_meanwhile _ (work_first y []) c.args.party.now c.attempt_from.new.party _ s c.in-Err.ensures.cell c.in-Err.ensures.ended)
