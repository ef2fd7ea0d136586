use Rattle.std.proofs.Common.{arith}
use Rattle.task_cell.proofs.Vocabulary.{[], is_closed, work_first}
use Rattle.task_cell.proofs.RunGoes.{may_end, ended_pending, found_closed_meanwhile}
use Rattle.task_steps.specs.RunScripts.{to_end_pending}
use Rattle.task_cell.proofs.Attempts.{decided, clear_or_set}
use Rattle.task_cell.proofs.cell.Share.end_pending_some.Goals as goal

pub attempt_some-requires-clause-allowed : goal.attempt_some-requires-clause-allowed
attempt_some-requires-clause-allowed g c = let s = c.requires.party in (may_end _ _ _ _ _ c.args.party.now s.0 s.1 s.2).0

pub attempt_some-requires-clause-shares : goal.attempt_some-requires-clause-shares
attempt_some-requires-clause-shares g c = let s = c.requires.party in (may_end _ _ _ _ _ c.args.party.now s.0 s.1 s.2).1

pub returns-in-Made-clause-path : goal.returns-in-Made-clause-path
returns-in-Made-clause-path g c = λ y s. ended_pending _ y c.args.party.now c.attempt_some.new.party c.in-Made.end s c.in-Made.ensures.seat.0 c.in-Made.ensures.tried

pub returns-in-Ended-clause-path : goal.returns-in-Ended-clause-path
returns-in-Ended-clause-path g c = λ y s. is_closed (found_closed_meanwhile _ (work_first y []) c.args.party.now c.attempt_some.new.party _ s c.in-Ended.ensures.seat.0 c.in-Ended.ensures.tried)

pub returns-in-Again-clause-missed : goal.returns-in-Again-clause-missed
returns-in-Again-clause-missed g c = let l = decided c.args.self.block.key.limit to_end_pending c.in-Again.field-0 (λ w h. clear_or_set w.closed) c.in-Again.ensures.looked in omega (arith, l)
