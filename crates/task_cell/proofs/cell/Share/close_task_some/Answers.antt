use Rattle.task_cell.proofs.TaskMoves.{may_cancel, closes, looks_over}
use Rattle.task_core.specs.Word.{is_open}
use Rattle.task_steps.specs.TaskScripts.{to_cancel}
use Rattle.task_cell.proofs.Attempts.{decided, set_or_clear}
use Rattle.task_cell.proofs.cell.Share.close_task_some.Goals as goal

pub change_some-requires-clause-allowed : goal.change_some-requires-clause-allowed
change_some-requires-clause-allowed g c = let s = c.requires.party in (may_cancel _ _ _ _ _ c.args.party.now s.0 s.1).0

pub change_some-requires-clause-shares : goal.change_some-requires-clause-shares
change_some-requires-clause-shares g c = let s = c.requires.party in (may_cancel _ _ _ _ _ c.args.party.now s.0 s.1).1

pub returns-in-Made-clause-path : goal.returns-in-Made-clause-path
returns-in-Made-clause-path g c = λ n s. closes _ c.args.party.now c.change_some.new.party n c.in-Made.found s c.change_some.ensures.cell c.in-Made.ensures.tried

pub returns-in-Ended-clause-path : goal.returns-in-Ended-clause-path
returns-in-Ended-clause-path g c = λ n s. looks_over _ c.args.party.now c.change_some.new.party n _ s c.change_some.ensures.cell c.in-Ended.ensures.tried

pub returns-in-Again-clause-missed : goal.returns-in-Again-clause-missed
returns-in-Again-clause-missed g c = decided c.args.self.now.block.key.limit to_cancel c.in-Again.field-0 (λ w h. set_or_clear (is_open w)) c.in-Again.ensures.missed
