use Rattle.task_cell.proofs.TaskMoves.{may_detach, gives_up}
use Rattle.task_cell.proofs.Vocabulary.{refl, never}
use Rattle.task_steps.specs.TaskScripts.{to_detach}
use Rattle.task_cell.proofs.Attempts.{decided}
use Rattle.task_cell.proofs.cell.Share.give_task_up_some.Goals as goal

pub change_some-requires-clause-allowed : goal.change_some-requires-clause-allowed
change_some-requires-clause-allowed g c = let s = c.requires.party in (may_detach _ _ _ _ _ c.args.party.now s.0 s.1).0

pub change_some-requires-clause-shares : goal.change_some-requires-clause-shares
change_some-requires-clause-shares g c = let s = c.requires.party in (may_detach _ _ _ _ _ c.args.party.now s.0 s.1).1

pub returns-in-Made-clause-path : goal.returns-in-Made-clause-path
returns-in-Made-clause-path g c = let s = c.requires.party in gives_up _ c.args.party.now c.change_some.new.party s.0 c.in-Made.found s.1 c.change_some.ensures.cell c.in-Made.ensures.tried

pub returns-in-Again-clause-missed : goal.returns-in-Again-clause-missed
returns-in-Again-clause-missed g c = decided c.args.self.block.key.limit to_detach c.in-Again.field-0 (λ w h. refl) c.in-Again.ensures.missed

pub returns-in-Ended-clause-missed : goal.returns-in-Ended-clause-missed
returns-in-Ended-clause-missed g c = never c.in-Ended.ensures.tried.at_end
