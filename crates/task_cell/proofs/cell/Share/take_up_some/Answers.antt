use Rattle.task_cell.proofs.Starting.{may_start, found_closed, started}
use Rattle.task_steps.specs.StartScripts.{to_start_run}
use Rattle.task_cell.proofs.Attempts.{decided, clear_or_set}
use Rattle.task_cell.proofs.cell.Share.take_up_some.Goals as goal

pub change_some-requires-clause-allowed : goal.change_some-requires-clause-allowed
change_some-requires-clause-allowed g c = (may_start _ _ _ _ _ c.args.party.now c.requires.party).0

pub change_some-requires-clause-shares : goal.change_some-requires-clause-shares
change_some-requires-clause-shares g c = (may_start _ _ _ _ _ c.args.party.now c.requires.party).1

pub returns-in-Made-clause-path : goal.returns-in-Made-clause-path
returns-in-Made-clause-path g c = started _ _ c.args.party.now c.change_some.new.party c.requires.party c.change_some.ensures.cell c.in-Made.ensures.tried

pub returns-in-Ended-clause-path : goal.returns-in-Ended-clause-path
returns-in-Ended-clause-path g c = found_closed _ _ c.args.party.now c.change_some.new.party c.requires.party c.change_some.ensures.cell c.in-Ended.ensures.tried

pub returns-in-Again-clause-missed : goal.returns-in-Again-clause-missed
returns-in-Again-clause-missed g c = decided c.args.self.now.block.key.limit to_start_run c.in-Again.field-0 (λ w h. clear_or_set w.closed) c.in-Again.ensures.missed
