use Rattle.task_cell.proofs.Vocabulary.{[], refl, sym, subst, Completes, ReadyFutureDropped, Output, work_first}
use Rattle.task_cell.proofs.RunGoes.{may_complete, completed, completes_then}
use Rattle.task_cell.proofs.Moved.{stands}
use Rattle.task_steps.specs.RunScripts.{to_complete}
use Rattle.task_cell.proofs.Attempts.{decided}
use Rattle.task_cell.proofs.cell.Share.complete_some.Goals as goal

pub change_some-requires-clause-allowed : goal.change_some-requires-clause-allowed
change_some-requires-clause-allowed g c = (may_complete _ _ _ _ _ c.lay_output.new.party (Output c.args.output.value) (stands _ _ _ _ _ c.lay_output.ensures) c.requires.yielded).0

pub change_some-requires-clause-shares : goal.change_some-requires-clause-shares
change_some-requires-clause-shares g c = (may_complete _ _ _ _ _ c.lay_output.new.party (Output c.args.output.value) (stands _ _ _ _ _ c.lay_output.ensures) c.requires.yielded).1

pub returns-in-Made-clause-path : goal.returns-in-Made-clause-path
returns-in-Made-clause-path g c = completes_then ReadyFutureDropped (work_first (Output c.args.output.value) []) c.args.party.now c.lay_output.new.party c.change_some.new.party c.in-Made.found c.lay_output.ensures
    (let changed = c.in-Made.ensures.tried in subst (Completes c.lay_output.new.party c.change_some.new.party) (sym changed.is) (completed (Output c.args.output.value) c.lay_output.new.party c.change_some.new.party changed.word (stands _ _ _ _ _ c.lay_output.ensures) c.change_some.ensures.cell changed.made))

pub returns-in-Again-clause-missed : goal.returns-in-Again-clause-missed
returns-in-Again-clause-missed g c = decided c.args.self.now.block.key.limit to_complete c.in-Again.field-0 (λ w h. refl) c.in-Again.ensures.missed
