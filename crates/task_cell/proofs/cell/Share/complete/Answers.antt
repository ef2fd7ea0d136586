use Rattle.task_cell.proofs.Vocabulary.{[], sym, subst, Completes, ReadyFutureDropped, Output, work_first}
use Rattle.task_cell.proofs.RunGoes.{may_complete, completed, completes_then}
use Rattle.task_cell.proofs.Moved.{stands}
use Rattle.task_cell.proofs.cell.Share.complete.Goals as goal

pub change-requires-clause-allowed : goal.change-requires-clause-allowed
change-requires-clause-allowed g c = (may_complete _ _ _ _ _ c.lay_output.new.party (Output c.args.output.value) (stands _ _ _ _ _ c.lay_output.ensures) c.requires.yielded).0

pub change-requires-clause-shares : goal.change-requires-clause-shares
change-requires-clause-shares g c = (may_complete _ _ _ _ _ c.lay_output.new.party (Output c.args.output.value) (stands _ _ _ _ _ c.lay_output.ensures) c.requires.yielded).1

pub returns : goal.returns
returns g c = completes_then ReadyFutureDropped (work_first (Output c.args.output.value) []) c.args.party.now c.lay_output.new.party c.change.new.party c.in-Ok.found c.lay_output.ensures
    (let changed = c.in-Ok.ensures.changed in subst (Completes c.lay_output.new.party c.change.new.party) (sym changed.is) (completed (Output c.args.output.value) c.lay_output.new.party c.change.new.party changed.word (stands _ _ _ _ _ c.lay_output.ensures) c.in-Ok.ensures.cell changed.made))
