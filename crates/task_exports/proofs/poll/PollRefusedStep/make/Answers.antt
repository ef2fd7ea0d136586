use Rattle.std.proofs.Common.{[], ◌∷◌, refl, subst}
use Rattle.task_cell.proofs.Moved.{position_is}
use Rattle.task_cell.specs.Calls.{Did}
use Rattle.task_core.specs.declared.acts.Act.TheVariants.{EndCall, RefuseClone}
use Rattle.task_laws.specs.declared.positions.Position.TheVariants.{Registrar}
use Rattle.task_steps.specs.Deeds.{act}
use Rattle.task_steps.specs.Standing.{as_task, poll_number}
use Rattle.task_exports.proofs.poll.PollRefusedStep.make.Goals as goal

pub returns : goal.returns
returns c = record { does = λ n s1. (refl, subst (λ at. Did (act RefuseClone ∷ act EndCall ∷ []) (as_task (poll_number at)) c.args.party.now c.note_refused.new.party) (position_is c.args.party.now (Registrar n) _ s1) c.note_refused.ensures) }
