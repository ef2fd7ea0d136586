use Rattle.std.proofs.Common.{[], ◌∷◌, refl, subst}
use Rattle.task_cell.proofs.Moved.{position_is}
use Rattle.task_cell.specs.Calls.{Did}
use Rattle.task_core.specs.declared.acts.Act.TheVariants.{EndRegisterNotified}
use Rattle.task_laws.specs.declared.positions.Position.TheVariants.{CloneInHand, TookBack}
use Rattle.task_steps.specs.Deeds.{row}
use Rattle.task_steps.specs.Standing.{poll_number}
use Rattle.task_exports.proofs.register.TakenBackStep.make.Goals as goal

pub returns : goal.returns
returns c = record {
  does = λ i z s3. let x = c.take_back.ensures.path in
      (refl, x.0, x.1, subst (λ at. Did (row EndRegisterNotified x.0 ∷ []) (CloneInHand (poll_number at)) c.args.party.now c.take_back.new.party) (position_is c.args.party.now (TookBack i) _ s3) x.2);
}
