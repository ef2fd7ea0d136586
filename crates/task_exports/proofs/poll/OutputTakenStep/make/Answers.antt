use Rattle.task_cell.proofs.Vocabulary.{work_first}
use Rattle.std.proofs.Common.{[], ◌∷◌, refl, subst}
use Rattle.task_cell.proofs.Moved.{position_is}
use Rattle.task_cell.specs.Calls.{Did}
use Rattle.task_core.specs.declared.acts.Act.TheVariants.{EndCall, HandOutOutput}
use Rattle.task_laws.specs.declared.positions.Position.TheVariants.{TookOutput}
use Rattle.task_steps.specs.Deeds.{act}
use Rattle.task_steps.specs.Standing.{as_task, poll_number}
use Rattle.task_exports.proofs.Unknown.{known_output}
use Rattle.task_exports.proofs.poll.OutputTakenStep.make.Goals as goal

pub hand_out-requires-clause-party : goal.hand_out-requires-clause-party
hand_out-requires-clause-party c = let s = c.requires.starts in (s.0, s.1, s.2.1, known_output (λ _ _ _. tt) c.args.share.now.block.key.future.value s.1 s.2.0)

pub returns : goal.returns
returns c = record { does = λ i z s3. (refl, subst (λ at. Did (act HandOutOutput ∷ act EndCall ∷ []) (as_task (poll_number at)) c.args.party.now c.hand_out.new.party) (position_is c.args.party.now (TookOutput i) (work_first z []) s3.1) c.hand_out.ensures.path) }
