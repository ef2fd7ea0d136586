use Rattle.task_cell.proofs.Vocabulary.{work_first}
use Rattle.std.proofs.Common.{[], ◌∷◌, refl}
use Rattle.task_exports.proofs.Polling.{claim_dealt}
use Rattle.task_core.specs.declared.acts.Act.TheVariants.{WakeAwaiter}
use Rattle.task_laws.specs.declared.positions.NotifyingCall.TheVariants.{OfClaim}
use Rattle.task_steps.specs.Deeds.{act}
use Rattle.task_exports.proofs.poll.ClaimWokenStep.make.Goals as goal

pub note_woken-requires-clause-party : goal.note_woken-requires-clause-party
note_woken-requires-clause-party c = let s = c.requires.starts in (s.2.1.0, OfClaim s.0, work_first s.1 [], s.2.1.1)

pub returns : goal.returns
returns c = record { does = λ i z s3. (refl, claim_dealt i s3.1.0 z (act WakeAwaiter ∷ []) c.args.party.now c.note_woken.new.party s3.1.1 c.note_woken.ensures) }
