use Rattle.task_cell.proofs.Vocabulary.{work_first}
use Rattle.std.proofs.Common.{[]}
use Rattle.task_exports.proofs.Polling.{claim_has_hand, claim_has_none}
use Rattle.task_laws.specs.declared.positions.NotifyingCall.TheVariants.{OfClaim}
use Rattle.task_exports.proofs.poll.ClaimTakenStep.make.Goals as goal

pub end_notify-requires-clause-party : goal.end_notify-requires-clause-party
end_notify-requires-clause-party c = let s = c.requires.starts in let t = s.2.1 in (t.0, OfClaim s.0, t.1, work_first s.1 [], t.3, t.2)

pub returns-in-Some : goal.returns-in-Some
returns-in-Some c = record { does = λ i z s3. let t = s3.1 in claim_has_hand i z t.0 c.args.party.now c.end_notify.new.party c.end_notify.result c.in-Some.awaiter (c.end_notify.ensures t.0 (OfClaim i) t.1 (work_first z []) t.3 t.2) c.in-Some.is }

pub returns-in-None : goal.returns-in-None
returns-in-None c = record { does = λ i z s3. let t = s3.1 in claim_has_none i z t.0 c.args.party.now c.end_notify.new.party c.end_notify.result (c.end_notify.ensures t.0 (OfClaim i) t.1 (work_first z []) t.3 t.2) c.in-None.is }
