use Rattle.std.proofs.Common.{[], refl}
use Rattle.task_exports.proofs.Cancelling.{woke, woke_and_ends}
use Rattle.task_cell.proofs.Moved.{stands}
use Rattle.task_laws.specs.declared.positions.Answer.TheVariants.{Nothing}
use Rattle.task_laws.specs.declared.positions.NotifyingCall.TheVariants.{OfCancel}
use Rattle.task_laws.specs.declared.positions.Rest.TheVariants.{Task}
use Rattle.task_exports.proofs.cancel.CancelWokenStep.make.Goals as goal

pub note_woken-requires-clause-party : goal.note_woken-requires-clause-party
note_woken-requires-clause-party c = let s = c.requires.starts in (s.1.0, OfCancel s.0, [], s.1.1)

pub end_call-requires-clause-party : goal.end_call-requires-clause-party
end_call-requires-clause-party c = let s = c.requires.starts in (Nothing, Task s.0, stands _ _ _ _ _ (woke s.0 s.1.0 c.args.party.now c.note_woken.new.party s.1.1 c.note_woken.ensures))

pub returns : goal.returns
returns c = record { does = λ n s1. (refl, woke_and_ends n s1.0 c.args.party.now c.note_woken.new.party c.end_call.new.party s1.1 c.note_woken.ensures c.end_call.ensures) }
