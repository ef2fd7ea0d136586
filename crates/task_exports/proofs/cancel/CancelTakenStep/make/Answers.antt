use Rattle.std.proofs.Common.{[], ◌∙◌}
use Rattle.task_exports.proofs.Cancelling.{ends_not_there, is_in_hand, is_not_there}
use Rattle.task_cell.proofs.Moved.{stands}
use Rattle.task_laws.specs.declared.positions.Answer.TheVariants.{Nothing}
use Rattle.task_laws.specs.declared.positions.NotifyingCall.TheVariants.{OfCancel}
use Rattle.task_laws.specs.declared.positions.Rest.TheVariants.{Task}
use Rattle.task_exports.proofs.cancel.CancelTakenStep.make.Goals as goal

pub end_notify-requires-clause-party : goal.end_notify-requires-clause-party
end_notify-requires-clause-party c = let s = c.requires.starts in (s.1.0, OfCancel s.0, s.1.1, [], s.1.3, s.1.2)

pub returns-in-Some : goal.returns-in-Some
returns-in-Some c = record { does = λ n s1. (is_in_hand n s1.0 c.args.party.now c.end_notify.new.party c.end_notify.result c.in-Some.awaiter (c.end_notify.ensures s1.0 (OfCancel n) s1.1 [] s1.3 s1.2) c.in-Some.is) }

pub end_call-requires-clause-party : goal.end_call-requires-clause-party
end_call-requires-clause-party c = let s = c.requires.starts in let x = is_not_there s.0 s.1.0 c.args.party.now c.end_notify.new.party c.end_notify.result (c.end_notify.ensures s.1.0 (OfCancel s.0) s.1.1 [] s.1.3 s.1.2) c.in-None.is in
    (Nothing, Task s.0, stands _ _ _ _ _ x.1)

pub returns-in-None : goal.returns-in-None
returns-in-None c = record { does = λ n s1. (ends_not_there n s1.0 c.args.party.now c.end_notify.new.party c.end_call.new.party c.end_notify.result (c.end_notify.ensures s1.0 (OfCancel n) s1.1 [] s1.3 s1.2) c.in-None.is c.end_call.ensures) }

pub end_call-requires-clause-cell : goal.end_call-requires-clause-cell
end_call-requires-clause-cell c = let s = c.requires.starts in (c.end_notify.ensures s.1.0 (OfCancel s.0) s.1.1 [] s.1.3 s.1.2).did.cell ∙ c.requires.cell.0
