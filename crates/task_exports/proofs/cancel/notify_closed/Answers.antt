use Rattle.std.proofs.Common.{[], refl, true}
use Rattle.task_exports.proofs.Cancelling.{ends_passed, passed, takes_it}
use Rattle.task_cell.proofs.Moved.{stands}
use Rattle.task_laws.specs.declared.positions.Answer.TheVariants.{Nothing}
use Rattle.task_laws.specs.declared.positions.NotifyingCall.TheVariants.{OfCancel}
use Rattle.task_laws.specs.declared.positions.Rest.TheVariants.{Task}
use Rattle.task_exports.proofs.cancel.notify_closed.Goals as goal

pub begin_notify-requires-clause-party : goal.begin_notify-requires-clause-party
begin_notify-requires-clause-party c = let s = c.requires.party in (OfCancel s.0, [], s.1)

pub returns-then-begin_notify : goal.returns-then-begin_notify
returns-then-begin_notify c = λ n s. takes_it true n c.args.party.now c.begin_notify.new.party c.begin_notify.result refl s c.begin_notify.ensures c.if-begin_notify.true

pub end_call-requires-clause-party : goal.end_call-requires-clause-party
end_call-requires-clause-party c = let s = c.requires.party in (Nothing, Task s.0, stands _ _ _ _ _ (passed true s.0 c.args.party.now c.begin_notify.new.party c.begin_notify.result refl s.1 c.begin_notify.ensures c.if-begin_notify.false).2)

pub returns : goal.returns
returns c = λ n s. ends_passed true n c.args.party.now c.begin_notify.new.party c.end_call.new.party c.begin_notify.result refl s c.begin_notify.ensures c.if-begin_notify.false c.end_call.ensures
