use Rattle.std.proofs.Common.{sym, subst}
use Rattle.task_exports.proofs.Cancelling.{about_to_end, ends_at_once, to_notify}
use Rattle.task_exports.specs.TaskAnswers.{CancelGoesOn}
use Rattle.task_laws.specs.declared.positions.Answer.TheVariants.{Nothing}
use Rattle.task_laws.specs.declared.positions.Rest.TheVariants.{Task}
use Rattle.task_exports.proofs.cancel.leave_closed.Goals as goal

pub notify_closed-requires-clause-party : goal.notify_closed-requires-clause-party
notify_closed-requires-clause-party c = let s = c.requires.party in (s.0, to_notify c.args.due s.0 c.args.party.now c.if-due.true s.1)

pub returns-then-due : goal.returns-then-due
returns-then-due c = λ n s. subst (λ b. CancelGoesOn b n c.args.party.now c.notify_closed.new.party c.notify_closed.result) (sym c.if-due.true) (c.notify_closed.ensures n (to_notify c.args.due n c.args.party.now c.if-due.true s))

pub end_call-requires-clause-party : goal.end_call-requires-clause-party
end_call-requires-clause-party c = let s = c.requires.party in (Nothing, Task s.0, about_to_end c.args.due s.0 c.args.party.now c.if-due.false s.1)

pub returns-else-due : goal.returns-else-due
returns-else-due c = λ n s. ends_at_once c.args.due n c.args.party.now c.end_call.new.party c.if-due.false s c.end_call.ensures
