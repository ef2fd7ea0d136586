use Rattle.task_cell.proofs.Vocabulary.{work_first}
use Rattle.std.proofs.Common.{[]}
use Rattle.task_exports.proofs.Looks.{claim_alone, claim_passes, claim_takes_it, due_claim}
use Rattle.task_laws.specs.declared.positions.NotifyingCall.TheVariants.{OfClaim}
use Rattle.task_exports.proofs.look.go_on_claimed.Goals as goal

pub returns-then-not-due : goal.returns-then-not-due
returns-then-not-due c = λ i z s. claim_alone c.args.due i z c.args.party.now c.if-not-due.true s

pub begin_notify-requires-clause-party : goal.begin_notify-requires-clause-party
begin_notify-requires-clause-party c = let s = c.requires.party in (OfClaim s.0, work_first s.1 [], due_claim c.args.due s.0 s.1 c.args.party.now c.if-not-due.false s.2)

pub returns-then-begin_notify : goal.returns-then-begin_notify
returns-then-begin_notify c = λ i z s. claim_takes_it c.args.due i z c.args.party.now c.begin_notify.new.party c.begin_notify.result c.if-not-due.false s c.begin_notify.ensures c.if-begin_notify.true

pub returns-else-begin_notify : goal.returns-else-begin_notify
returns-else-begin_notify c = λ i z s. claim_passes c.args.due i z c.args.party.now c.begin_notify.new.party c.begin_notify.result c.if-not-due.false s c.begin_notify.ensures c.if-begin_notify.false
