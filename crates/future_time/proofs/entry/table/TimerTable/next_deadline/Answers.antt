use Rattle.future_time.proofs.Wheels.{next_not_late}
use Rattle.future_time.proofs.entry.table.TimerTable.next_deadline.Goals as goal

pub returns-clause-not_late : goal.returns-clause-not_late
returns-clause-not_late g c = next_not_late c.args.self.now.wheel _ c.args.self.now.ahead c.poll_at.ensures.not_late
