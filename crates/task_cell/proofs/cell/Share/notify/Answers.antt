use Rattle.task_cell.proofs.Notified.{took, notified, found_other}
use Rattle.task_cell.proofs.cell.Share.notify.Goals as goal

pub end_notify-requires-clause-party : goal.end_notify-requires-clause-party
end_notify-requires-clause-party g c = took _ _ _ c.begin_notify.ensures c.if-begin_notify.true

pub returns-then-begin_notify : goal.returns-then-begin_notify
returns-then-begin_notify g c = notified _ _ _ _ _ c.begin_notify.ensures c.if-begin_notify.true c.end_notify.ensures

pub returns-else-begin_notify : goal.returns-else-begin_notify
returns-else-begin_notify g c = found_other _ _ _ c.begin_notify.ensures c.if-begin_notify.false
