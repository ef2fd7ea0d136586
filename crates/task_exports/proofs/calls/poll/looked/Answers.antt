use Rattle.std.proofs.Common.{refl, sym}
use Rattle.task_exports.proofs.calls.poll.looked.Goals as goal

pub returns-in-7 : goal.returns-in-7
returns-in-7 c = (sym c.in-7.is, refl)

pub returns-in-16 : goal.returns-in-16
returns-in-16 c = (sym c.in-16.is, refl)

pub returns-in-17 : goal.returns-in-17
returns-in-17 c = (sym c.in-17.is, refl)

pub returns-in-18 : goal.returns-in-18
returns-in-18 c = (sym c.in-18.is, refl)

pub returns-in-24 : goal.returns-in-24
returns-in-24 c = (sym c.in-24.is, refl)
