use Rattle.std.proofs.Common.{refl, ap, Some, rules}
use Rattle.future_parts.proofs.asked.permits.Permits.renew.Goals as goal

pub returns-clause-renewed : goal.returns-clause-renewed
returns-clause-renewed g c =
    let w = c.renew.ensures.waiter in
    let asked = c.new-2.ensures in
    rw (c.in-Some.is, asked.0, asked.1) (refl, (w.0, w.1, w.2, ap Some w.3, c.renew.ensures.next, c.renew.ensures.room), search rules)
