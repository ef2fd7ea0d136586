use Rattle.std.proofs.Common.{rules}
use Rattle.executor_parts.proofs.blocking.block_on.Goals as goal

pub returns-in-Ready-Ok-clause-answer : goal.returns-in-Ready-Ok-clause-answer
returns-in-Ready-Ok-clause-answer g c = c.loop.invariant.goes_on _ _ (rw c.in-Ready-Ok.field-0-is at c.in-Ready-Ok.ensures)

pub returns-in-Ready-Err-clause-answer : goal.returns-in-Ready-Err-clause-answer
returns-in-Ready-Err-clause-answer g c = c.loop.invariant.goes_on _ _ (rw c.in-Ready-Err.field-0-is at c.in-Ready-Err.ensures)

pub returns-in-Refused-clause-answer : goal.returns-in-Refused-clause-answer
returns-in-Refused-clause-answer g c = c.loop.invariant.goes_on _ _ c.in-Refused.ensures

pub loop-preserved : goal.loop-preserved
loop-preserved g c = record { can_next = search rules; is_finite = search rules; goes_on = λ answer after next. c.loop.invariant.goes_on answer after (g.met.T.Awaited.goes_on _ _ _ _ c.in-Pending.ensures next) }
