use Rattle.std.proofs.Common.{subst}
use Rattle.std.specs.Prelude.{IfSome}
use Rattle.task_exports.specs.Hands.{SameBits}
use Rattle.task_exports.proofs.calls.crossing.fetch_if.Goals as goal

pub fetch-requires-clause-bits : goal.fetch-requires-clause-bits
fetch-requires-clause-bits c = subst (λ o. IfSome o (λ k. SameBits c.args.h.now.hand k)) c.one.ensures c.requires.bits
