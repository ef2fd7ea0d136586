use Rattle.std.proofs.Common.{◌<◌, IfOk, subst}
use Rattle.std.proofs.Math.Logic.{∥∥₁_elim}
use Rattle.std.proofs.Math.Bridge.{le_prop}
use Rattle.examples.proofs.claim.output_of.Goals as goal

-- The poll gives the fact as `∥ .. ∥₁`, of which a fact that has one proof at most is taken out.
pub returns-in-Ready-Ok : goal.returns-in-Ready-Ok
returns-in-Ready-Ok g c = let x = c.in-Ready-Ok in ∥∥₁_elim (subst (λ it. IfOk it (λ output. ∥ output < 100 ∥₁)) x.field-0-is x.ensures.meets) le_prop (λ below. below)
