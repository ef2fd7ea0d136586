use Rattle.std.proofs.Common.{arith, rules, sym, subst}
use Rattle.std.proofs.lemmas.Grind.{common_steps}
use Rattle.std.specs.Option.{IsSome}
use Rattle.executor.proofs.turns.Turns.find.Goals as goal

pub returns : goal.returns
returns g c = record { takes = record { first = grind (arith, common_steps); hands = search rules; owes = λ z. c.find.ensures.owes (subst (λ x. IsSome x) (sym c.in-Some.is) z) } }
