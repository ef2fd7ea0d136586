use Rattle.std.proofs.Common.{length, refl, arith}
use Rattle.std.proofs.lemmas.Option.{slice_get_read}
use Rattle.std.proofs.lemmas.Grind.{common_steps}
use Rattle.future_parts.proofs.asked.line.Line.renew.Goals as goal

pub returns-clause-waiter : goal.returns-clause-waiter
returns-clause-waiter g c = (
  c.index_mut.result.now,
  slice_get_read _ (length c.args.self.now.waiters.items) c.args.index _ refl c.requires c.index_mut.ensures.value,
  grind (arith, common_steps),
  grind (arith, common_steps),
)
