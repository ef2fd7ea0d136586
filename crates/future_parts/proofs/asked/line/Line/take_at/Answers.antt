use Rattle.std.proofs.Common.{length, refl}
use Rattle.std.proofs.lemmas.Option.{slice_get_read}
use Rattle.future_parts.proofs.asked.line.Line.take_at.Goals as goal

pub returns-clause-waiter : goal.returns-clause-waiter
returns-clause-waiter g c = (
  c.in-Some.field-0,
  slice_get_read _ (length c.args.self.now.waiters.items) c.args.index _ refl c.requires (rw c.in-Some.is at c.remove.ensures.value),
  refl,
)
