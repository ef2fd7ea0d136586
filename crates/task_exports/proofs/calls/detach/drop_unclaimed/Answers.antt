use Rattle.std.proofs.lemmas.Option.{IfSome_then}
use Rattle.task_exports.proofs.calls.detach.drop_unclaimed.Goals as goal

pub returns : goal.returns
returns g c = IfSome_then c.end_unclaimed-ended.result c.end_unclaimed-ended.ensures (λ _ t. (assumption c, t))
