use Rattle.std.proofs.Common.{ap, sym, ◌∙◌}
use Rattle.std.proofs.lemmas.Option.{IfSome_then}
use Rattle.task_exports.specs.Hands.{IsRecordOf}
use Rattle.task_exports.specs.declared.hand.Hand.{Hand}
use Rattle.task_exports.proofs.calls.crossing.end.Goals as goal

pub fetch_if-ended-requires-clause-bits : goal.fetch_if-ended-requires-clause-bits
fetch_if-ended-requires-clause-bits c = IfSome_then _ c.requires.record (λ (k : Hand). λ (r : IsRecordOf c.args.address.hand k). r.1 ∙ sym (ap (λ (x : Hand). x.share.maybe.id) c.back-number.ensures.0 ∙ c.requires.bits))
