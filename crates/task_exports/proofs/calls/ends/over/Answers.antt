use Rattle.std.proofs.Common.{ap, sym, ◌∙◌, subst}
use Rattle.task_cell.specs.Calls.{Stands}
use Rattle.task_steps.specs.Standing.{as_ended}
use Rattle.task_exports.proofs.calls.ends.over.Goals as goal

pub record-requires-clause-gone : goal.record-requires-clause-gone
record-requires-clause-gone c = (ap (λ x. x.share.maybe.there) c.take.ensures.0 ∙ c.requires.gone.0, ap (λ x. x.share.maybe.last) c.take.ensures.0 ∙ c.requires.gone.1)

pub record-requires-clause-party : goal.record-requires-clause-party
record-requires-clause-party c = subst (λ x. Stands as_ended x.party) (sym c.take.ensures.0) c.requires.party

pub returns : goal.returns
returns c = c.record.ensures ∙ ap (λ x. x.party) c.take.ensures.0
