use Rattle.std.proofs.Common.{[], ◌∷◌, ap, sym, subst, ◌∙◌}
use Rattle.task_core.specs.declared.acts.Act.TheVariants.{EndCall, HandOver}
use Rattle.task_cell.proofs.Moved.{stands}
use Rattle.task_cell.specs.Calls.{Did, Stands}
use Rattle.task_exports.specs.Hands.{IsGone}
use Rattle.task_exports.specs.declared.hand.Hand.{Hand}
use Rattle.task_steps.specs.Deeds.{act}
use Rattle.task_steps.specs.Standing.{as_ended}
use Rattle.task_exports.proofs.calls.waker.schedule.Goals as goal

pub fetch-ended-requires-clause-bits : goal.fetch-ended-requires-clause-bits
fetch-ended-requires-clause-bits g c = c.async_task_schedule-brought.ensures.record.0.1

pub record-requires-clause-gone : goal.record-requires-clause-gone
record-requires-clause-gone g c = subst (λ k. IsGone k) (sym c.fetch-ended.ensures.brought) c.async_task_schedule-brought.ensures.record.0.0

pub record-requires-clause-party : goal.record-requires-clause-party
record-requires-clause-party g c = subst (λ (k : Hand). Stands as_ended k.party) (sym c.fetch-ended.ensures.brought) (stands _ _ _ _ _ c.async_task_schedule-brought.ensures.record.1)

pub returns-clause-path : goal.returns-clause-path
returns-clause-path g c = subst (λ q. Did (act HandOver ∷ act EndCall ∷ []) as_ended c.args.h.now.hand.party q) (sym (c.record.ensures ∙ ap (λ (k : Hand). k.party) c.fetch-ended.ensures.brought)) c.async_task_schedule-brought.ensures.record.1
