use Rattle.task_cell.proofs.Vocabulary.{[], ◌∷◌, ◌∙◌, Did, EndCall, HandOver, act, as_ended, refl, Nothing, Stands, subst, sym, ap}
use Rattle.task_steps.specs.Standing.{as_runnable}
use Rattle.task_exports.specs.Hands.{IsLive, IsRecordOf}
use Rattle.task_exports.specs.declared.hand.Hand.{Hand}
use Rattle.task_exports.proofs.schedule.async_task_schedule.Goals as goal

pub hand_on-hand-requires-clause-party : goal.hand_on-hand-requires-clause-party
hand_on-hand-requires-clause-party c = (as_runnable, Nothing, refl, refl, subst (λ (x : Hand). Stands as_runnable x.party) (sym c.take-share.ensures.0) c.requires.party)

pub returns-clause-runnable : goal.returns-clause-runnable
returns-clause-runnable c = ((c.put.ensures.1, subst (λ (x : Hand). IsLive x) (sym c.put.ensures.0) c.hand_on-hand.ensures.runnable.0), subst (λ (x : Hand). Stands as_runnable x.party) (sym c.put.ensures.0) c.hand_on-hand.ensures.runnable.2)

pub returns-clause-record : goal.returns-clause-record
returns-clause-record c = let r = c.hand_on-hand.ensures.record in subst (λ (k : Hand). IsRecordOf c.put.new.h.hand k × Did (act HandOver ∷ act EndCall ∷ []) as_ended c.args.h.now.hand.party k.party) (sym c.close-brought.ensures) (
  (r.0, r.1 ∙ sym (ap (λ (x : Hand). x.share.maybe.id) c.put.ensures.0 ∙ c.hand_on-hand.ensures.runnable.1.0)),
  subst (λ (x : Hand). Did (act HandOver ∷ act EndCall ∷ []) as_ended x.party c.hand_on-hand.result.1.party) c.take-share.ensures.0 c.hand_on-hand.ensures.ended,
)
