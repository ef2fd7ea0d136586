use Rattle.task_cell.proofs.Vocabulary.{[], ◌∙◌, ap, subst, sym, Polling, StandsWith}
use Rattle.task_steps.specs.Steps.{work_first}
use Rattle.task_exports.specs.Answers.{Pends}
use Rattle.task_exports.specs.Parties.{party_in}
use Rattle.std.specs.Prelude.{IfSome}
use Rattle.task_exports.specs.Hands.{IsRecordOf}
use Rattle.task_exports.specs.declared.hand.Hand.{Hand}
use Rattle.task_exports.proofs.Along.{along}
use Rattle.task_exports.proofs.Crossing.{live_of}
use Rattle.task_exports.proofs.run.async_task_pending.Goals as goal

pub pend-hand-requires-clause-hand : goal.pend-hand-requires-clause-hand
pend-hand-requires-clause-hand c = live_of _ _ c.open.ensures c.requires.handle

pub pend-hand-requires-clause-party : goal.pend-hand-requires-clause-party
pend-hand-requires-clause-party c = let s = c.requires.party in (s.0, subst (λ x. StandsWith Polling (work_first s.0 []) x.party) (sym c.open.ensures) s.1, s.2)

pub returns-clause-bits : goal.returns-clause-bits
returns-clause-bits c = ap (λ (x : Hand). x.share.maybe.id) c.close-left.ensures ∙ (c.pend-hand.ensures.bits ∙ ap (λ (x : Hand). x.share.maybe.id) c.open.ensures)

pub returns-clause-record : goal.returns-clause-record
returns-clause-record c = subst (λ o. IfSome o (λ k. IsRecordOf c.args.h.hand k)) (sym c.bring_if-brought.ensures) (subst (λ x. IfSome c.pend-hand.result.2 (λ k. IsRecordOf x k)) c.open.ensures c.pend-hand.ensures.record)

pub returns-clause-path : goal.returns-clause-path
returns-clause-path c = subst (λ o. Pends c.args.h.hand c.close-left.result.hand (party_in o) c.pend-hand.result.1) (sym c.bring_if-brought.ensures) (along (λ x k. Pends x k (party_in c.pend-hand.result.2) c.pend-hand.result.1) _ _ _ _ c.open.ensures c.close-left.ensures c.pend-hand.ensures.path)
