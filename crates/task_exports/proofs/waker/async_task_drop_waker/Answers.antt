use Rattle.task_cell.proofs.Vocabulary.{subst, sym, Stands}
use Rattle.task_steps.specs.Standing.{as_waker}
use Rattle.task_exports.specs.Answers.{DropsWaker}
use Rattle.task_exports.specs.Parties.{party_in}
use Rattle.std.specs.Prelude.{IfSome}
use Rattle.task_exports.specs.Hands.{IsRecordOf}
use Rattle.task_exports.proofs.Along.{along}
use Rattle.task_exports.proofs.Crossing.{live_of}
use Rattle.task_exports.proofs.waker.async_task_drop_waker.Goals as goal

pub drop_reference-hand-requires-clause-hand : goal.drop_reference-hand-requires-clause-hand
drop_reference-hand-requires-clause-hand c = live_of _ _ c.open.ensures c.requires.handle

pub drop_reference-hand-requires-clause-party : goal.drop_reference-hand-requires-clause-party
drop_reference-hand-requires-clause-party c = subst (λ x. Stands as_waker x.party) (sym c.open.ensures) c.requires.party

pub returns-clause-record : goal.returns-clause-record
returns-clause-record c = subst (λ o. IfSome o (λ k. IsRecordOf c.args.h.hand k)) (sym c.bring_if-brought.ensures) (subst (λ x. IfSome c.drop_reference-hand.result.2 (λ k. IsRecordOf x k)) c.open.ensures c.drop_reference-hand.ensures.record)

pub returns-clause-path : goal.returns-clause-path
returns-clause-path c = subst (λ o. DropsWaker c.args.h.hand c.close-left.result.hand (party_in o) c.drop_reference-hand.result.1) (sym c.bring_if-brought.ensures) (along (λ x k. DropsWaker x k (party_in c.drop_reference-hand.result.2) c.drop_reference-hand.result.1) _ _ _ _ c.open.ensures c.close-left.ensures c.drop_reference-hand.ensures.path)
