use Rattle.task_cell.proofs.Vocabulary.{subst, sym, Stands}
use Rattle.task_steps.specs.Standing.{as_task}
use Rattle.task_exports.specs.Parties.{party_in}
use Rattle.task_exports.specs.TaskAnswers.{Detaches}
use Rattle.std.specs.Prelude.{IfSome}
use Rattle.task_exports.specs.Hands.{IsRecordOf}
use Rattle.task_exports.proofs.Along.{along}
use Rattle.task_exports.proofs.Crossing.{live_of}
use Rattle.task_exports.proofs.detach.async_task_detach.Goals as goal

pub give_up-hand-requires-clause-hand : goal.give_up-hand-requires-clause-hand
give_up-hand-requires-clause-hand c = live_of _ _ c.open.ensures c.requires.handle

pub give_up-hand-requires-clause-party : goal.give_up-hand-requires-clause-party
give_up-hand-requires-clause-party c = let s = c.requires.party in (s.0, subst (λ x. Stands (as_task s.0) x.party) (sym c.open.ensures) s.1)

pub returns-clause-record : goal.returns-clause-record
returns-clause-record c = subst (λ o. IfSome o (λ k. IsRecordOf c.args.h.hand k)) (sym c.bring_if-brought.ensures) (subst (λ x. IfSome c.give_up-hand.result.2 (λ k. IsRecordOf x k)) c.open.ensures c.give_up-hand.ensures.record)

pub returns-clause-path : goal.returns-clause-path
returns-clause-path c = subst (λ o. Detaches c.args.h.hand c.close-left.result.hand (party_in o) c.give_up-hand.result.1) (sym c.bring_if-brought.ensures) (along (λ x k. Detaches x k (party_in c.give_up-hand.result.2) c.give_up-hand.result.1) _ _ _ _ c.open.ensures c.close-left.ensures c.give_up-hand.ensures.path)
