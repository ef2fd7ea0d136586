use Rattle.std.proofs.Common.{false, sym, subst, ◌∙◌}
use Rattle.task_cell.proofs.Moved.{stands}
use Rattle.task_core.specs.declared.acts.Act.TheVariants.{DropFuture}
use Rattle.task_exports.proofs.RunCall.{Cleared, Pended, comes_with, hands_on, is_cleared, is_idle, stays_so}
use Rattle.task_exports.specs.Answers.{Pends}
use Rattle.task_exports.specs.Parties.{party_in}
use Rattle.std.specs.Prelude.{IfSome, nat_eq}
use Rattle.task_exports.proofs.Crossing.{crossed_end, of_record}
use Rattle.task_exports.specs.Hands.{IsRecordOf}
use Rattle.task_exports.proofs.calls.run.end_pending.Goals as goal

pub end-answer-requires-clause-record : goal.end-answer-requires-clause-record
end-answer-requires-clause-record g c = subst (λ x. IfSome c.async_task_pending.result.brought.hand (λ k. IsRecordOf x k)) (c.lend-bits.ensures.handle.0 ∙ sym c.lend-bits.ensures.handle.1) c.async_task_pending.ensures.record

pub end-answer-requires-clause-there : goal.end-answer-requires-clause-there
end-answer-requires-clause-there g c = comes_with Unit (λ _. Unit) (λ _. Unit) _ _ _ _ c.async_task_pending.ensures.path

pub schedule-requires : goal.schedule-requires
schedule-requires g c = let p = subst (λ r. Pends c.args.h.now.hand c.end-answer.new.h.hand (party_in r) c.end-answer.result.0) c.in-Some.is (crossed_end Pends c.lend-bits.ensures.handle.0 c.end-answer.ensures c.async_task_pending.ensures.path) in let x = hands_on Unit (λ _. Unit) (λ _. Unit) _ _ _ _ p in record { runnable = ((c.end-answer.ensures.1, x.0), x.1) }

pub record-requires-clause-gone : goal.record-requires-clause-gone
record-requires-clause-gone g c = (of_record (IsRecordOf c.lend-bits.result.0.hand) _ _ c.in-Some.ended c.end-answer.ensures.3 c.in-Some.is c.async_task_pending.ensures.record).0

pub record-requires-clause-party : goal.record-requires-clause-party
record-requires-clause-party g c = let p = subst (λ r. Pends c.args.h.now.hand c.end-answer.new.h.hand (party_in r) c.end-answer.result.0) c.in-Some.is (crossed_end Pends c.lend-bits.ensures.handle.0 c.end-answer.ensures c.async_task_pending.ensures.path) in stands _ _ _ _ _ ((hands_on ((a : _) × (r : _) × g.A.Wake.woken a r) g.C.Caller.did g.C.Caller.scheduled _ _ _ _ p).2 c.schedule.ensures.fact).3

pub returns-in-Some : goal.returns-in-Some
returns-in-Some g c = let p = subst (λ r. Pends c.args.h.now.hand c.end-answer.new.h.hand (party_in r) c.end-answer.result.0) c.in-Some.is (crossed_end Pends c.lend-bits.ensures.handle.0 c.end-answer.ensures c.async_task_pending.ensures.path) in subst (λ q. Pended ((a : _) × (r : _) × g.A.Wake.woken a r) g.C.Caller.did g.C.Caller.scheduled (nat_eq c.end-answer.result.0 11) c.args.h.now.hand.party q) (sym c.record.ensures) ((hands_on ((a : _) × (r : _) × g.A.Wake.woken a r) g.C.Caller.did g.C.Caller.scheduled _ _ _ _ p).2 c.schedule.ensures.fact)

pub over-requires-clause-gone : goal.over-requires-clause-gone
over-requires-clause-gone g c = let p = subst (λ r. Pends c.args.h.now.hand c.end-answer.new.h.hand (party_in r) c.end-answer.result.0) c.in-None.is (crossed_end Pends c.lend-bits.ensures.handle.0 c.end-answer.ensures c.async_task_pending.ensures.path) in (is_idle Unit (λ _. Unit) (λ _. Unit) _ _ _ p c.in-1.is).0

pub over-requires-clause-party : goal.over-requires-clause-party
over-requires-clause-party g c = let p = subst (λ r. Pends c.args.h.now.hand c.end-answer.new.h.hand (party_in r) c.end-answer.result.0) c.in-None.is (crossed_end Pends c.lend-bits.ensures.handle.0 c.end-answer.ensures c.async_task_pending.ensures.path) in (is_idle Unit (λ _. Unit) (λ _. Unit) _ _ _ p c.in-1.is).1

pub returns-in-1 : goal.returns-in-1
returns-in-1 g c = let p = subst (λ r. Pends c.args.h.now.hand c.end-answer.new.h.hand (party_in r) c.end-answer.result.0) c.in-None.is (crossed_end Pends c.lend-bits.ensures.handle.0 c.end-answer.ensures c.async_task_pending.ensures.path) in subst (λ q. Pended ((a : _) × (r : _) × g.A.Wake.woken a r) g.C.Caller.did g.C.Caller.scheduled false c.args.h.now.hand.party q) (sym c.over.ensures) (is_idle ((a : _) × (r : _) × g.A.Wake.woken a r) g.C.Caller.did g.C.Caller.scheduled _ _ _ p c.in-1.is).2

pub end_cleared-requires-clause-handle : goal.end_cleared-requires-clause-handle
end_cleared-requires-clause-handle g c = let p = subst (λ r. Pends c.args.h.now.hand c.end-answer.new.h.hand (party_in r) c.end-answer.result.0) c.in-None.is (crossed_end Pends c.lend-bits.ensures.handle.0 c.end-answer.ensures c.async_task_pending.ensures.path) in (c.end-answer.ensures.1, (is_cleared Unit (λ _. Unit) (λ _. Unit) _ _ _ p c.in-4.is).0)

pub end_cleared-requires-clause-party : goal.end_cleared-requires-clause-party
end_cleared-requires-clause-party g c = let p = subst (λ r. Pends c.args.h.now.hand c.end-answer.new.h.hand (party_in r) c.end-answer.result.0) c.in-None.is (crossed_end Pends c.lend-bits.ensures.handle.0 c.end-answer.ensures c.async_task_pending.ensures.path) in (is_cleared Unit (λ _. Unit) (λ _. Unit) _ _ _ p c.in-4.is).1

pub returns-in-4 : goal.returns-in-4
returns-in-4 g c = let p = subst (λ r. Pends c.args.h.now.hand c.end-answer.new.h.hand (party_in r) c.end-answer.result.0) c.in-None.is (crossed_end Pends c.lend-bits.ensures.handle.0 c.end-answer.ensures c.async_task_pending.ensures.path) in stays_so c.end_cleared.result c.stays.result (λ ended. g.C.Caller.did DropFuture × Cleared ((a : _) × (r : _) × g.A.Wake.woken a r) g.C.Caller.did g.C.Caller.scheduled c.end-answer.new.h.hand.party ended.party) (λ call. Pended ((a : _) × (r : _) × g.A.Wake.woken a r) g.C.Caller.did g.C.Caller.scheduled call.0 c.args.h.now.hand.party call.1.party) c.stays.ensures c.end_cleared.ensures (λ ended t. (is_cleared ((a : _) × (r : _) × g.A.Wake.woken a r) g.C.Caller.did g.C.Caller.scheduled _ _ _ p c.in-4.is).2 t.0 ended.party t.1)
