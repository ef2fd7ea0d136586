use Rattle.std.proofs.Common.{false, sym, subst, ◌∙◌}
use Rattle.task_cell.proofs.Moved.{stands}
use Rattle.std.proofs.lemmas.Option.{IfSome_then}
use Rattle.task_exports.proofs.TaskCall.{Detached, detach_comes_with, detach_hands_on, detach_last, detach_over, detach_unclaimed}
use Rattle.task_exports.specs.Parties.{party_in}
use Rattle.task_exports.specs.TaskAnswers.{Detaches}
use Rattle.task_exports.specs.declared.hand.Record.{Record}
use Rattle.std.specs.Prelude.{IfSome}
use Rattle.task_exports.proofs.Crossing.{crossed_end, of_record}
use Rattle.task_exports.specs.Hands.{IsRecordOf}
use Rattle.task_exports.proofs.calls.detach.detach.Goals as goal

pub end-answer-requires-clause-record : goal.end-answer-requires-clause-record
end-answer-requires-clause-record g c = subst (λ x. IfSome c.async_task_detach.result.brought.hand (λ k. IsRecordOf x k)) (c.lend-bits.ensures.handle.0 ∙ sym c.lend-bits.ensures.handle.1) c.async_task_detach.ensures.record

pub end-answer-requires-clause-there : goal.end-answer-requires-clause-there
end-answer-requires-clause-there g c = detach_comes_with Unit (λ _. Unit) _ _ _ _ c.async_task_detach.ensures.path

pub schedule-requires : goal.schedule-requires
schedule-requires g c = let p = subst (λ r. Detaches c.args.h.now.hand c.end-answer.new.h.hand (party_in r) c.end-answer.result.0) c.in-Some.is (crossed_end Detaches c.lend-bits.ensures.handle.0 c.end-answer.ensures c.async_task_detach.ensures.path) in let x = detach_hands_on Unit (λ _. Unit) _ _ _ _ p in record { runnable = ((c.end-answer.ensures.1, x.0), x.1) }

pub record-requires-clause-gone : goal.record-requires-clause-gone
record-requires-clause-gone g c = (of_record (IsRecordOf c.lend-bits.result.0.hand) _ _ c.in-Some.ended c.end-answer.ensures.3 c.in-Some.is c.async_task_detach.ensures.record).0

pub record-requires-clause-party : goal.record-requires-clause-party
record-requires-clause-party g c = let p = subst (λ r. Detaches c.args.h.now.hand c.end-answer.new.h.hand (party_in r) c.end-answer.result.0) c.in-Some.is (crossed_end Detaches c.lend-bits.ensures.handle.0 c.end-answer.ensures c.async_task_detach.ensures.path) in stands _ _ _ _ _ ((detach_hands_on (g.C.Caller.scheduled false) g.C.Caller.did _ _ _ _ p).2 c.schedule.ensures.fact).3

pub returns-in-Some : goal.returns-in-Some
returns-in-Some g c = let p = subst (λ r. Detaches c.args.h.now.hand c.end-answer.new.h.hand (party_in r) c.end-answer.result.0) c.in-Some.is (crossed_end Detaches c.lend-bits.ensures.handle.0 c.end-answer.ensures c.async_task_detach.ensures.path) in subst (λ q. Detached (g.C.Caller.scheduled false) g.C.Caller.did c.args.h.now.hand.party q) (sym c.record.ensures) ((detach_hands_on (g.C.Caller.scheduled false) g.C.Caller.did _ _ _ _ p).2 c.schedule.ensures.fact)

pub over-requires-clause-gone : goal.over-requires-clause-gone
over-requires-clause-gone g c = let p = subst (λ r. Detaches c.args.h.now.hand c.end-answer.new.h.hand (party_in r) c.end-answer.result.0) c.in-None.is (crossed_end Detaches c.lend-bits.ensures.handle.0 c.end-answer.ensures c.async_task_detach.ensures.path) in (detach_over Unit (λ _. Unit) _ _ _ p c.in-1.is).0

pub over-requires-clause-party : goal.over-requires-clause-party
over-requires-clause-party g c = let p = subst (λ r. Detaches c.args.h.now.hand c.end-answer.new.h.hand (party_in r) c.end-answer.result.0) c.in-None.is (crossed_end Detaches c.lend-bits.ensures.handle.0 c.end-answer.ensures c.async_task_detach.ensures.path) in (detach_over Unit (λ _. Unit) _ _ _ p c.in-1.is).1

pub returns-in-1 : goal.returns-in-1
returns-in-1 g c = let p = subst (λ r. Detaches c.args.h.now.hand c.end-answer.new.h.hand (party_in r) c.end-answer.result.0) c.in-None.is (crossed_end Detaches c.lend-bits.ensures.handle.0 c.end-answer.ensures c.async_task_detach.ensures.path) in subst (λ q. Detached (g.C.Caller.scheduled false) g.C.Caller.did c.args.h.now.hand.party q) (sym c.over.ensures) (detach_over (g.C.Caller.scheduled false) g.C.Caller.did _ _ _ p c.in-1.is).2

pub empty-requires-clause-handle : goal.empty-requires-clause-handle
empty-requires-clause-handle g c = let p = subst (λ r. Detaches c.args.h.now.hand c.end-answer.new.h.hand (party_in r) c.end-answer.result.0) c.in-None.is (crossed_end Detaches c.lend-bits.ensures.handle.0 c.end-answer.ensures c.async_task_detach.ensures.path) in (c.end-answer.ensures.1, (detach_last Unit (λ _. Unit) _ _ _ p c.in-9.is).0)

pub empty-requires-clause-party : goal.empty-requires-clause-party
empty-requires-clause-party g c = let p = subst (λ r. Detaches c.args.h.now.hand c.end-answer.new.h.hand (party_in r) c.end-answer.result.0) c.in-None.is (crossed_end Detaches c.lend-bits.ensures.handle.0 c.end-answer.ensures c.async_task_detach.ensures.path) in (detach_last Unit (λ _. Unit) _ _ _ p c.in-9.is).1

pub returns-in-9 : goal.returns-in-9
returns-in-9 g c = let p = subst (λ r. Detaches c.args.h.now.hand c.end-answer.new.h.hand (party_in r) c.end-answer.result.0) c.in-None.is (crossed_end Detaches c.lend-bits.ensures.handle.0 c.end-answer.ensures c.async_task_detach.ensures.path) in IfSome_then c.empty.result c.empty.ensures (λ (ended : Record). λ d. (detach_last (g.C.Caller.scheduled false) g.C.Caller.did _ _ _ p c.in-9.is).2 ended.party d)

pub drop_unclaimed-requires-clause-handle : goal.drop_unclaimed-requires-clause-handle
drop_unclaimed-requires-clause-handle g c = let p = subst (λ r. Detaches c.args.h.now.hand c.end-answer.new.h.hand (party_in r) c.end-answer.result.0) c.in-None.is (crossed_end Detaches c.lend-bits.ensures.handle.0 c.end-answer.ensures c.async_task_detach.ensures.path) in (c.end-answer.ensures.1, (detach_unclaimed Unit (λ _. Unit) _ _ _ p c.in-5.is).0)

pub drop_unclaimed-requires-clause-party : goal.drop_unclaimed-requires-clause-party
drop_unclaimed-requires-clause-party g c = let p = subst (λ r. Detaches c.args.h.now.hand c.end-answer.new.h.hand (party_in r) c.end-answer.result.0) c.in-None.is (crossed_end Detaches c.lend-bits.ensures.handle.0 c.end-answer.ensures c.async_task_detach.ensures.path) in (detach_unclaimed Unit (λ _. Unit) _ _ _ p c.in-5.is).1

pub drop_unclaimed-requires-clause-closed : goal.drop_unclaimed-requires-clause-closed
drop_unclaimed-requires-clause-closed g c = let p = subst (λ r. Detaches c.args.h.now.hand c.end-answer.new.h.hand (party_in r) c.end-answer.result.0) c.in-None.is (crossed_end Detaches c.lend-bits.ensures.handle.0 c.end-answer.ensures c.async_task_detach.ensures.path) in (detach_unclaimed Unit (λ _. Unit) _ _ _ p c.in-5.is).2

pub returns-in-5 : goal.returns-in-5
returns-in-5 g c = let p = subst (λ r. Detaches c.args.h.now.hand c.end-answer.new.h.hand (party_in r) c.end-answer.result.0) c.in-None.is (crossed_end Detaches c.lend-bits.ensures.handle.0 c.end-answer.ensures c.async_task_detach.ensures.path) in IfSome_then c.drop_unclaimed.result c.drop_unclaimed.ensures (λ (ended : Record). λ t. (detach_unclaimed (g.C.Caller.scheduled false) g.C.Caller.did _ _ _ p c.in-5.is).3 t.0 ended.party t.1)
