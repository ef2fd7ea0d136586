use Rattle.task_exports.specs.declared.hand.Record.{Record}
use Rattle.std.proofs.Common.{false, sym, subst, ◌∙◌}
use Rattle.std.proofs.lemmas.Option.{IfSome_then}
use Rattle.task_cell.proofs.Moved.{stands}
use Rattle.task_cell.specs.WakerPaths.{WakerDropPath}
use Rattle.task_exports.proofs.DetachCall.{Goes, waker_comes_with, waker_hands_on, waker_last, waker_over}
use Rattle.task_exports.specs.Answers.{DropsWaker}
use Rattle.task_exports.specs.Parties.{party_in}
use Rattle.std.specs.Prelude.{IfSome}
use Rattle.task_exports.proofs.Crossing.{crossed_end, of_record}
use Rattle.task_exports.specs.Hands.{IsRecordOf}
use Rattle.task_exports.proofs.calls.detach.drop_waker.Goals as goal

pub end-answer-requires-clause-record : goal.end-answer-requires-clause-record
end-answer-requires-clause-record g c = subst (λ x. IfSome c.async_task_drop_waker.result.brought.hand (λ k. IsRecordOf x k)) (c.lend-bits.ensures.handle.0 ∙ sym c.lend-bits.ensures.handle.1) c.async_task_drop_waker.ensures.record

pub end-answer-requires-clause-there : goal.end-answer-requires-clause-there
end-answer-requires-clause-there g c = waker_comes_with _ _ Unit _ _ c.async_task_drop_waker.ensures.path

pub schedule-requires : goal.schedule-requires
schedule-requires g c = let x = waker_hands_on _ _ Unit _ _ (subst (λ r. DropsWaker c.args.h.now.hand c.end-answer.new.h.hand (party_in r) c.end-answer.result.0) c.in-Some.is (crossed_end DropsWaker c.lend-bits.ensures.handle.0 c.end-answer.ensures c.async_task_drop_waker.ensures.path)) in record { runnable = ((c.end-answer.ensures.1, x.0), x.1) }

pub record-requires-clause-gone : goal.record-requires-clause-gone
record-requires-clause-gone g c = (of_record (IsRecordOf c.lend-bits.result.0.hand) _ _ c.in-Some.ended c.end-answer.ensures.3 c.in-Some.is c.async_task_drop_waker.ensures.record).0

pub record-requires-clause-party : goal.record-requires-clause-party
record-requires-clause-party g c = stands _ _ _ _ _ ((waker_hands_on _ _ (g.C.Caller.scheduled false) _ _ (subst (λ r. DropsWaker c.args.h.now.hand c.end-answer.new.h.hand (party_in r) c.end-answer.result.0) c.in-Some.is (crossed_end DropsWaker c.lend-bits.ensures.handle.0 c.end-answer.ensures c.async_task_drop_waker.ensures.path))).2 c.schedule.ensures.fact).2

pub returns-in-Some : goal.returns-in-Some
returns-in-Some g c = record { path = subst (λ q. Goes (WakerDropPath (g.C.Caller.scheduled false)) c.args.h.now.hand.party q) (sym c.record.ensures) ((waker_hands_on _ _ (g.C.Caller.scheduled false) _ _ (subst (λ r. DropsWaker c.args.h.now.hand c.end-answer.new.h.hand (party_in r) c.end-answer.result.0) c.in-Some.is (crossed_end DropsWaker c.lend-bits.ensures.handle.0 c.end-answer.ensures c.async_task_drop_waker.ensures.path))).2 c.schedule.ensures.fact) }

pub over-requires-clause-gone : goal.over-requires-clause-gone
over-requires-clause-gone g c = (waker_over _ _ Unit _ (subst (λ r. DropsWaker c.args.h.now.hand c.end-answer.new.h.hand (party_in r) c.end-answer.result.0) c.in-None.is (crossed_end DropsWaker c.lend-bits.ensures.handle.0 c.end-answer.ensures c.async_task_drop_waker.ensures.path)) c.in-1.is).0

pub over-requires-clause-party : goal.over-requires-clause-party
over-requires-clause-party g c = (waker_over _ _ Unit _ (subst (λ r. DropsWaker c.args.h.now.hand c.end-answer.new.h.hand (party_in r) c.end-answer.result.0) c.in-None.is (crossed_end DropsWaker c.lend-bits.ensures.handle.0 c.end-answer.ensures c.async_task_drop_waker.ensures.path)) c.in-1.is).1

pub returns-in-1 : goal.returns-in-1
returns-in-1 g c = record { path = subst (λ q. Goes (WakerDropPath (g.C.Caller.scheduled false)) c.args.h.now.hand.party q) (sym c.over.ensures) (waker_over _ _ (g.C.Caller.scheduled false) _ (subst (λ r. DropsWaker c.args.h.now.hand c.end-answer.new.h.hand (party_in r) c.end-answer.result.0) c.in-None.is (crossed_end DropsWaker c.lend-bits.ensures.handle.0 c.end-answer.ensures c.async_task_drop_waker.ensures.path)) c.in-1.is).2 }

pub empty-requires-clause-party : goal.empty-requires-clause-party
empty-requires-clause-party g c = (waker_last _ _ Unit _ (subst (λ r. DropsWaker c.args.h.now.hand c.end-answer.new.h.hand (party_in r) c.end-answer.result.0) c.in-None.is (crossed_end DropsWaker c.lend-bits.ensures.handle.0 c.end-answer.ensures c.async_task_drop_waker.ensures.path)) c.in-9.is).1

pub returns-in-9 : goal.returns-in-9
returns-in-9 g c = record { path = IfSome_then c.empty.result c.empty.ensures (λ (ended : Record). λ d. (waker_last _ _ (g.C.Caller.scheduled false) _ (subst (λ r. DropsWaker c.args.h.now.hand c.end-answer.new.h.hand (party_in r) c.end-answer.result.0) c.in-None.is (crossed_end DropsWaker c.lend-bits.ensures.handle.0 c.end-answer.ensures c.async_task_drop_waker.ensures.path)) c.in-9.is).2 ended.party d) }
