use Rattle.std.proofs.Common.{sym, subst}
use Rattle.std.proofs.lemmas.Option.{IfSome_then}
use Rattle.task_exports.proofs.TaskCall.{Rests, rest_last, rest_over}
use Rattle.task_exports.specs.declared.hand.Record.{Record}
use Rattle.task_exports.proofs.Crossing.{crossed}
use Rattle.task_exports.specs.TaskAnswers.{EndsDetach}
use Rattle.task_exports.proofs.calls.detach.end_unclaimed.Goals as goal

pub over-requires-clause-gone : goal.over-requires-clause-gone
over-requires-clause-gone g c = let p = (crossed EndsDetach c.lend-bits.ensures.handle.0 c.back.ensures c.async_task_detach_dropped.ensures.path) in (rest_over _ _ _ p c.in-1.is).0

pub over-requires-clause-party : goal.over-requires-clause-party
over-requires-clause-party g c = let p = (crossed EndsDetach c.lend-bits.ensures.handle.0 c.back.ensures c.async_task_detach_dropped.ensures.path) in (rest_over _ _ _ p c.in-1.is).1

pub returns-in-1 : goal.returns-in-1
returns-in-1 g c = let p = (crossed EndsDetach c.lend-bits.ensures.handle.0 c.back.ensures c.async_task_detach_dropped.ensures.path) in subst (λ q. Rests c.args.h.now.hand.party q) (sym c.over.ensures) (rest_over _ _ _ p c.in-1.is).2

pub empty-requires-clause-handle : goal.empty-requires-clause-handle
empty-requires-clause-handle g c = let p = (crossed EndsDetach c.lend-bits.ensures.handle.0 c.back.ensures c.async_task_detach_dropped.ensures.path) in (c.back.ensures.1, (rest_last _ _ _ p c.in-9.is).0)

pub empty-requires-clause-party : goal.empty-requires-clause-party
empty-requires-clause-party g c = let p = (crossed EndsDetach c.lend-bits.ensures.handle.0 c.back.ensures c.async_task_detach_dropped.ensures.path) in (rest_last _ _ _ p c.in-9.is).1

pub returns-in-9 : goal.returns-in-9
returns-in-9 g c = let p = (crossed EndsDetach c.lend-bits.ensures.handle.0 c.back.ensures c.async_task_detach_dropped.ensures.path) in IfSome_then c.empty.result c.empty.ensures (λ (ended : Record). λ d. (rest_last _ _ _ p c.in-9.is).2 ended.party d)
