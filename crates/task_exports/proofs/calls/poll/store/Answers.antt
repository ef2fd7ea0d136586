use Rattle.std.specs.Prelude.{nat_eq}
use Rattle.std.proofs.lemmas.Option.{IfSome_then}
use Rattle.task_cell.proofs.Moved.{stands}
use Rattle.task_exports.proofs.Crossing.{crossed, crossed_still, full_after}
use Rattle.task_exports.proofs.Told.{registered}
use Rattle.task_exports.proofs.PollCall.{looked_so, taking_back, took_back}
use Rattle.task_exports.proofs.Released.{keeps_on}
use Rattle.task_exports.proofs.calls.poll.store.Goals as goal

pub take_back-requires-clause-handle : goal.take_back-requires-clause-handle
take_back-requires-clause-handle g c = let s = c.requires.party in full_after c.args.h.now c.back-answer.new.h _ _ _ c.requires.handle (crossed_still c.args.h.now c.back-answer.new.h c.lend-bits.ensures.handle.0 c.back-answer.ensures c.async_task_registered.ensures.handle) (taking_back s.0 _ _ (nat_eq c.args.old 1) _ ((crossed (registered c.args.old) c.lend-bits.ensures.handle.0 c.back-answer.ensures c.async_task_registered.ensures.path) s.0 s.1) c.in-23.is).1

pub take_back-requires-clause-party : goal.take_back-requires-clause-party
take_back-requires-clause-party g c = let s = c.requires.party in let t = taking_back s.0 _ _ (nat_eq c.args.old 1) _ ((crossed (registered c.args.old) c.lend-bits.ensures.handle.0 c.back-answer.ensures c.async_task_registered.ensures.path) s.0 s.1) c.in-23.is in (s.0, t.0, stands _ _ _ _ _ t.1)

pub returns-in-23-clause-handle : goal.returns-in-23-clause-handle
returns-in-23-clause-handle g c = keeps_on c.take_back.result c.args.h.now c.back-answer.new.h c.take_back.new.h (crossed_still c.args.h.now c.back-answer.new.h c.lend-bits.ensures.handle.0 c.back-answer.ensures c.async_task_registered.ensures.handle) c.take_back.ensures.handle

pub returns-in-23-clause-path : goal.returns-in-23-clause-path
returns-in-23-clause-path g c = λ i s. let t = taking_back i _ _ (nat_eq c.args.old 1) _ ((crossed (registered c.args.old) c.lend-bits.ensures.handle.0 c.back-answer.ensures c.async_task_registered.ensures.path) i s) c.in-23.is in
    IfSome_then c.take_back.result (c.take_back.ensures.path i t.0 (stands _ _ _ _ _ t.1)) (λ a y. took_back i g.A.Wake.woken c.args.clone (nat_eq c.args.old 1) _ _ _ a t (y.0, y.1, y.2 c.args.clone c.store_awaiter.ensures.put, y.3))

pub returns-in_default-clause-handle : goal.returns-in_default-clause-handle
returns-in_default-clause-handle g c = IfSome_then c.looked.result c.looked.ensures (λ _ _. (crossed_still c.args.h.now c.back-answer.new.h c.lend-bits.ensures.handle.0 c.back-answer.ensures c.async_task_registered.ensures.handle))

pub returns-in_default-clause-path : goal.returns-in_default-clause-path
returns-in_default-clause-path g c = λ i s. IfSome_then c.looked.result c.looked.ensures (λ r e. looked_so i _ _ g.A.Wake.woken c.args.clone (nat_eq c.args.old 1) _ r ((crossed (registered c.args.old) c.lend-bits.ensures.handle.0 c.back-answer.ensures c.async_task_registered.ensures.path) i s) e)
