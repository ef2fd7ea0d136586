use Rattle.std.proofs.lemmas.Option.{IfSome_then}
use Rattle.task_cell.proofs.Moved.{stands}
use Rattle.task_exports.proofs.CancelCall.{has_taken, nothing_taken, woke_taken}
use Rattle.task_exports.proofs.Crossing.{full_after}
use Rattle.task_exports.proofs.Released.{keeps_on}
use Rattle.task_exports.proofs.calls.cancel.end_taken.Goals as goal

pub returns-in-12-clause-path : goal.returns-in-12-clause-path
returns-in-12-clause-path g c = λ n s. nothing_taken ((a : _) × (r : _) × g.A.Wake.woken a r) n _ _ _ (c.async_task_cancel_taken.ensures.path n s) c.in-12.is

pub wake_taken-requires-clause-handle : goal.wake_taken-requires-clause-handle
wake_taken-requires-clause-handle g c = let s = c.requires.party in full_after c.args.h.now c.async_task_cancel_taken.new.h _ _ _ c.requires.handle c.async_task_cancel_taken.ensures.handle (has_taken Unit s.0 _ _ _ (c.async_task_cancel_taken.ensures.path s.0 s.1) c.in-14.is).2

pub wake_taken-requires-clause-party : goal.wake_taken-requires-clause-party
wake_taken-requires-clause-party g c = let s = c.requires.party in let x = has_taken Unit s.0 _ _ _ (c.async_task_cancel_taken.ensures.path s.0 s.1) c.in-14.is in (s.0, (x.1, stands _ _ _ _ _ x.2))

pub returns-in-14-clause-handle : goal.returns-in-14-clause-handle
returns-in-14-clause-handle g c = keeps_on c.wake_taken.result c.args.h.now c.async_task_cancel_taken.new.h c.wake_taken.new.h c.async_task_cancel_taken.ensures.handle c.wake_taken.ensures.handle

pub returns-in-14-clause-path : goal.returns-in-14-clause-path
returns-in-14-clause-path g c = λ n s. let x = has_taken Unit n _ _ _ (c.async_task_cancel_taken.ensures.path n s) c.in-14.is in
    IfSome_then c.wake_taken.result (c.wake_taken.ensures.path n (x.1, stands _ _ _ _ _ x.2)) (λ _ y. woke_taken ((a : _) × (r : _) × g.A.Wake.woken a r) n _ _ _ x y)
