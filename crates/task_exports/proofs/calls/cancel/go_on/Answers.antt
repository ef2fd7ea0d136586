use Rattle.std.proofs.lemmas.Option.{IfSome_then}
use Rattle.task_exports.proofs.CancelCall.{goes_past, goes_taken, goes_taking}
use Rattle.task_exports.proofs.Crossing.{full_after}
use Rattle.task_exports.proofs.Released.{at_taken, keeps_on}
use Rattle.task_exports.proofs.calls.cancel.go_on.Goals as goal

pub returns-in-12-clause-path : goal.returns-in-12-clause-path
returns-in-12-clause-path g c = λ n s. goes_past ((a : _) × (r : _) × g.A.Wake.woken a r) n _ _ _ _ (c.async_task_cancel_scheduled.ensures.path n s) c.in-12.is

pub end_taken-requires-clause-handle : goal.end_taken-requires-clause-handle
end_taken-requires-clause-handle g c = let s = c.requires.party in full_after c.args.h.now c.async_task_cancel_scheduled.new.h _ _ _ c.requires.handle c.async_task_cancel_scheduled.ensures.handle (goes_taking Unit s.0 _ _ _ _ (c.async_task_cancel_scheduled.ensures.path s.0 s.1) c.in-7.is).1.5

pub end_taken-requires-clause-party : goal.end_taken-requires-clause-party
end_taken-requires-clause-party g c = let s = c.requires.party in (s.0, at_taken _ _ _ _ _ (goes_taking Unit s.0 _ _ _ _ (c.async_task_cancel_scheduled.ensures.path s.0 s.1) c.in-7.is).1)

pub returns-in-7-clause-handle : goal.returns-in-7-clause-handle
returns-in-7-clause-handle g c = keeps_on c.end_taken.result c.args.h.now c.async_task_cancel_scheduled.new.h c.end_taken.new.h c.async_task_cancel_scheduled.ensures.handle c.end_taken.ensures.handle

pub returns-in-7-clause-path : goal.returns-in-7-clause-path
returns-in-7-clause-path g c = λ n s. let x = goes_taking Unit n _ _ _ _ (c.async_task_cancel_scheduled.ensures.path n s) c.in-7.is in
    IfSome_then c.end_taken.result (c.end_taken.ensures.path n (at_taken _ _ _ _ _ x.1)) (λ _ y. goes_taken ((a : _) × (r : _) × g.A.Wake.woken a r) n _ _ _ _ x y)
