use Rattle.std.proofs.Common.{false, refl, true}
use Rattle.std.proofs.lemmas.Option.{IfSome_then}
use Rattle.task_cell.proofs.Moved.{stands}
use Rattle.task_exports.proofs.CancelCall.{closes_taken, closes_taking, handed, hands_due, hands_now, has_none, has_runnable, over_at_once}
use Rattle.task_exports.proofs.Crossing.{full_after}
use Rattle.task_exports.proofs.Released.{at_taken, keeps_on}
use Rattle.task_exports.proofs.calls.cancel.cancel.Goals as goal

pub returns-in-12-clause-path : goal.returns-in-12-clause-path
returns-in-12-clause-path g c = λ n s. over_at_once ((a : _) × (r : _) × g.A.Wake.woken a r) n (g.C.Caller.scheduled false) _ _ _ (c.async_task_cancel.ensures.path n s) c.in-12.is

pub end_taken-requires-clause-handle : goal.end_taken-requires-clause-handle
end_taken-requires-clause-handle g c = let s = c.requires.party in full_after c.args.h.now c.async_task_cancel.new.h _ _ _ c.requires.handle c.async_task_cancel.ensures.handle (closes_taking Unit s.0 Unit _ _ _ (c.async_task_cancel.ensures.path s.0 s.1) c.in-7.is).3.5

pub end_taken-requires-clause-party : goal.end_taken-requires-clause-party
end_taken-requires-clause-party g c = let s = c.requires.party in (s.0, at_taken _ _ _ _ _ (closes_taking Unit s.0 Unit _ _ _ (c.async_task_cancel.ensures.path s.0 s.1) c.in-7.is).3)

pub returns-in-7-clause-handle : goal.returns-in-7-clause-handle
returns-in-7-clause-handle g c = keeps_on c.end_taken.result c.args.h.now c.async_task_cancel.new.h c.end_taken.new.h c.async_task_cancel.ensures.handle c.end_taken.ensures.handle

pub returns-in-7-clause-path : goal.returns-in-7-clause-path
returns-in-7-clause-path g c = λ n s. let x = closes_taking Unit n Unit _ _ _ (c.async_task_cancel.ensures.path n s) c.in-7.is in
    IfSome_then c.end_taken.result (c.end_taken.ensures.path n (at_taken _ _ _ _ _ x.3)) (λ _ y. closes_taken ((a : _) × (r : _) × g.A.Wake.woken a r) n (g.C.Caller.scheduled false) _ _ _ x y)

pub returns-in-12-clause-room : goal.returns-in-12-clause-room
returns-in-12-clause-room g c = has_none _ 12 _ _ refl c.async_task_cancel.ensures.runnable c.in-12.is

pub returns-in-7-clause-room : goal.returns-in-7-clause-room
returns-in-7-clause-room g c = IfSome_then c.end_taken.result c.end_taken.ensures.handle (λ _ _. has_none _ 7 _ _ refl c.async_task_cancel.ensures.runnable c.in-7.is)

pub schedule-requires : goal.schedule-requires
schedule-requires g c = record { runnable = has_runnable _ 10 _ _ refl c.async_task_cancel.ensures.runnable c.in-10.is }

pub go_on-requires-clause-handle : goal.go_on-requires-clause-handle
go_on-requires-clause-handle g c = let s = c.requires.party in full_after c.args.h.now c.async_task_cancel.new.h _ _ _ c.requires.handle c.async_task_cancel.ensures.handle (hands_now Unit s.0 Unit _ _ _ (c.async_task_cancel.ensures.path s.0 s.1) c.in-10.is).3

pub go_on-requires-clause-party : goal.go_on-requires-clause-party
go_on-requires-clause-party g c = let s = c.requires.party in (s.0, stands _ _ _ _ _ (hands_now Unit s.0 Unit _ _ _ (c.async_task_cancel.ensures.path s.0 s.1) c.in-10.is).3)

pub returns-in-10-clause-handle : goal.returns-in-10-clause-handle
returns-in-10-clause-handle g c = keeps_on c.go_on.result c.args.h.now c.async_task_cancel.new.h c.go_on.new.h c.async_task_cancel.ensures.handle c.go_on.ensures.handle

pub returns-in-10-clause-room : goal.returns-in-10-clause-room
returns-in-10-clause-room g c = IfSome_then c.go_on.result c.go_on.ensures.handle (λ _ _. c.schedule.ensures.room)

pub returns-in-10-clause-path : goal.returns-in-10-clause-path
returns-in-10-clause-path g c = λ n s. let x = hands_now Unit n Unit _ _ _ (c.async_task_cancel.ensures.path n s) c.in-10.is in
    IfSome_then c.go_on.result (c.go_on.ensures.path n (stands _ _ _ _ _ x.3)) (λ _ y. handed ((a : _) × (r : _) × g.A.Wake.woken a r) n (g.C.Caller.scheduled false) false _ _ _ x c.schedule.ensures.fact y)

pub schedule-requires-in-25 : goal.schedule-requires-in-25
schedule-requires-in-25 g c = record { runnable = has_runnable _ 25 _ _ refl c.async_task_cancel.ensures.runnable c.in-25.is }

pub go_on-requires-in-25-clause-handle : goal.go_on-requires-in-25-clause-handle
go_on-requires-in-25-clause-handle g c = let s = c.requires.party in full_after c.args.h.now c.async_task_cancel.new.h _ _ _ c.requires.handle c.async_task_cancel.ensures.handle (hands_due Unit s.0 Unit _ _ _ (c.async_task_cancel.ensures.path s.0 s.1) c.in-25.is).3

pub go_on-requires-in-25-clause-party : goal.go_on-requires-in-25-clause-party
go_on-requires-in-25-clause-party g c = let s = c.requires.party in (s.0, stands _ _ _ _ _ (hands_due Unit s.0 Unit _ _ _ (c.async_task_cancel.ensures.path s.0 s.1) c.in-25.is).3)

pub returns-in-25-clause-handle : goal.returns-in-25-clause-handle
returns-in-25-clause-handle g c = keeps_on c.go_on-in-25.result c.args.h.now c.async_task_cancel.new.h c.go_on-in-25.new.h c.async_task_cancel.ensures.handle c.go_on-in-25.ensures.handle

pub returns-in-25-clause-room : goal.returns-in-25-clause-room
returns-in-25-clause-room g c = IfSome_then c.go_on-in-25.result c.go_on-in-25.ensures.handle (λ _ _. c.schedule-in-25.ensures.room)

pub returns-in-25-clause-path : goal.returns-in-25-clause-path
returns-in-25-clause-path g c = λ n s. let x = hands_due Unit n Unit _ _ _ (c.async_task_cancel.ensures.path n s) c.in-25.is in
    IfSome_then c.go_on-in-25.result (c.go_on-in-25.ensures.path n (stands _ _ _ _ _ x.3)) (λ _ y. handed ((a : _) × (r : _) × g.A.Wake.woken a r) n (g.C.Caller.scheduled false) true _ _ _ x c.schedule-in-25.ensures.fact y)
