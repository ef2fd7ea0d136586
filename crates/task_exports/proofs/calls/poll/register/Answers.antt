use Rattle.std.proofs.Common.{sym, subst}
use Rattle.task_cell.specs.Calls.{Stands}
use Rattle.task_exports.specs.declared.hand.Hand.{Hand}
use Rattle.task_laws.specs.declared.positions.Position.TheVariants.{UnusedClone}
use Rattle.std.proofs.Common.{false, true}
use Rattle.std.proofs.lemmas.Option.{IfSome_then}
use Rattle.task_cell.proofs.Moved.{stands}
use Rattle.task_exports.proofs.Crossing.{crossed, crossed_still, full_after, live_of}
use Rattle.task_exports.proofs.Told.{clone_dropped, register}
use Rattle.task_exports.proofs.PollCall.{found_notifier, stored, storing, woke_caller}
use Rattle.task_exports.proofs.Released.{keeps_on, keeps_then}
use Rattle.task_exports.proofs.calls.poll.register.Goals as goal

pub store-requires-clause-handle : goal.store-requires-clause-handle
store-requires-clause-handle g c = let s = c.requires.party in full_after c.args.h.now c.back.new.h _ _ _ c.requires.handle (crossed_still c.args.h.now c.back.new.h c.lend-bits.ensures.handle.0 c.back.ensures c.async_task_register.ensures.handle) (storing s.0 _ _ false _ ((crossed register c.lend-bits.ensures.handle.0 c.back.ensures c.async_task_register.ensures.path) s.0 s.1) c.in-20.is).6

pub store-requires-clause-party : goal.store-requires-clause-party
store-requires-clause-party g c = let s = c.requires.party in let x = storing s.0 _ _ false _ ((crossed register c.lend-bits.ensures.handle.0 c.back.ensures c.async_task_register.ensures.path) s.0 s.1) c.in-20.is in (s.0, (x.0, x.1, x.2, x.5, stands _ _ _ _ _ x.6))

pub returns-in-20-clause-handle : goal.returns-in-20-clause-handle
returns-in-20-clause-handle g c = keeps_on c.store.result c.args.h.now c.back.new.h c.store.new.h (crossed_still c.args.h.now c.back.new.h c.lend-bits.ensures.handle.0 c.back.ensures c.async_task_register.ensures.handle) c.store.ensures.handle

pub returns-in-20-clause-path : goal.returns-in-20-clause-path
returns-in-20-clause-path g c = λ i s. let x = storing i _ _ false _ ((crossed register c.lend-bits.ensures.handle.0 c.back.ensures c.async_task_register.ensures.path) i s) c.in-20.is in
    IfSome_then c.store.result (c.store.ensures.path i (x.0, x.1, x.2, x.5, stands _ _ _ _ _ x.6))
    (λ a y. stored g.A.Wake.cloned g.A.Wake.woken g.A.Wake.woken_by_ref c.args.awaiter.now g.C.Caller.did i c.args.clone false _ _ _ a c.requires.cloned x c.store.ensures.fact y)

pub store-requires-in-21-clause-handle : goal.store-requires-in-21-clause-handle
store-requires-in-21-clause-handle g c = let s = c.requires.party in full_after c.args.h.now c.back.new.h _ _ _ c.requires.handle (crossed_still c.args.h.now c.back.new.h c.lend-bits.ensures.handle.0 c.back.ensures c.async_task_register.ensures.handle) (storing s.0 _ _ true _ ((crossed register c.lend-bits.ensures.handle.0 c.back.ensures c.async_task_register.ensures.path) s.0 s.1) c.in-21.is).6

pub store-requires-in-21-clause-party : goal.store-requires-in-21-clause-party
store-requires-in-21-clause-party g c = let s = c.requires.party in let x = storing s.0 _ _ true _ ((crossed register c.lend-bits.ensures.handle.0 c.back.ensures c.async_task_register.ensures.path) s.0 s.1) c.in-21.is in (s.0, (x.0, x.1, x.2, x.5, stands _ _ _ _ _ x.6))

pub returns-in-21-clause-handle : goal.returns-in-21-clause-handle
returns-in-21-clause-handle g c = keeps_on c.store-in-21.result c.args.h.now c.back.new.h c.store-in-21.new.h (crossed_still c.args.h.now c.back.new.h c.lend-bits.ensures.handle.0 c.back.ensures c.async_task_register.ensures.handle) c.store-in-21.ensures.handle

pub returns-in-21-clause-path : goal.returns-in-21-clause-path
returns-in-21-clause-path g c = λ i s. let x = storing i _ _ true _ ((crossed register c.lend-bits.ensures.handle.0 c.back.ensures c.async_task_register.ensures.path) i s) c.in-21.is in
    IfSome_then c.store-in-21.result (c.store-in-21.ensures.path i (x.0, x.1, x.2, x.5, stands _ _ _ _ _ x.6))
    (λ a y. stored g.A.Wake.cloned g.A.Wake.woken g.A.Wake.woken_by_ref c.args.awaiter.now g.C.Caller.did i c.args.clone true _ _ _ a c.requires.cloned x c.store-in-21.ensures.fact y)

pub async_task_clone_dropped-requires-clause-handle : goal.async_task_clone_dropped-requires-clause-handle
async_task_clone_dropped-requires-clause-handle g c = let s = c.requires.party in live_of _ _ c.lend-bits-in-22.ensures.handle.0 (full_after c.args.h.now c.back.new.h _ _ _ c.requires.handle (crossed_still c.args.h.now c.back.new.h c.lend-bits.ensures.handle.0 c.back.ensures c.async_task_register.ensures.handle) (found_notifier s.0 _ _ _ ((crossed register c.lend-bits.ensures.handle.0 c.back.ensures c.async_task_register.ensures.path) s.0 s.1) c.in-22.is).2).1

pub async_task_clone_dropped-requires-clause-party : goal.async_task_clone_dropped-requires-clause-party
async_task_clone_dropped-requires-clause-party g c = let s = c.requires.party in (s.0, subst (λ (x : Hand). Stands (UnusedClone s.0) x.party) (sym c.lend-bits-in-22.ensures.handle.0) (stands _ _ _ _ _ (found_notifier s.0 _ _ _ ((crossed register c.lend-bits.ensures.handle.0 c.back.ensures c.async_task_register.ensures.path) s.0 s.1) c.in-22.is).2))

pub returns-in-22-clause-handle : goal.returns-in-22-clause-handle
returns-in-22-clause-handle g c = keeps_then c.args.h.now c.back.new.h c.back-in-22.new.h (crossed_still c.args.h.now c.back.new.h c.lend-bits.ensures.handle.0 c.back.ensures c.async_task_register.ensures.handle) (crossed_still c.back.new.h c.back-in-22.new.h c.lend-bits-in-22.ensures.handle.0 c.back-in-22.ensures c.async_task_clone_dropped.ensures.handle)

pub returns-in-22-clause-path : goal.returns-in-22-clause-path
returns-in-22-clause-path g c = λ i s. let f = found_notifier i _ _ _ ((crossed register c.lend-bits.ensures.handle.0 c.back.ensures c.async_task_register.ensures.path) i s) c.in-22.is in
    woke_caller g.A.Wake.cloned g.A.Wake.woken g.A.Wake.woken_by_ref c.args.awaiter.now g.C.Caller.did i c.args.clone c.wake_by_ref.result _ _ _ _ c.requires.cloned f c.wake_by_ref.ensures ((crossed clone_dropped c.lend-bits-in-22.ensures.handle.0 c.back-in-22.ensures c.async_task_clone_dropped.ensures.path) i (stands _ _ _ _ _ f.2))
