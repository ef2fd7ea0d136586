use Rattle.std.proofs.Common.{[], ◌∷◌, ◌++◌, refl}
use Rattle.std.proofs.lemmas.Option.{IfSome_then}
use Rattle.task_core.specs.declared.acts.Act.TheVariants.{EndCall, EndNotify}
use Rattle.task_cell.proofs.Moved.{did_then, stands}
use Rattle.task_exports.proofs.Crossing.{crossed, crossed_still, full_after}
use Rattle.task_exports.proofs.Told.{poll_taken}
use Rattle.task_exports.proofs.Released.{keeps_on, released_hand, released_none}
use Rattle.task_exports.specs.CallPaths.{nothing_there}
use Rattle.task_laws.specs.declared.positions.NotifyingCall.TheVariants.{OfPoll}
use Rattle.task_laws.specs.declared.positions.Position.TheVariants.{AwaiterInHand}
use Rattle.task_steps.specs.Deeds.{act, row}
use Rattle.task_steps.specs.Standing.{as_task}
use Rattle.task_exports.proofs.calls.poll.shut.Goals as goal

pub returns-in-17-clause-path : goal.returns-in-17-clause-path
returns-in-17-clause-path g c = λ i s. let x = released_none (OfPoll i) [] (act EndCall ∷ []) (as_task i) 17 _ _ _ refl ((crossed poll_taken c.lend-bits.ensures.handle.0 c.back.ensures c.async_task_poll_taken.ensures.path) i s) c.in-17.is in (row EndNotify x.0 ∷ [], nothing_there x.0, x.1)

pub shut_other-requires-clause-handle : goal.shut_other-requires-clause-handle
shut_other-requires-clause-handle g c = let s = c.requires.party in let x = released_hand (OfPoll s.0) [] (act EndCall ∷ []) (as_task s.0) 17 _ _ _ refl ((crossed poll_taken c.lend-bits.ensures.handle.0 c.back.ensures c.async_task_poll_taken.ensures.path) s.0 s.1) c.in-14.is in full_after c.args.h.now c.back.new.h _ _ _ c.requires.handle (crossed_still c.args.h.now c.back.new.h c.lend-bits.ensures.handle.0 c.back.ensures c.async_task_poll_taken.ensures.handle) x.2

pub shut_other-requires-clause-party : goal.shut_other-requires-clause-party
shut_other-requires-clause-party g c = let s = c.requires.party in let x = released_hand (OfPoll s.0) [] (act EndCall ∷ []) (as_task s.0) 17 _ _ _ refl ((crossed poll_taken c.lend-bits.ensures.handle.0 c.back.ensures c.async_task_poll_taken.ensures.path) s.0 s.1) c.in-14.is in (s.0, (x.1, stands _ _ _ _ _ x.2))

pub returns-in-14-clause-handle : goal.returns-in-14-clause-handle
returns-in-14-clause-handle g c = keeps_on c.shut_other.result c.args.h.now c.back.new.h c.shut_other.new.h (crossed_still c.args.h.now c.back.new.h c.lend-bits.ensures.handle.0 c.back.ensures c.async_task_poll_taken.ensures.handle) c.shut_other.ensures.handle

pub returns-in-14-clause-path : goal.returns-in-14-clause-path
returns-in-14-clause-path g c = λ i s. let x = released_hand (OfPoll i) [] (act EndCall ∷ []) (as_task i) 17 _ _ _ refl ((crossed poll_taken c.lend-bits.ensures.handle.0 c.back.ensures c.async_task_poll_taken.ensures.path) i s) c.in-14.is in
    IfSome_then c.shut_other.result (c.shut_other.ensures.path i x.0 (x.1, stands _ _ _ _ _ x.2))
    (λ _ y. (row EndNotify x.0 ∷ y.0, y.1, did_then _ _ _ (row EndNotify x.0 ∷ []) (y.0 ++ act EndCall ∷ []) (AwaiterInHand x.1 (OfPoll i)) (as_task i) [] [] x.2 y.2))
