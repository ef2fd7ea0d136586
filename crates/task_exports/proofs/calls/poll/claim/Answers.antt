use Rattle.std.proofs.Common.{[], ◌∷◌, refl}
use Rattle.std.proofs.lemmas.Option.{IfSome_then}
use Rattle.task_core.specs.declared.acts.Act.TheVariants.{EndNotify}
use Rattle.task_cell.proofs.Moved.{did_then, stands}
use Rattle.task_exports.proofs.Crossing.{crossed, crossed_still, full_after}
use Rattle.task_exports.proofs.Told.{claim_taken}
use Rattle.task_exports.proofs.Released.{keeps_on, released_hand, released_none}
use Rattle.task_exports.specs.CallPaths.{nothing_there}
use Rattle.task_laws.specs.declared.positions.NotifyingCall.TheVariants.{OfClaim}
use Rattle.task_laws.specs.declared.positions.Position.TheVariants.{AwaiterInHand, TookOutput}
use Rattle.task_steps.specs.Deeds.{row}
use Rattle.task_steps.specs.Steps.{work_first}
use Rattle.task_exports.proofs.calls.poll.claim.Goals as goal

pub returns-in-16-clause-path : goal.returns-in-16-clause-path
returns-in-16-clause-path g c = λ i z s. let x = released_none (OfClaim i) (work_first z []) [] (TookOutput i) 16 _ _ _ refl ((crossed claim_taken c.lend-bits.ensures.handle.0 c.back.ensures c.async_task_claim_taken.ensures.path) i z s) c.in-16.is in (row EndNotify x.0 ∷ [], nothing_there x.0, x.1)

pub claim_other-requires-clause-handle : goal.claim_other-requires-clause-handle
claim_other-requires-clause-handle g c = let s = c.requires.party in let x = released_hand (OfClaim s.0) (work_first s.1 []) [] (TookOutput s.0) 16 _ _ _ refl ((crossed claim_taken c.lend-bits.ensures.handle.0 c.back.ensures c.async_task_claim_taken.ensures.path) s.0 s.1 s.2) c.in-14.is in full_after c.args.h.now c.back.new.h _ _ _ c.requires.handle (crossed_still c.args.h.now c.back.new.h c.lend-bits.ensures.handle.0 c.back.ensures c.async_task_claim_taken.ensures.handle) x.2

pub claim_other-requires-clause-party : goal.claim_other-requires-clause-party
claim_other-requires-clause-party g c = let s = c.requires.party in let x = released_hand (OfClaim s.0) (work_first s.1 []) [] (TookOutput s.0) 16 _ _ _ refl ((crossed claim_taken c.lend-bits.ensures.handle.0 c.back.ensures c.async_task_claim_taken.ensures.path) s.0 s.1 s.2) c.in-14.is in (s.0, s.1, (s.2.0, (x.1, stands _ _ _ _ _ x.2)))

pub returns-in-14-clause-handle : goal.returns-in-14-clause-handle
returns-in-14-clause-handle g c = keeps_on c.claim_other.result c.args.h.now c.back.new.h c.claim_other.new.h (crossed_still c.args.h.now c.back.new.h c.lend-bits.ensures.handle.0 c.back.ensures c.async_task_claim_taken.ensures.handle) c.claim_other.ensures.handle

pub returns-in-14-clause-path : goal.returns-in-14-clause-path
returns-in-14-clause-path g c = λ i z s. let x = released_hand (OfClaim i) (work_first z []) [] (TookOutput i) 16 _ _ _ refl ((crossed claim_taken c.lend-bits.ensures.handle.0 c.back.ensures c.async_task_claim_taken.ensures.path) i z s) c.in-14.is in
    IfSome_then c.claim_other.result (c.claim_other.ensures.path i z x.0 (s.0, (x.1, stands _ _ _ _ _ x.2)))
    (λ _ y. (row EndNotify x.0 ∷ y.0, y.1, did_then _ _ _ (row EndNotify x.0 ∷ []) y.0 (AwaiterInHand x.1 (OfClaim i)) (TookOutput i) (work_first z []) (work_first z []) x.2 y.2))
