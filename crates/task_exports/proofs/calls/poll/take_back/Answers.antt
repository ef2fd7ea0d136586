use Rattle.std.proofs.Common.{sym}
use Rattle.task_cell.specs.Calls.{Stands}
use Rattle.task_exports.specs.declared.hand.Hand.{Hand}
use Rattle.std.proofs.Common.{[], ◌∷◌, subst}
use Rattle.task_core.specs.declared.acts.Act.TheVariants.{EndRegisterNotified, WakeAwaiter}
use Rattle.task_cell.proofs.Moved.{did_then, stands}
use Rattle.task_exports.proofs.Crossing.{crossed, crossed_still, full_after, live_of}
use Rattle.task_exports.proofs.Told.{clone_woken, taken_back}
use Rattle.task_exports.proofs.PollCall.{same_held}
use Rattle.task_exports.proofs.Released.{keeps_then}
use Rattle.task_laws.specs.declared.positions.Position.TheVariants.{CloneInHand, Looking}
use Rattle.task_steps.specs.Deeds.{act, row}
use Rattle.task_exports.proofs.calls.poll.take_back.Goals as goal

pub async_task_clone_woken-requires-clause-handle : goal.async_task_clone_woken-requires-clause-handle
async_task_clone_woken-requires-clause-handle g c = let s = c.requires.party in live_of _ _ c.lend-bits-in-Some.ensures.handle.0 (full_after c.args.h.now c.back.new.h _ _ _ c.requires.handle (crossed_still c.args.h.now c.back.new.h c.lend-bits.ensures.handle.0 c.back.ensures c.async_task_taken_back.ensures.handle) ((crossed taken_back c.lend-bits.ensures.handle.0 c.back.ensures c.async_task_taken_back.ensures.path) s.0 s.1 s.2).3).1

pub async_task_clone_woken-requires-clause-party : goal.async_task_clone_woken-requires-clause-party
async_task_clone_woken-requires-clause-party g c = let s = c.requires.party in (s.0, subst (λ (x : Hand). Stands (CloneInHand s.0) x.party) (sym c.lend-bits-in-Some.ensures.handle.0) (stands _ _ _ _ _ ((crossed taken_back c.lend-bits.ensures.handle.0 c.back.ensures c.async_task_taken_back.ensures.path) s.0 s.1 s.2).3))

pub returns-in-Some-clause-handle : goal.returns-in-Some-clause-handle
returns-in-Some-clause-handle g c = keeps_then c.args.h.now c.back.new.h c.back-in-Some.new.h (crossed_still c.args.h.now c.back.new.h c.lend-bits.ensures.handle.0 c.back.ensures c.async_task_taken_back.ensures.handle) (crossed_still c.back.new.h c.back-in-Some.new.h c.lend-bits-in-Some.ensures.handle.0 c.back-in-Some.ensures c.async_task_clone_woken.ensures.handle)

pub returns-in-Some-clause-path : goal.returns-in-Some-clause-path
returns-in-Some-clause-path g c = λ i clone s. let x = (crossed taken_back c.lend-bits.ensures.handle.0 c.back.ensures c.async_task_taken_back.ensures.path) i clone s in let y = (crossed clone_woken c.lend-bits-in-Some.ensures.handle.0 c.back-in-Some.ensures c.async_task_clone_woken.ensures.path) i (stands _ _ _ _ _ x.3) in (
  x.1,
  x.2,
  (λ a put. (c.wake.result, subst (λ b. g.A.Wake.woken b c.wake.result) (same_held _ _ (c.in-Some.ensures.put a put)) c.wake.ensures)),
  (y.0, did_then _ _ _ (row EndRegisterNotified x.1 ∷ []) (act WakeAwaiter ∷ []) (CloneInHand i) (Looking i) [] [] x.3 y.1, y.2),
)
