use Rattle.task_cell.proofs.Vocabulary.{[], ◌∷◌, subst, sym, FutureGone, DroppedRunnable, DropFuture, Deed, DidWith, act, work_first}
use Rattle.task_cell.specs.RunPaths.{DiscardStart}
use Rattle.task_exports.specs.Hands.{IsLive}
use Rattle.task_exports.specs.declared.hand.Hand.{Hand}
use Rattle.task_exports.proofs.Along.{along}
use Rattle.task_exports.proofs.discard.async_task_discard.Goals as goal

pub returns-clause-handle : goal.returns-clause-handle
returns-clause-handle c = (c.put.ensures.1, subst (λ (x : Hand). IsLive x) (sym c.put.ensures.0) c.discard-hand.ensures.hand)

pub returns-clause-path : goal.returns-clause-path
returns-clause-path c = along (λ x k. (d : Deed) × (y : _) × DiscardStart d × DidWith (d ∷ act DropFuture ∷ []) (FutureGone DroppedRunnable) (work_first y []) x.party k.party) _ _ _ _ c.take.ensures.0 c.put.ensures.0 c.discard-hand.ensures.path
