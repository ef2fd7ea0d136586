-- What a worker takes from its hands is handed out as it is.
use Rattle.std.proofs.Common.{◌≡◌, ℕ, Option, Some, List, [], ◌∷◌, ap, ◌∙◌, subst}
use Rattle.std.specs.declared.alloc.Global.{Global}
use Rattle.task_core.specs.declared.traits.Yields.{Ghosts}
use Rattle.task_cell.specs.declared.runnable.Runnable.{Runnable}
use Rattle.executor.specs.declared.due.DueRunnable.{DueRunnable}
use Rattle.executor.specs.declared.pool.ToPool.{ToPool}
use Rattle.executor.specs.Hands.{ComesFirst}

module _ {R F A M P O K : Type 0} {G : Ghosts F O} where
  pub handed-first : (items after : List (DueRunnable R F A M O G)) (taken : Option (DueRunnable R F A M O G)) (due : DueRunnable R F A M O G) (handed : Runnable R F ToPool M A (P × ℕ) Global O K G)
      → taken ≡ Some due → handed.inner ≡ due.parked.inner → ComesFirst (λ queued taken. taken ≡ queued) items taken after → ComesFirst (λ queued handed. handed.inner ≡ queued.parked.inner) items (Some handed) after
  handed-first [] after taken due handed is same first = tt
  handed-first (queued ∷ behind) after taken due handed is same first =
      let found = subst (λ x. ComesFirst (λ queued taken. taken ≡ queued) (queued ∷ behind) x after) is first in
      (same ∙ ap (λ (x : DueRunnable R F A M O G). x.parked.inner) found.0, found.1)
