use Rattle.std.specs.Prelude.{◌≡◌, ℕ, List, [], ◌∷◌, Option, IfSome, IsNone, IsSome, IsSomeAnd, ⊤}
use Rattle.std.specs.declared.alloc.Global.{Global}
use Rattle.task_core.specs.declared.traits.Yields.{Ghosts}
use Rattle.task_cell.specs.declared.runnable.Runnable.{Runnable}
use Rattle.work_queues.specs.declared.crew.worker.Worker.{Worker}
use Rattle.work_queues.specs.Settled.{OwesNothing}
use Rattle.executor.specs.declared.due.DueRunnable.{DueRunnable}
use Rattle.executor.specs.declared.pool.ToPool.{ToPool}

module _ {T U : Type 0} where
  -- what is first in the hands of a worker is taken, and what is behind it stays
  abbrev pub ComesFirst : (T → U → Type 0) → List T → Option U → List T → Type 0
  ComesFirst is [] taken after = ⊤
  ComesFirst is (first ∷ behind) taken after = IsSomeAnd taken (is first) × (after ≡ behind)

module _ {T B : Type 0} where
  -- the worker takes what is first in its hands, and owes nothing then; its hands are empty where it takes nothing
  pub record Takes (before : Worker T B) (taken : Option T) (after : Worker T B) : Type 0 where
    pub first : ComesFirst (λ queued due. due ≡ queued) before.batch.items taken after.batch.items
    pub hands : IsNone taken → after.batch.items ≡ []
    pub owes : IsSome taken → OwesNothing after

module _ {R F A M B P O K : Type 0} {G : Ghosts F O} where
  -- the worker hands out, at its place, what is first in its hands, which are empty where it hands out nothing
  pub record HandsOut (before : Worker (DueRunnable R F A M O G) B) (handed : Option (Runnable R F ToPool M A (P × ℕ) Global O K G)) (after : Worker (DueRunnable R F A M O G) B) : Type 0 where
    pub place : IfSome handed (λ runnable. runnable.around.1 ≡ before.number)
    pub first : ComesFirst (λ queued runnable. runnable.inner ≡ queued.parked.inner) before.batch.items handed after.batch.items
    pub hands : IsNone handed → after.batch.items ≡ []
