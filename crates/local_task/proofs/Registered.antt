-- A poll of a task that is not done, by what `try_clone` of the caller's awaiter answered.
use Rattle.std.proofs.Common.{◌≡◌, Some, None, subst}
use Rattle.std.specs.Prelude.{Result, Ok, Err}
use Rattle.task_core.specs.Local.{Local, Answered, registers}
use Rattle.local_task.specs.LocalTask.{Registers}

module _ {F T A E : Type 0} (cloned : Result A E → Type 0) (t : Local F T A) (polled : Answered F T A) where
  pub registers-clone : (answer : Result A E) (clone : A) → answer ≡ Ok clone → cloned answer → polled ≡ registers (Some clone) t → Registers cloned t polled
  registers-clone answer clone is made same = (Ok clone, subst cloned is made, same)

  pub refuses-clone : (answer : Result A E) (refused : E) → answer ≡ Err refused → cloned answer → polled ≡ registers None t → Registers cloned t polled
  refuses-clone answer refused is made same = (Err refused, subst cloned is made, same)
