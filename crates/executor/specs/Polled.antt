use Rattle.std.specs.Prelude.{◌≡◌, Option, Some, None, IsSome, IfSome, IsNone}
use Rattle.task_core.specs.declared.traits.Poll.{Poll}
use Rattle.task_core.specs.declared.traits.Poll.TheVariants.{Pending}

module _ {S : Type 0} where
  -- the shared waker of a task: it was made for it at the first poll that had memory, and stays
  pub record IsOfTask (made : S → Type 0) (old new : Option S) : Type 0 where
    pub fresh : IsNone old → IfSome new made
    pub stays : IsSome old → new ≡ old

module _ {E : Type 0} where
  -- there is a record of a call, and this holds of it
  abbrev pub Shows : (E → Type 0) → Option E → Type 0
  Shows holds None = ⊥
  Shows holds (Some ended) = holds ended

module _ {F S T : Type 0} where
  -- a poll of the future inside by that shared waker, or none, and then the task was woken
  pub data PolledBy (polled : F → S → Poll T → F → Type 0) (made : S → Type 0) (woken : Type 0) (before after : Option S) (old : F) : Poll T → F → Type 0 where
    polls : (shared : S) (answer : Poll T) (new : F) → IsOfTask made before after → after ≡ Some shared
        → polled old shared answer new → PolledBy polled made woken before after old answer new
    refused : IsOfTask made before after → woken → PolledBy polled made woken before after old Pending old
