-- What is known of the future that a task's last poll found, by what every poll before it has kept.
use Rattle.task_core.specs.declared.traits.Poll.{Poll}
use Rattle.task_core.specs.declared.traits.Poll.TheVariants.{Pending, Ready}
use Rattle.task_core.specs.Yielded.{Continued, Yielded, unpolled, polled}

module _ {F O : Type 0} {moves : F → Poll O → F → Type 0} (Holds : F → Type 0) (keeps : (before after : F) → Holds before → moves before Pending after → Holds after) (spawned : F) (first : Holds spawned) where
  -- what holds of the future that was spawned, and is kept by each poll that answers Pending, holds after such polls
  pub still_holds : (future : F) → Continued moves spawned future → Holds future
  still_holds _ unpolled = first
  still_holds _ (polled before after continued moved) = keeps before after (still_holds before continued) moved

  -- the output is one that such a future answers
  pub last_poll : (output : O) → Yielded moves spawned output → (before after : F) × Holds before × moves before (Ready output) after
  last_poll output yielded = (yielded.before, yielded.after, still_holds yielded.before yielded.continued, yielded.answered)
