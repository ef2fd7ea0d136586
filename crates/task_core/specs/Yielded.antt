-- What a task's output has to do with the future that was spawned, by what the future's type states of each poll.
use Rattle.task_core.specs.declared.traits.Poll.{Poll}
use Rattle.task_core.specs.declared.traits.Poll.TheVariants.{Pending, Ready}

module _ {F O : Type 0} (moves : F → Poll O → F → Type 0) where
  -- the future that was spawned, as polls that answered Pending have left it
  pub data Continued (spawned : F) : F → Type 0 where
    unpolled : Continued spawned spawned
    polled : (before after : F) → Continued spawned before → moves before Pending after → Continued spawned after

  -- the poll after them has answered with this output
  pub record Yielded (spawned : F) (output : O) : Type 0 where
    pub before : F
    pub after : F
    pub continued : Continued spawned before
    pub answered : moves before (Ready output) after
