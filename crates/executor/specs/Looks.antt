use Rattle.std.specs.Prelude.{⊤}
use Rattle.task_core.specs.declared.traits.TaskPoll.{TaskPoll}
use Rattle.task_core.specs.declared.traits.TaskPoll.TheVariants.{Pending as Waits, Ready, Refused}

module _ {T : Type 0} where
  -- the poll has an answer
  abbrev pub IsReady : TaskPoll T → Type 0
  IsReady (Ready answer) = ⊤
  IsReady Waits = ⊥
  IsReady Refused = ⊥

  -- the poll has none
  abbrev pub HasNone : TaskPoll T → Type 0
  HasNone (Ready answer) = ⊥
  HasNone Waits = ⊤
  HasNone Refused = ⊤
