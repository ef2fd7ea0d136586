-- What the calls of a Task, a FallibleTask and a Cancel say of the Task's party: p before the call, q after it.
use Rattle.std.specs.Prelude.{◌≡◌, Bool, true, false, not, List, [], ◌∷◌, ◌++◌, Option, Some, None, Result, Ok, Err, IfSome, ⊤}
use Rattle.task_core.specs.Word.{State, is_open}
use Rattle.task_core.specs.declared.traits.TaskPoll.{TaskPoll}
use Rattle.task_core.specs.declared.traits.TaskPoll.TheVariants.{Pending as Waits, Ready, Refused}
use Rattle.task_core.specs.declared.acts.Act.TheVariants.{LookFinished, EndCall}
use Rattle.task_steps.specs.declared.table.Deed.{Deed}
use Rattle.task_cell.specs.declared.cell.Party.{Party}
use Rattle.task_cell.specs.Calls.{Did, position}
use Rattle.task_steps.specs.Deeds.{row, act}
use Rattle.task_steps.specs.Standing.{as_ended, as_task, poll_number}
use Rattle.task_cell.specs.PollPaths.{PollPath}

-- the answer of a Task's poll as a FallibleTask gives it
abbrev pub fallible_answer : {T E : Type 0} → TaskPoll (Result T E) → TaskPoll (Option T)
fallible_answer (Ready (Ok output)) = Ready (Some output)
fallible_answer (Ready (Err closed)) = Ready None
fallible_answer Waits = Waits
fallible_answer Refused = Refused

-- the answer of a Task's poll says that no output will come
abbrev pub is_closed : {T E : Type 0} → TaskPoll (Result T E) → Bool
is_closed (Ready (Ok output)) = false
is_closed (Ready (Err closed)) = true
is_closed Waits = false
is_closed Refused = false

-- the fact holds of the output that such a poll handed out, if there is one
abbrev pub IfSomeOutput : {T : Type 0} → TaskPoll (Option T) → (T → Type 0) → Type 0
IfSomeOutput (Ready answer) P = IfSome answer P
IfSomeOutput Waits P = ⊤
IfSomeOutput Refused P = ⊤

-- a path that closes the task, or none where it was closed before
abbrev pub ClosesUnless : Bool → (List Deed → Type 0) → List Deed → Type 0
ClosesUnless true Closes path = path ≡ []
ClosesUnless false Closes path = Closes path

module _ {F T A : Type 0} where
  -- one load, which answers whether the task is over
  abbrev pub FindsFinished : Party F T A → Party F T A → Bool → Type 0
  FindsFinished p q answer = (w : State) × Did (row LookFinished w ∷ act EndCall ∷ []) (position p) p q × (answer ≡ not (is_open w))

  -- the task is closed, and then the Task given up
  abbrev pub EndsTask : (List Deed → Type 0) → (List Deed → Type 0) → Party F T A → Party F T A → Type 0
  EndsTask Closes GivesUp p q = (closing path : List Deed) × Closes closing × GivesUp path × Did (closing ++ path) as_ended p q

  -- one poll of the Task
  abbrev pub PollsOnce : {B U K : Type 0} → (B → Result B K → Type 0) → (B → K → Type 0) → (B → K → Type 0) → (B → B → Bool → Type 0) → B → Party F T A
      → Party F T A → TaskPoll (Option U) → Type 0
  PollsOnce cloned woken woken_by_ref compared awaiter p q answer =
      (path : List Deed) × PollPath cloned woken woken_by_ref compared awaiter path answer
      × Did path (as_task (poll_number (position p))) p q

  -- one poll of the Task before which the task is closed, unless an earlier poll has closed it
  abbrev pub PollsClosed : {B U K : Type 0} → Bool → (List Deed → Type 0) → (B → Result B K → Type 0) → (B → K → Type 0) → (B → K → Type 0)
      → (B → B → Bool → Type 0) → B → Party F T A → Party F T A → TaskPoll (Option U) → Type 0
  PollsClosed was_closed Closes cloned woken woken_by_ref compared awaiter p q answer =
      (closing path : List Deed) × ClosesUnless was_closed Closes closing × PollPath cloned woken woken_by_ref compared awaiter path answer
      × Did (closing ++ path) (as_task (poll_number (position p))) p q
