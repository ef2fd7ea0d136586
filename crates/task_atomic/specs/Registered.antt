-- 5 of 12: a poll that answers Pending is registered, and stays so while the task is open.
use Rattle.std.specs.Prelude.{◌≡◌, ℕ, true, List, Some, slice_get}
use Rattle.task_core.specs.Word.{is_open}
use Rattle.task_core.specs.declared.acts.Act.TheVariants.{Look}
use Rattle.task_laws.specs.declared.positions.Position.TheVariants.{At, Looking, Answering}
use Rattle.task_laws.specs.declared.positions.Rest.TheVariants.{Task}
use Rattle.task_laws.specs.declared.positions.PollAnswer.TheVariants.{IsPending}
use Rattle.task_laws.specs.Laws.{pending_poll}
use Rattle.task_laws.specs.Machine.{Machine, Step, run, scene}
use Rattle.task_laws.specs.Table.{Outcome, rule}

-- after every list of steps, where a poll of the Task answers Pending by its last look, its own awaiter is in the slot, and the word says so
abbrev pub PendingIsRegistered : Type 0
PendingIsRegistered = (limit : ℕ) (steps : List Step) (m : Machine) → run limit steps ≡ Some m → (i n : ℕ) → slice_get m.parties i ≡ Some (Looking n)
    → (left : Outcome) → rule (scene m) Look (Looking n) ≡ Some left → left.next ≡ Answering n IsPending
    → (m.slots.awaiter ≡ Some n) × (m.word.awaiter ≡ true)

-- while the task is open and its Task is between two calls, the awaiter of its last pending poll is there, so whoever ends or closes the task
-- finds it
abbrev pub OpenTaskKeepsAwaiter : Type 0
OpenTaskKeepsAwaiter = (limit : ℕ) (steps : List Step) (m : Machine) → run limit steps ≡ Some m → is_open m.word ≡ true
    → (i n : ℕ) → slice_get m.parties i ≡ Some (At (Task n)) → (k : ℕ) → pending_poll m.trace ≡ Some k
    → (m.slots.awaiter ≡ Some k) × (m.word.awaiter ≡ true)
