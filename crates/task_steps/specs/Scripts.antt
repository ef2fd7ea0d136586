-- The acts that the steps make which several calls have.
use Rattle.std.specs.Prelude.{if◌then◌else◌, List, [], ◌∷◌}
use Rattle.task_core.specs.Word.{State}
use Rattle.task_core.specs.Rows.{found}
use Rattle.task_core.specs.declared.acts.Act.{Act}
use Rattle.task_core.specs.declared.acts.Act.TheVariants.{EndCall, BeginNotify, MissNotify, TakeAwaiter, EndNotify, WakeAwaiter}
use Rattle.task_core.specs.declared.acts.Act.TheVariants.{DropAwaiter, DropOutput}

-- the call ends
abbrev pub ending : State → List Act
ending w = EndCall ∷ []

-- the awaiter slot is taken, and emptied, unless another party is at it
abbrev pub taking_awaiter : State → List Act
taking_awaiter w = if found 0 MissNotify w then MissNotify ∷ [] else BeginNotify ∷ TakeAwaiter ∷ []

-- the awaiter slot is given back
abbrev pub releasing_awaiter : State → List Act
releasing_awaiter w = EndNotify ∷ []

-- the awaiter in hand is woken
abbrev pub waking : State → List Act
waking w = WakeAwaiter ∷ []

-- the awaiter in hand is dropped
abbrev pub dropping : State → List Act
dropping w = DropAwaiter ∷ []

-- an output that nobody will claim is dropped
abbrev pub dropping_output : State → List Act
dropping_output w = DropOutput ∷ []
