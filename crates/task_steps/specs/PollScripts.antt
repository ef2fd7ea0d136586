-- The acts that the steps of a poll of the Task make.
use Rattle.std.specs.Prelude.{Bool, false, not, ◌&&◌, ◌||◌, if◌then◌else◌, List, [], ◌∷◌}
use Rattle.task_core.specs.Word.{State}
use Rattle.task_core.specs.Rows.{found}
use Rattle.task_core.specs.declared.acts.Act.{Act}
use Rattle.task_core.specs.declared.acts.Act.TheVariants.{Look, ClaimOutput, HandOutOutput, CloneAwaiter, RefuseClone, StoreAwaiter}
use Rattle.task_core.specs.declared.acts.Act.TheVariants.{TakeAwaiter, FindNotify, BeginRegister, EndRegister, EndRegisterNotified, EndCall}
use Rattle.task_steps.specs.Attempt.{Attempt, only}

-- the output is there, and nobody has taken it
abbrev pub has_output : State → Bool
has_output w = found 0 ClaimOutput w

-- the task is closed, and no Runnable or run holds the future
abbrev pub has_ended : State → Bool
has_ended w = w.closed && not (w.scheduled || w.running)

-- a poll that has registered waits on
abbrev pub has_to_wait : State → Bool
has_to_wait w = if w.closed then w.scheduled || w.running else not w.completed

-- the first look of a poll, which takes the output where it is there
abbrev pub to_look : Attempt State
to_look = record {
  applies = λ limit w. has_output w;
  row = λ w. w;
  acts = λ w. ClaimOutput ∷ [];
  counts = λ w. false;
  lasts = λ row. false;
  ends = λ limit w. not (has_output w);
  acts_at_end = λ w. Look ∷ [];
}

-- the look of a poll that has registered; where it finds no output, it ends if it has to wait
abbrev pub to_look_again : Attempt State
to_look_again = record {
  applies = λ limit w. has_output w;
  row = λ w. w;
  acts = λ w. Look ∷ ClaimOutput ∷ [];
  counts = λ w. false;
  lasts = λ row. false;
  ends = λ limit w. not (has_output w);
  acts_at_end = λ w. if has_to_wait w then Look ∷ EndCall ∷ [] else Look ∷ [];
}

-- the output that was taken is handed out
abbrev pub handing_out : State → List Act
handing_out w = HandOutOutput ∷ EndCall ∷ []

-- the clone of the caller's awaiter was refused
abbrev pub refusing : State → List Act
refusing w = RefuseClone ∷ EndCall ∷ []

-- the awaiter slot is taken, and the clone put in, unless a notifier is there
abbrev pub to_begin_register : Attempt (Unit {0})
to_begin_register = record {
  applies = λ limit w. found 0 BeginRegister w;
  row = only;
  acts = λ row. CloneAwaiter ∷ BeginRegister ∷ StoreAwaiter ∷ [];
  counts = λ row. false;
  lasts = λ row. false;
  ends = λ limit w. w.notifying;
  acts_at_end = λ w. CloneAwaiter ∷ FindNotify ∷ [];
}

-- the awaiter slot is given back, with the clone in it, unless a notifier came meanwhile: then the clone is taken back
abbrev pub to_end_register : Attempt (Unit {0})
to_end_register = record {
  applies = λ limit w. found 0 EndRegister w;
  row = only;
  acts = λ row. EndRegister ∷ [];
  counts = λ row. false;
  lasts = λ row. false;
  ends = λ limit w. w.notifying;
  acts_at_end = λ w. TakeAwaiter ∷ [];
}

-- the awaiter slot is given back without a clone, which was taken back
abbrev pub ending_notified : State → List Act
ending_notified w = EndRegisterNotified ∷ []
