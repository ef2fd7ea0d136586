-- The acts that the steps of a run and of a Runnable's drop make.
use Rattle.std.specs.Prelude.{Bool, true, false, not, if◌then◌else◌, List, [], ◌∷◌}
use Rattle.task_core.specs.Word.{State}
use Rattle.task_core.specs.Rows.{found}
use Rattle.task_core.specs.declared.acts.Act.{Act}
use Rattle.task_core.specs.declared.acts.Act.TheVariants.{Unschedule, DropFuture, GiveUpReference, GiveUpLastReference, EmptySlots}
use Rattle.task_core.specs.declared.acts.Act.TheVariants.{DiscardOpen, DiscardClosed, AnswerReady, StoreOutput, Complete, CompleteDetached}
use Rattle.task_core.specs.declared.acts.Act.TheVariants.{AnswerPending, Reschedule, EndIdle, EndOrphaned, EndCall, EndClosed}
use Rattle.task_steps.specs.Attempt.{Attempt, no_end, no_acts}
use Rattle.task_steps.specs.declared.found.PendingEnd.{PendingEnd}
use Rattle.task_steps.specs.declared.found.PendingEnd.TheVariants.{Rescheduled, Idle, Orphaned}
use Rattle.task_steps.specs.WakerScripts.{others_left}

-- SCHEDULED is cleared, after the future was dropped
abbrev pub unscheduling : State → List Act
unscheduling w = Unschedule ∷ []

-- the reference is given up
abbrev pub giving_up : State → List Act
giving_up w = if found 0 GiveUpReference w then GiveUpReference ∷ [] else GiveUpLastReference ∷ []

-- the last party has emptied the place of the awaiter
abbrev pub emptying : State → List Act
emptying w = EmptySlots ∷ []

-- a Runnable that is dropped closes the task; the future is dropped next
abbrev pub discarding : State → List Act
discarding w = if found 0 DiscardClosed w then DiscardClosed ∷ DropFuture ∷ [] else DiscardOpen ∷ DropFuture ∷ []

-- the poll of the future has answered Ready; the future is dropped next
abbrev pub answering_ready : State → List Act
answering_ready w = AnswerReady ∷ DropFuture ∷ []

-- the run ends, after the future was dropped and the output stored
abbrev pub completing : State → List Act
completing w = if found 0 Complete w then StoreOutput ∷ Complete ∷ [] else StoreOutput ∷ CompleteDetached ∷ []

-- that end as an attempt, which fits every word
abbrev pub to_complete : Attempt State
to_complete = record { applies = λ limit w. true; row = λ w. w; acts = completing; counts = λ w. false; lasts = λ w. false; ends = no_end; acts_at_end = no_acts }

-- the poll of the future has answered Pending; where the task is closed, the future is dropped next
abbrev pub answering_pending : State → List Act
answering_pending w = if w.closed then AnswerPending ∷ DropFuture ∷ [] else AnswerPending ∷ []

-- what the run of an open task finds that ends without an output
abbrev pub ending_of : State → PendingEnd
ending_of w = if w.scheduled then Rescheduled else (if others_left w then Idle else Orphaned)

-- the acts of that end
abbrev pub ending_pending : PendingEnd → List Act
ending_pending Rescheduled = Reschedule ∷ []
ending_pending Idle = EndIdle ∷ EndCall ∷ []
ending_pending Orphaned = EndOrphaned ∷ []

-- such an end ends the run's share, where nobody woke the task and other handles are left
abbrev pub ends_run : PendingEnd → Bool
ends_run Idle = true
ends_run _ = false

-- the run of a closed task goes on: its future is dropped next
abbrev pub to_end_pending : Attempt PendingEnd
to_end_pending = record {
  applies = λ limit w. not w.closed;
  row = ending_of;
  acts = ending_pending;
  counts = ends_run;
  lasts = λ row. false;
  ends = λ limit w. w.closed;
  acts_at_end = λ w. DropFuture ∷ [];
}

-- the run of a closed task ends, after the future was dropped
abbrev pub ending_closed : State → List Act
ending_closed w = EndClosed ∷ []
