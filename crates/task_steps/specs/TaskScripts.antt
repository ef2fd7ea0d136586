-- The acts that the steps of a Task make beside its polls.
use Rattle.std.specs.Prelude.{Bool, true, false, nat_lt, if◌then◌else◌, List, [], ◌∷◌}
use Rattle.task_core.specs.Word.{State, is_open}
use Rattle.task_core.specs.Rows.{found}
use Rattle.task_core.specs.declared.acts.Act.{Act}
use Rattle.task_core.specs.declared.acts.Act.TheVariants.{LookFinished, CancelOver, CancelBusy, CancelIdle, GiveUpOutput, DetachOrphan}
use Rattle.task_core.specs.declared.acts.Act.TheVariants.{DetachLast, Detach, EndCall}
use Rattle.task_steps.specs.Attempt.{Attempt, no_end, no_acts}
use Rattle.task_steps.specs.declared.found.Cancelled.{Cancelled}
use Rattle.task_steps.specs.declared.found.Cancelled.TheVariants.{Busy, Idle}
use Rattle.task_steps.specs.declared.found.Detached.{Detached}
use Rattle.task_steps.specs.declared.found.Detached.TheVariants.{Unclaimed, Shared, Last, Orphaned}
use Rattle.task_steps.specs.WakerScripts.{is_over}

-- the load of `is_finished`
abbrev pub looking_finished : State → List Act
looking_finished w = LookFinished ∷ EndCall ∷ []

-- what a cancel finds that closes an open task
abbrev pub closed_by : State → Cancelled
closed_by w = if found 0 CancelIdle w then Idle w.awaiter else Busy w.awaiter

-- the task is closed by this row
abbrev pub closing : Cancelled → List Act
closing (Idle due) = CancelIdle ∷ []
closing (Busy due) = CancelBusy ∷ []

-- a row closes the task where it was idle, with a share for a Runnable
abbrev pub brings_share : Cancelled → Bool
brings_share (Idle due) = true
brings_share (Busy due) = false

-- a cancel of a task that is over ends
abbrev pub to_cancel : Attempt Cancelled
to_cancel = record {
  applies = λ limit w. is_open w;
  row = closed_by;
  acts = closing;
  counts = brings_share;
  lasts = λ row. false;
  ends = is_over;
  acts_at_end = λ w. CancelOver ∷ EndCall ∷ [];
}

-- what the Task finds that is given up
abbrev pub given_up_by : State → Detached
given_up_by w =
    if found 0 Detach w then Shared else (if found 0 DetachLast w then Last else (if found 0 DetachOrphan w then Orphaned else Unclaimed))

-- the Task is given up by these acts
abbrev pub detaching : Detached → List Act
detaching Shared = Detach ∷ EndCall ∷ []
detaching Last = DetachLast ∷ []
detaching Orphaned = DetachOrphan ∷ []
detaching Unclaimed = GiveUpOutput ∷ []

-- such a row ends the Task's share too, where no output waits and no Runnable is left to it
abbrev pub ends_task : Detached → Bool
ends_task Shared = true
ends_task Last = true
ends_task _ = false

-- the share that it ends is the last one
abbrev pub ends_last : Detached → Bool
ends_last Last = true
ends_last _ = false

-- the Task is given up, whatever the word is
abbrev pub to_detach : Attempt Detached
to_detach = record { applies = λ limit w. true; row = given_up_by; acts = detaching; counts = ends_task; lasts = ends_last; ends = no_end; acts_at_end = no_acts }

-- the Task is given up whose output was dropped
abbrev pub giving_task_up : State → List Act
giving_task_up w = if nat_lt 0 w.references then Detach ∷ EndCall ∷ [] else DetachLast ∷ []
