-- 3 of 12: what each row finds, said again of the small task.
use Rattle.std.specs.Prelude.{◌≡◌, ℕ, Bool, true, false, not, ◌&&◌, ◌||◌, nat_lt, nat_eq, List, Option, Some, None}
use Rattle.task_core.specs.Word.{State}
use Rattle.task_core.specs.Rows.{found}
use Rattle.task_core.specs.declared.acts.Act.{Act}
use Rattle.task_core.specs.declared.acts.Act.TheVariants.{GainReference, FindLimit, DropWaker, DropLastWaker, OrphanTask, CloseOrphan}
use Rattle.task_core.specs.declared.acts.Act.TheVariants.{GiveUpReference, GiveUpLastReference, WakeOver, WakeScheduled, WakeRunning}
use Rattle.task_core.specs.declared.acts.Act.TheVariants.{WakeIdle, DiscardOpen, DiscardClosed, CancelOver, CancelBusy, CancelIdle}
use Rattle.task_core.specs.declared.acts.Act.TheVariants.{ClaimOutput, GiveUpOutput, DetachOrphan, DetachLast, Detach, TakeUpClosed}
use Rattle.task_core.specs.declared.acts.Act.TheVariants.{StartRun, Unschedule, Complete, CompleteDetached, EndClosed, Reschedule}
use Rattle.task_core.specs.declared.acts.Act.TheVariants.{EndIdle, EndOrphaned}
use Rattle.task_laws.specs.Machine.{Machine, Step, run}
use Rattle.task_atomic.specs.Small.{small_task, SmallTask, is_idle, is_queued, is_polled, is_woken, is_over, has_output}

-- a Runnable exists, or is due when the run ends; another handle is left, or none beside this one
abbrev pub is_due : SmallTask → Bool
is_due s = is_queued s.phase || is_woken s.phase

-- another handle is left beside the one that gives its reference up
abbrev pub has_other : SmallTask → Bool
has_other s = nat_lt 1 s.references || s.has_task

-- the one that gives its reference up is the last handle
abbrev pub is_last : SmallTask → Bool
is_last s = nat_eq s.references 1 && not s.has_task

-- on which small task a row may be made, where the row changes one; of any other nothing is said
abbrev pub finds : ℕ → Act → SmallTask → Option Bool
finds limit GainReference s = Some (nat_lt s.references limit)
finds limit FindLimit s = Some (not (nat_lt s.references limit))
finds limit DropWaker s = Some (has_other s)
finds limit DropLastWaker s = Some (is_last s && is_over s)
finds limit OrphanTask s = Some (is_last s && not (is_over s))
finds limit CloseOrphan s = Some true
finds limit GiveUpReference s = Some (has_other s)
finds limit GiveUpLastReference s = Some (is_last s)
finds limit WakeOver s = Some (is_over s)
finds limit WakeScheduled s = Some (not (is_over s) && is_due s)
finds limit WakeRunning s = Some (not (is_over s) && is_polled s.phase && not (is_woken s.phase))
finds limit WakeIdle s = Some (is_idle s.phase)
finds limit DiscardOpen s = Some (not s.closed)
finds limit DiscardClosed s = Some s.closed
finds limit CancelOver s = Some (is_over s)
finds limit CancelBusy s = Some (not (is_over s) && not (is_idle s.phase))
finds limit CancelIdle s = Some (is_idle s.phase)
finds limit ClaimOutput s = Some (has_output s)
finds limit GiveUpOutput s = Some (has_output s)
finds limit DetachOrphan s = Some (nat_eq s.references 0 && not (is_over s))
finds limit DetachLast s = Some (nat_eq s.references 0 && s.closed)
finds limit Detach s = Some (nat_lt 0 s.references && not (has_output s))
finds limit TakeUpClosed s = Some s.closed
finds limit StartRun s = Some (not s.closed)
finds limit Unschedule s = Some true
finds limit Complete s = Some s.has_task
finds limit CompleteDetached s = Some (not s.has_task)
finds limit EndClosed s = Some s.closed
finds limit Reschedule s = Some (not s.closed && is_due s)
finds limit EndIdle s = Some (not s.closed && not (is_due s) && has_other s)
finds limit EndOrphaned s = Some (not s.closed && not (is_due s) && is_last s)
finds limit act s = None

-- the row finds its word exactly where this says so; of some rows nothing is said
abbrev pub Agrees : Bool → Option Bool → Type 0
Agrees is_found None = Unit {0}
Agrees is_found (Some says) = is_found ≡ says

-- a task that is completed has neither Runnable nor run
abbrev pub Rests : State → Type 0
Rests w = (w.completed && (w.scheduled || w.running)) ≡ false

-- each row finds that, on each word of this kind; and all are that an interleaving reaches
pub record RowsFind : Type 0 where
  pub each : (limit : ℕ) (act : Act) (w : State) → Rests w → Agrees (found limit act w) (finds limit act (small_task w))
  pub reached : (limit : ℕ) (steps : List Step) (m : Machine) → run limit steps ≡ Some m → Rests m.word
