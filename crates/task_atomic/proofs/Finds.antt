-- Each row finds on a word what is said of the small task.
use Rattle.std.proofs.Common.{◌≡◌, ℕ, Bool, List, Option, Some, None, subst}
use Rattle.task_core.specs.Word.{State}
use Rattle.task_core.specs.Rows.{found}
use Rattle.task_core.specs.declared.acts.Act.{Act}
use Rattle.task_core.specs.declared.acts.Act.TheVariants.{GainReference, FindLimit, DropWaker, DropLastWaker, OrphanTask, CloseOrphan}
use Rattle.task_core.specs.declared.acts.Act.TheVariants.{GiveUpReference, GiveUpLastReference, WakeOver, WakeScheduled, WakeRunning}
use Rattle.task_core.specs.declared.acts.Act.TheVariants.{WakeIdle, DiscardOpen, DiscardClosed, CancelOver, CancelBusy, CancelIdle}
use Rattle.task_core.specs.declared.acts.Act.TheVariants.{ClaimOutput, GiveUpOutput, DetachOrphan, DetachLast, Detach, TakeUpClosed}
use Rattle.task_core.specs.declared.acts.Act.TheVariants.{StartRun, Unschedule, Complete, CompleteDetached, EndClosed, Reschedule}
use Rattle.task_core.specs.declared.acts.Act.TheVariants.{EndIdle, EndOrphaned}
use Rattle.task_laws.specs.Machine.{Machine}
use Rattle.task_laws.proofs.Census.{census}
use Rattle.task_laws.proofs.Runs.{Invariant, Stays, always}
use Rattle.task_laws.proofs.Scenes.{rules}
use Rattle.task_atomic.specs.Small.{small_task}
use Rattle.task_atomic.specs.Finds.{finds, Agrees, Rests, RowsFind}
use Rattle.task_atomic.proofs.Atoms.{rests}

agree : (limit : ℕ) (act : Act) (w : State) → Rests w → Agrees (found limit act w) (finds limit act (small_task w))
agree limit GainReference w rest = grind rules
agree limit FindLimit w rest = grind rules
agree limit DropWaker w rest = grind rules
agree limit DropLastWaker w rest = grind rules
agree limit OrphanTask w rest = grind rules
agree limit CloseOrphan w rest = grind rules
agree limit GiveUpReference w rest = grind rules
agree limit GiveUpLastReference w rest = grind rules
agree limit WakeOver w rest = grind rules
agree limit WakeScheduled w rest = grind rules
agree limit WakeRunning w rest = grind rules
agree limit WakeIdle w rest = grind rules
agree limit DiscardOpen w rest = grind rules
agree limit DiscardClosed w rest = grind rules
agree limit CancelOver w rest = grind rules
agree limit CancelBusy w rest = grind rules
agree limit CancelIdle w rest = grind rules
agree limit ClaimOutput w rest = grind rules
agree limit GiveUpOutput w rest = grind rules
agree limit DetachOrphan w rest = grind rules
agree limit DetachLast w rest = grind rules
agree limit Detach w rest = grind rules
agree limit TakeUpClosed w rest = grind rules
agree limit StartRun w rest = grind rules
agree limit Unschedule w rest = grind rules
agree limit Complete w rest = grind rules
agree limit CompleteDetached w rest = grind rules
agree limit EndClosed w rest = grind rules
agree limit Reschedule w rest = grind rules
agree limit EndIdle w rest = grind rules
agree limit EndOrphaned w rest = grind rules
agree limit act w rest = tt

pub rows_find : RowsFind
rows_find = record {
  each = agree;
  reached = λ limit steps m e. let h : Invariant m = subst Stays e (always limit steps) in rests m.limit m.word m.slots m.trace (census m.parties) h.holds;
}
