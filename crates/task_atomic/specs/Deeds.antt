-- 6 of 12: the acts on the small task that a party makes by a list of deeds.
use Rattle.std.specs.Prelude.{◌≡◌, not, List, [], ◌∷◌, Option, Some, None}
use Rattle.task_core.specs.Word.{State, is_open}
use Rattle.task_core.specs.declared.acts.Act.{Act}
use Rattle.task_core.specs.declared.acts.Act.TheVariants.{Look, LookFinished, BeginNotify, MissNotify, EndCall}
use Rattle.task_laws.specs.declared.positions.Position.{Position}
use Rattle.task_laws.specs.declared.positions.Position.TheVariants.{At}
use Rattle.task_laws.specs.declared.positions.Rest.TheVariants.{Ended}
use Rattle.task_laws.specs.Table.{Scene, Outcome, rule}
use Rattle.task_steps.specs.declared.table.Deed.{Deed}
use Rattle.task_steps.specs.Deeds.{row}
use Rattle.task_atomic.specs.Small.{SmallAct, SeesFinished, SeesPending, SeesClosed, NoAct}
use Rattle.task_atomic.specs.Atomic.{act_of}
use Rattle.task_atomic.specs.Calls.{and_act}

-- what the look of `is_finished` saw, by the word that it found
abbrev pub saw_finished : Option State → SmallAct
saw_finished None = NoAct
saw_finished (Some w) = SeesFinished (not (is_open w))

-- what a look of a poll saw, by the deed after it: the poll answers Pending; or it takes its awaiter back, since the task is closed; or it goes
-- on, and the look is no act
abbrev pub saw_before : Act → SmallAct
saw_before EndCall = SeesPending
saw_before BeginNotify = SeesClosed
saw_before MissNotify = SeesClosed
saw_before act = NoAct

-- the same by all deeds after the look: a look that is the last deed is no act
abbrev pub saw : List Deed → SmallAct
saw [] = NoAct
saw (next ∷ path) = saw_before next.act

-- the act of a deed, with the deeds after it: of a look alone it hangs on where it leads
abbrev pub act_by : Act → Option State → List Deed → SmallAct
act_by LookFinished found path = saw_finished found
act_by Look found path = saw path
act_by act found path = act_of act (At Ended)

-- the acts of a path, the oldest first
abbrev pub acts_of : List Deed → List SmallAct
acts_of [] = []
acts_of (deed ∷ path) = and_act (act_by deed.act deed.found path) (acts_of path)

-- the act of a deed is that of the step by which a party does it, for each deed that it may do next
abbrev pub DeedsAreSteps : Type 0
DeedsAreSteps = (s t : Scene) (act next : Act) (p : Position) (left later : Outcome) (path : List Deed) → rule s act p ≡ Some left
    → rule t next left.next ≡ Some later → act_by act (Some s.word) (row next t.word ∷ path) ≡ act_of act left.next
