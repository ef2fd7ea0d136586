-- The paths of a run, of a closed run and of a Runnable's drop: what the party does, the oldest first.
use Rattle.std.specs.Prelude.{◌≡◌, ◌||◌, nat_lt, Bool, true, false, List, [], ◌∷◌, ◌++◌}
use Rattle.task_core.specs.Word.{State}
use Rattle.task_core.specs.declared.acts.Act.TheVariants.{GiveUpReference, GiveUpLastReference, EmptySlots, DiscardOpen, DiscardClosed}
use Rattle.task_core.specs.declared.acts.Act.TheVariants.{DropFuture, Unschedule, MissNotify, BeginNotify, TakeAwaiter, EndNotify}
use Rattle.task_core.specs.declared.acts.Act.TheVariants.{WakeAwaiter, EndCall, AnswerReady, StoreOutput, Complete, CompleteDetached}
use Rattle.task_core.specs.declared.acts.Act.TheVariants.{DropOutput, AnswerPending, EndClosed, Reschedule, HandOver, EndIdle, EndOrphaned}
use Rattle.task_steps.specs.declared.table.Deed.{Deed}
use Rattle.task_steps.specs.Deeds.{row, act}
use Rattle.task_cell.specs.Calls.{Fits}
use Rattle.task_core.specs.declared.acts.Act.TheVariants.{TakeUpClosed, StartRun, StartPoll}
use Rattle.task_core.specs.declared.traits.Poll.{Poll}
use Rattle.task_core.specs.declared.traits.Poll.TheVariants.{Pending, Ready}

-- a reference is given up; who had the last one empties the places
pub data ReleasePath : List Deed → Type 0 where
  leaves_others : (w : State) → Fits GiveUpReference w → ReleasePath (row GiveUpReference w ∷ [])
  leaves_none : (w : State) → Fits GiveUpLastReference w → ReleasePath (row GiveUpLastReference w ∷ act EmptySlots ∷ [])

-- the awaiter is taken where AWAITER was found, unless another party is at it: whether it was found, and whether an awaiter was taken
pub data NotifyPath : Bool → Bool → List Deed → Type 0 where
  not_due : NotifyPath false false []
  missed : (w : State) → Fits MissNotify w → NotifyPath true false (row MissNotify w ∷ [])
  none_there : (w v : State) → Fits BeginNotify w → NotifyPath true false (row BeginNotify w ∷ act TakeAwaiter ∷ row EndNotify v ∷ [])
  taken : (w v : State) → Fits BeginNotify w → NotifyPath true true (row BeginNotify w ∷ act TakeAwaiter ∷ row EndNotify v ∷ [])

-- an awaiter that was taken is woken, which is the fact Woken
pub data WakePath (Woken : Type 0) : Bool → List Deed → Type 0 where
  nobody : WakePath Woken false []
  woken : Woken → WakePath Woken true (act WakeAwaiter ∷ [])

-- the rest of a run, after its end step: the awaiter that was taken is woken last
pub data RestPath (Woken : Type 0) : Bool → List Deed → Type 0 where
  rests : (due taken : Bool) (n r k : List Deed) → NotifyPath due taken n → ReleasePath r → WakePath Woken taken k
      → RestPath Woken due (n ++ (r ++ (k ++ act EndCall ∷ [])))

-- a run of a task that was closed, after it has taken the future over
pub data ClosedRunPath (Woken : Type 0) : List Deed → Type 0 where
  closed_run : (w : State) (r : List Deed) → RestPath Woken w.awaiter r → ClosedRunPath Woken (act DropFuture ∷ row Unschedule w ∷ r)

-- the end step of a run with its output, by the word that it found: the output is dropped where nobody will claim it
pub data StorePath (w : State) : List Deed → Type 0 where
  kept : w.task ≡ true → w.closed ≡ false → StorePath w (act DropFuture ∷ act StoreOutput ∷ row Complete w ∷ [])
  not_claimed : w.task ≡ true → w.closed ≡ true → StorePath w (act DropFuture ∷ act StoreOutput ∷ row Complete w ∷ act DropOutput ∷ [])
  detached : w.task ≡ false → StorePath w (act DropFuture ∷ act StoreOutput ∷ row CompleteDetached w ∷ act DropOutput ∷ [])

-- a run after its poll answered Ready
pub data ReadyPath (Woken : Type 0) : List Deed → Type 0 where
  ready : (w : State) (s r : List Deed) → StorePath w s → RestPath Woken w.awaiter r → ReadyPath Woken (act AnswerReady ∷ (s ++ r))

-- a run after its poll answered Pending, and whether the task was woken meanwhile, which the run answers
pub data PendingPath (Woken : Type 0) (Scheduled : Bool → Type 0) : Bool → List Deed → Type 0 where
  closed_meanwhile : (w : State) (r : List Deed) → w.closed ≡ true → RestPath Woken w.awaiter r
      → PendingPath Woken Scheduled false (act AnswerPending ∷ act DropFuture ∷ row EndClosed w ∷ r)
  woken_meanwhile : (w : State) → w.closed ≡ false → w.scheduled ≡ true → Scheduled true
      → PendingPath Woken Scheduled true (act AnswerPending ∷ row Reschedule w ∷ act HandOver ∷ act EndCall ∷ [])
  idle : (w : State) → w.closed ≡ false → w.scheduled ≡ false → (nat_lt 1 w.references || w.task) ≡ true
      → PendingPath Woken Scheduled false (act AnswerPending ∷ row EndIdle w ∷ act EndCall ∷ [])
  orphaned : (w : State) → w.closed ≡ false → w.scheduled ≡ false → (nat_lt 1 w.references || w.task) ≡ false → Scheduled false
      → PendingPath Woken Scheduled false (act AnswerPending ∷ row EndOrphaned w ∷ act HandOver ∷ act EndCall ∷ [])

-- the first step of a Runnable's drop
pub data DiscardStart : Deed → Type 0 where
  found_open : (w : State) → w.closed ≡ false → DiscardStart (row DiscardOpen w)
  found_closed : (w : State) → w.closed ≡ true → DiscardStart (row DiscardClosed w)

-- a Runnable's drop: the awaiter that was taken is woken before the reference is given up
pub data DiscardPath (Woken : Type 0) : List Deed → Type 0 where
  discards : (d : Deed) (w : State) (taken : Bool) (n k r : List Deed) → DiscardStart d → NotifyPath w.awaiter taken n
      → WakePath Woken taken k → ReleasePath r
      → DiscardPath Woken (d ∷ act DropFuture ∷ row Unschedule w ∷ (n ++ (k ++ (r ++ act EndCall ∷ []))))

-- a run, and what it answers: a task that was closed is not polled
pub data RunPath {T : Type 0} (Polled : Poll T → Type 0) (Woken : Type 0) (Scheduled : Bool → Type 0) : Bool → List Deed → Type 0 where
  finds_closed : (w : State) (path : List Deed) → w.closed ≡ true → ClosedRunPath Woken path
      → RunPath Polled Woken Scheduled false (row TakeUpClosed w ∷ path)
  answers_ready : (w : State) (x : T) (path : List Deed) → w.closed ≡ false → Polled (Ready x) → ReadyPath Woken path
      → RunPath Polled Woken Scheduled false (row StartRun w ∷ act StartPoll ∷ path)
  answers_pending : (w : State) (woken : Bool) (path : List Deed) → w.closed ≡ false → Polled Pending
      → PendingPath Woken Scheduled woken path → RunPath Polled Woken Scheduled woken (row StartRun w ∷ act StartPoll ∷ path)
