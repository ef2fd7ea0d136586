-- 7 of 12: which acts the path of each call is.
use Rattle.std.specs.Prelude.{◌≡◌, ◌⊎◌, ℕ, Bool, false, not, List, [], ◌∷◌, ◌++◌, if◌then◌else◌, Option, Some, None, Result}
use Rattle.task_core.specs.Word.{State, is_open}
use Rattle.task_core.specs.declared.acts.Act.TheVariants.{HandOver, EndCall, LookFinished}
use Rattle.task_core.specs.declared.traits.Poll.{Poll}
use Rattle.task_core.specs.declared.traits.TaskPoll.{TaskPoll}
use Rattle.task_core.specs.declared.traits.TaskPoll.TheVariants.{Pending as Waits, Ready, Refused}
use Rattle.task_steps.specs.declared.table.Deed.{Deed}
use Rattle.task_steps.specs.Deeds.{row, act}
use Rattle.task_cell.specs.WakerPaths.{GainPath, WakeCallPath, WakerDropPath}
use Rattle.task_cell.specs.RunPaths.{RunPath, finds_closed, answers_ready, answers_pending, PendingPath, closed_meanwhile, DiscardPath}
use Rattle.task_cell.specs.TaskPaths.{CancelPath, DetachPath}
use Rattle.task_cell.specs.PollPaths.{PollPath}
use Rattle.async_task.specs.HandlePaths.{ClosesUnless}
use Rattle.task_atomic.specs.Small.{SmallAct, Gains, Drops, Orphans, Wakes, Discards, Cancels, Claims, GivesOutputUp, Detaches, Starts}
use Rattle.task_atomic.specs.Small.{EndsUnpolled, EndsReady, EndsPending, SeesFinished, SeesPending, SeesClosed}
use Rattle.task_atomic.specs.Deeds.{acts_of}

-- what a poll of the Task does, by its answer
abbrev pub polls : {T : Type 0} → TaskPoll (Option T) → List SmallAct
polls Waits = SeesPending ∷ []
polls (Ready None) = SeesClosed ∷ []
polls (Ready (Some output)) = Claims ∷ []
polls Refused = []

-- how a run goes on after a pending poll: its end drops its reference, but for a task that was closed meanwhile
abbrev pub ends_pending : {Woken : Type 0} {Scheduled : Bool → Type 0} (woken : Bool) (path : List Deed) → PendingPath Woken Scheduled woken path
    → List SmallAct
ends_pending woken path (closed_meanwhile w rest closed ends) = EndsPending false ∷ Drops ∷ []
ends_pending woken path other = EndsPending woken ∷ []

-- what a run does, by how it goes
abbrev pub runs : {T : Type 0} {Polled : Poll T → Type 0} {Woken : Type 0} {Scheduled : Bool → Type 0} (answer : Bool) (path : List Deed)
    → RunPath Polled Woken Scheduled answer path → List SmallAct
runs answer path (finds_closed w rest closed ends) = Starts ∷ EndsUnpolled ∷ Drops ∷ []
runs answer path (answers_ready w output rest still_open polled ends) = Starts ∷ EndsReady ∷ Drops ∷ []
runs answer path (answers_pending w woken rest still_open polled ends) = Starts ∷ ends_pending woken rest ends

-- each call, for whatever facts its foreign calls promise; K is the type of the records that an awaiter's calls answer
pub record PathsAreActs {A K T : Type 0} (Scheduled : Bool → Type 0) (Polled : Poll T → Type 0) (Woken : Type 0) (cloned : A → Result A K → Type 0)
    (woken woken_by_ref : A → K → Type 0) (compared : A → A → Bool → Type 0) : Type 0 where
  -- of a waker
  pub wake : (path : List Deed) → WakeCallPath (Scheduled false) path → acts_of path ≡ Wakes ∷ []
  pub gain : (limit : ℕ) (gained : Bool) (path : List Deed) → GainPath limit gained path → acts_of path ≡ Gains gained ∷ []
  pub drop_waker : (path : List Deed) → WakerDropPath (Scheduled false) path
      → (acts_of path ≡ Drops ∷ []) ⊎ (acts_of path ≡ Drops ∷ Orphans ∷ [])
  -- of a Runnable; a wake's deliverer hands it over as `schedule` does
  pub schedule : acts_of (act HandOver ∷ act EndCall ∷ []) ≡ []
  pub run : (answer : Bool) (path : List Deed) (ran : RunPath Polled Woken Scheduled answer path) → acts_of path ≡ runs answer path ran
  pub drop_runnable : (path : List Deed) → DiscardPath Woken path → acts_of path ≡ Discards ∷ EndsUnpolled ∷ Drops ∷ []
  -- of a Task, a FallibleTask and a Cancel
  pub is_finished : (w : State) → acts_of (row LookFinished w ∷ act EndCall ∷ []) ≡ SeesFinished (not (is_open w)) ∷ []
  pub cancel : (path : List Deed) → CancelPath (Scheduled false) Woken path → acts_of path ≡ Cancels ∷ []
  pub detach : (path : List Deed) → DetachPath (Scheduled false) path
      → (acts_of path ≡ Detaches ∷ []) ⊎ (acts_of path ≡ GivesOutputUp ∷ Detaches ∷ [])
  pub drop_task : (closing path : List Deed) → CancelPath (Scheduled false) Woken closing → DetachPath (Scheduled false) path
      → (acts_of (closing ++ path) ≡ Cancels ∷ Detaches ∷ []) ⊎ (acts_of (closing ++ path) ≡ Cancels ∷ GivesOutputUp ∷ Detaches ∷ [])
  pub poll : (awaiter : A) (answer : TaskPoll (Option T)) (path : List Deed) → PollPath cloned woken woken_by_ref compared awaiter path answer
      → acts_of path ≡ polls answer
  pub poll_cancel : (was_closed : Bool) (awaiter : A) (answer : TaskPoll (Option T)) (closing path : List Deed)
      → ClosesUnless was_closed (CancelPath (Scheduled false) Woken) closing
      → PollPath cloned woken woken_by_ref compared awaiter path answer
      → acts_of (closing ++ path) ≡ (if was_closed then polls answer else Cancels ∷ polls answer)
