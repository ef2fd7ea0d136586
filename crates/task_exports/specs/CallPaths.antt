-- What the parts of a call come to that a caller makes of the exports.
use Rattle.std.specs.Prelude.{◌≡◌, ◌||◌, nat_eq, ℕ, Bool, true, false, List, [], ◌∷◌, ◌++◌, Option, Some, None, Result, Err, ⊤}
use Rattle.task_core.specs.Word.{State}
use Rattle.task_core.specs.declared.acts.Act.{Act}
use Rattle.task_core.specs.declared.acts.Act.TheVariants.{ClaimOutput, DropAwaiter, DropFuture, DropOutput, EndCall, EndNotify, EndRegister, EndRegisterNotified}
use Rattle.task_core.specs.declared.acts.Act.TheVariants.{HandOutOutput, Look, RefuseClone, StoreAwaiter, StoreOutput, TakeAwaiter, WakeAwaiter}
use Rattle.task_core.specs.declared.traits.TaskPoll.{TaskPoll}
use Rattle.task_core.specs.declared.traits.TaskPoll.TheVariants.{Refused}
use Rattle.task_cell.specs.PollPaths.{AnswerPath, RegisterPath, TakePath, TakePathIf, dropped_if}
use Rattle.task_cell.specs.RunPaths.{NotifyPath, ReleasePath, WakePath}
use Rattle.task_cell.specs.WakerPaths.{TaskWakePath}
use Rattle.task_exports.specs.Answers.{Records}
use Rattle.task_exports.specs.Parties.{CellParty}
use Rattle.task_exports.specs.TaskAnswers.{LooksOn, Polls}
use Rattle.task_exports.specs.declared.hand.Hand.{Hand}
use Rattle.task_exports.specs.declared.handle.Handle.{Handle}
use Rattle.task_steps.specs.Deeds.{row, act}
use Rattle.task_steps.specs.PollScripts.{has_ended, has_output}
use Rattle.task_steps.specs.declared.table.Deed.{Deed}

-- the answers by which a call ends that has handed its share on
abbrev pub hands_on : ℕ → Bool
hands_on n = nat_eq n 10 || nat_eq n 11

-- what was taken out of the awaiter's place is woken, where something lay there
pub data WakesTaken (Woken : Type 0) : List Deed → Type 0 where
  finds_none : (v : State) → WakesTaken Woken (row EndNotify v ∷ [])
  wakes_it : (v : State) → Woken → WakesTaken Woken (row EndNotify v ∷ act WakeAwaiter ∷ [])

-- a wake by a handle of this hand's cell: nothing is due, and the place has the record; or its Runnable was handed to the schedule function
pub data Woke (Scheduled : Type 0) (x : Hand) (k : Handle) : Type 0 where
  hands_none : (path : List Deed) → TaskWakePath false path → k.there ≡ true → Records path x k.hand → Woke Scheduled x k
  hands_one : k.there ≡ false → Scheduled → Woke Scheduled x k

-- what lay in the awaiter's place was taken out, the reference given up, and what was taken woken last
pub data EndsTaken (Woken : Type 0) : List Deed → Type 0 where
  ends_taken : (v : State) (taken : Bool) (r k : List Deed) → ReleasePath r → WakePath Woken taken k
      → EndsTaken Woken (row EndNotify v ∷ (r ++ (k ++ act EndCall ∷ [])))

-- the rest of a Runnable's drop, whose future was dropped: the awaiter that was taken is woken, and then the reference given up
pub data LeavesPath (Woken : Type 0) : Bool → List Deed → Type 0 where
  leaves : (due taken : Bool) (n k r : List Deed) → NotifyPath due taken n → WakePath Woken taken k → ReleasePath r
      → LeavesPath Woken due (n ++ (k ++ (r ++ act EndCall ∷ [])))

-- the rest of a Runnable's drop that has the awaiter's place
pub data WakesAndLeaves (Woken : Type 0) : List Deed → Type 0 where
  wakes_and_leaves : (v : State) (taken : Bool) (k r : List Deed) → WakePath Woken taken k → ReleasePath r
      → WakesAndLeaves Woken (row EndNotify v ∷ (k ++ (r ++ act EndCall ∷ [])))

-- what a look of poll i comes to: the first one, or the one after it has registered
abbrev pub LooksBy : Bool → ℕ → CellParty → CellParty → ℕ → Type 0
LooksBy true i p q r = Polls i p q r
LooksBy false i p q r = LooksOn i p q r

-- the deeds by which that look claims the output
abbrev pub claims_by : Bool → State → List Deed
claims_by true = λ w. row ClaimOutput w ∷ []
claims_by false = λ w. row Look w ∷ row ClaimOutput w ∷ []

-- the answers of the look of a poll that has registered, unless its tries have missed
abbrev pub is_look : ℕ → Bool
is_look r = nat_eq r 7 || (nat_eq r 16 || (nat_eq r 17 || (nat_eq r 18 || nat_eq r 24)))

-- K is the type of the records that the awaiter's calls answer
module _ {A K : Type 0} where
  -- what lay in the awaiter's place was taken out by a poll: it is woken, or dropped where its wake wakes the caller
  pub data TakesOut (woken : A → K → Type 0) (compared : A → A → Bool → Type 0) (awaiter : A) : List Deed → Type 0 where
    nothing_there : (v : State) → TakesOut woken compared awaiter (row EndNotify v ∷ [])
    wakes_other : (v : State) (taken : A) (told : K) → compared taken awaiter false → woken taken told
        → TakesOut woken compared awaiter (row EndNotify v ∷ act WakeAwaiter ∷ [])
    drops_same : (v : State) (taken : A) → compared taken awaiter true
        → TakesOut woken compared awaiter (row EndNotify v ∷ act DropAwaiter ∷ [])

  -- a look that claims the output by this path has found it, or the end of the task, and the poll ends
  pub data EndsLook {T : Type 0} (woken : A → K → Type 0) (compared : A → A → Bool → Type 0) (awaiter : A) (claims : State → List Deed)
      : List Deed → Option T → Type 0 where
    found_output : (w : State) (taken : List Deed) (x : T) → has_output w ≡ true → TakePathIf woken compared awaiter w.awaiter taken
        → EndsLook woken compared awaiter claims (claims w ++ (taken ++ (act HandOutOutput ∷ act EndCall ∷ []))) (Some x)
    found_end : (w : State) (taken : List Deed) → has_ended w ≡ true → TakePath woken compared awaiter taken
        → EndsLook woken compared awaiter claims (row Look w ∷ taken ++ (act EndCall ∷ [])) None

  -- the clone lies in the awaiter's place: it stays there, or a notifier came meanwhile, and it is taken back and woken
  pub data EndsRegister (woken : A → K → Type 0) (clone : A) (stood : Bool) : List Deed → Type 0 where
    stays_there : (v : State) → v.notifying ≡ false → EndsRegister woken clone stood (dropped_if stood ++ (row EndRegister v ∷ []))
    is_taken_back : (v : State) (told : K) → v.notifying ≡ true → woken clone told
        → EndsRegister woken clone stood (dropped_if stood ++ (act TakeAwaiter ∷ row EndRegisterNotified v ∷ act WakeAwaiter ∷ []))

  -- a poll whose first look has found neither output nor end: its awaiter refuses to be cloned, or is registered, and the poll looks again
  pub data GoesOnPolling {T : Type 0} (cloned : A → Result A K → Type 0) (woken woken_by_ref : A → K → Type 0)
      (compared : A → A → Bool → Type 0) (awaiter : A) : List Deed → TaskPoll (Option T) → Type 0 where
    refuses : (told : K) → cloned awaiter (Err told)
        → GoesOnPolling cloned woken woken_by_ref compared awaiter (act RefuseClone ∷ act EndCall ∷ []) Refused
    registers_first : (registered path : List Deed) (answer : TaskPoll (Option T)) → RegisterPath cloned woken woken_by_ref awaiter registered
        → AnswerPath woken compared awaiter path answer → GoesOnPolling cloned woken woken_by_ref compared awaiter (registered ++ path) answer

-- the fact of an act in the place of the future and the output, or in that of the awaiter
abbrev pub Asked : (Act → Type 0) → Act → Type 0
Asked did DropFuture = did DropFuture
Asked did StoreOutput = did StoreOutput
Asked did DropOutput = did DropOutput
Asked did HandOutOutput = did HandOutOutput
Asked did StoreAwaiter = did StoreAwaiter
Asked did _ = ⊤

-- the fact of each act of a path in such a place
abbrev pub Done : (Act → Type 0) → List Deed → Type 0
Done did [] = ⊤
Done did (d ∷ path) = Asked did d.act × Done did path
