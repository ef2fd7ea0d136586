-- The paths of a poll of the Task, part by part, and what its steps come to for the party that makes them.
use Rattle.std.specs.Prelude.{◌≡◌, ℕ, Bool, true, false, List, [], ◌∷◌, ◌++◌, Option, Some, None, Result, Ok, Err, IfOk, IfSome, ⊤}
use Rattle.task_core.specs.Word.{State}
use Rattle.task_core.specs.declared.traits.TaskPoll.{TaskPoll}
use Rattle.task_core.specs.declared.traits.TaskPoll.TheVariants.{Pending as Waits, Ready, Refused}
use Rattle.task_laws.specs.declared.positions.NotifyingCall.TheVariants.{OfPoll, OfClaim}
use Rattle.task_laws.specs.declared.positions.Position.TheVariants.{Notifier, Looking, UnusedClone, TookBack}
use Rattle.task_core.specs.declared.acts.Act.TheVariants.{Look, ClaimOutput, HandOutOutput, CloneAwaiter, RefuseClone, StoreAwaiter}
use Rattle.task_core.specs.declared.acts.Act.TheVariants.{TakeAwaiter, FindNotify, BeginRegister, EndRegister, EndRegisterNotified}
use Rattle.task_core.specs.declared.acts.Act.TheVariants.{DropAwaiter, WakeAwaiter, EndCall, BeginNotify, MissNotify, EndNotify}
use Rattle.task_laws.specs.Table.{notifies, first_look, after_storing}
use Rattle.task_steps.specs.declared.table.Slot.{Slot}
use Rattle.task_steps.specs.declared.kept.StoredAwaiter.{StoredAwaiter}
use Rattle.task_steps.specs.declared.table.Deed.{Deed}
use Rattle.task_cell.specs.declared.cell.Party.{Party}
use Rattle.task_steps.specs.Values.{Values}
use Rattle.task_steps.specs.Rule.{IsOutput, Waits as SlotWaits}
use Rattle.task_steps.specs.Steps.{work_first, awaiter_first}
use Rattle.task_cell.specs.Calls.{Fits, Did, DidWith, places_of, position}
use Rattle.task_steps.specs.Deeds.{row, act}
use Rattle.task_steps.specs.Standing.{as_task, poll_number}
use Rattle.task_steps.specs.PollScripts.{has_output, has_ended, has_to_wait}

-- the awaiter of an older poll is dropped, where one stood
abbrev pub dropped_if : Bool → List Deed
dropped_if true = act DropAwaiter ∷ []
dropped_if false = []

-- K is the type of the records that the awaiter's calls answer
module _ {A K : Type 0} where
  -- the stored awaiter is taken: it is woken, or dropped where its wake wakes the caller
  pub data TakePath (woken : A → K → Type 0) (compared : A → A → Bool → Type 0) (awaiter : A) : List Deed → Type 0 where
    misses : (w : State) → Fits MissNotify w → TakePath woken compared awaiter (row MissNotify w ∷ [])
    finds_none : (w v : State) → Fits BeginNotify w
        → TakePath woken compared awaiter (row BeginNotify w ∷ act TakeAwaiter ∷ row EndNotify v ∷ [])
    wakes : (w v : State) (taken : A) (told : K) → Fits BeginNotify w → compared taken awaiter false → woken taken told
        → TakePath woken compared awaiter (row BeginNotify w ∷ act TakeAwaiter ∷ row EndNotify v ∷ act WakeAwaiter ∷ [])
    drops : (w v : State) (taken : A) → Fits BeginNotify w → compared taken awaiter true
        → TakePath woken compared awaiter (row BeginNotify w ∷ act TakeAwaiter ∷ row EndNotify v ∷ act DropAwaiter ∷ [])

  -- the same where the word found says that an awaiter is stored
  abbrev pub TakePathIf : (A → K → Type 0) → (A → A → Bool → Type 0) → A → Bool → List Deed → Type 0
  TakePathIf woken compared awaiter true path = TakePath woken compared awaiter path
  TakePathIf woken compared awaiter false path = path ≡ []

  -- the output is claimed on this word, and handed out
  pub data ClaimPath (woken : A → K → Type 0) (compared : A → A → Bool → Type 0) (awaiter : A) (w : State) : List Deed → Type 0 where
    claims : (taken : List Deed) → has_output w ≡ true → TakePathIf woken compared awaiter w.awaiter taken
        → ClaimPath woken compared awaiter w (row ClaimOutput w ∷ taken ++ (act HandOutOutput ∷ act EndCall ∷ []))

  -- the caller's awaiter is registered, or a wake is made up for
  pub data RegisterPath (cloned : A → Result A K → Type 0) (woken woken_by_ref : A → K → Type 0) (awaiter : A) : List Deed → Type 0 where
    finds_notifier : (w : State) (clone : A) (told : K) → w.notifying ≡ true → cloned awaiter (Ok clone) → woken_by_ref awaiter told
        → RegisterPath cloned woken woken_by_ref awaiter (act CloneAwaiter ∷ row FindNotify w ∷ act DropAwaiter ∷ [])
    registers : (w v : State) (stood : Bool) (clone : A) → w.notifying ≡ false → v.notifying ≡ false → cloned awaiter (Ok clone)
        → RegisterPath cloned woken woken_by_ref awaiter
        (act CloneAwaiter ∷ row BeginRegister w ∷ act StoreAwaiter ∷ dropped_if stood ++ (row EndRegister v ∷ []))
    was_notified : (w v : State) (stood : Bool) (clone : A) (told : K) → w.notifying ≡ false → v.notifying ≡ true → cloned awaiter (Ok clone)
        → woken clone told
        → RegisterPath cloned woken woken_by_ref awaiter
        (act CloneAwaiter ∷ row BeginRegister w ∷ act StoreAwaiter ∷ dropped_if stood
        ++ (act TakeAwaiter ∷ row EndRegisterNotified v ∷ act WakeAwaiter ∷ []))

  -- a poll that has registered looks again, and answers by what it finds
  pub data AnswerPath {T : Type 0} (woken : A → K → Type 0) (compared : A → A → Bool → Type 0) (awaiter : A) : List Deed → TaskPoll (Option T)
      → Type 0 where
    waits : (w : State) → has_to_wait w ≡ true → AnswerPath woken compared awaiter (row Look w ∷ act EndCall ∷ []) Waits
    has_ended_since : (w : State) (taken : List Deed) → has_ended w ≡ true → TakePath woken compared awaiter taken
        → AnswerPath woken compared awaiter (row Look w ∷ taken ++ (act EndCall ∷ [])) (Ready None)
    has_output_since : (w : State) (path : List Deed) (x : T) → ClaimPath woken compared awaiter w path
        → AnswerPath woken compared awaiter (row Look w ∷ path) (Ready (Some x))

  -- a poll, by what its first look found
  pub data PollPath {T : Type 0} (cloned : A → Result A K → Type 0) (woken woken_by_ref : A → K → Type 0) (compared : A → A → Bool → Type 0)
      (awaiter : A) : List Deed → TaskPoll (Option T) → Type 0 where
    finds_output : (w : State) (path : List Deed) (x : T) → ClaimPath woken compared awaiter w path
        → PollPath cloned woken woken_by_ref compared awaiter path (Ready (Some x))
    finds_ended : (w : State) (taken : List Deed) → has_ended w ≡ true → TakePath woken compared awaiter taken
        → PollPath cloned woken woken_by_ref compared awaiter (row Look w ∷ taken ++ (act EndCall ∷ [])) (Ready None)
    is_refused : (w : State) (told : K) → has_output w ≡ false → has_ended w ≡ false → cloned awaiter (Err told)
        → PollPath cloned woken woken_by_ref compared awaiter (row Look w ∷ act RefuseClone ∷ act EndCall ∷ []) Refused
    looks_again : (w : State) (registered path : List Deed) (answer : TaskPoll (Option T)) → has_output w ≡ false → has_ended w ≡ false
        → RegisterPath cloned woken woken_by_ref awaiter registered → AnswerPath woken compared awaiter path answer
        → PollPath cloned woken woken_by_ref compared awaiter (row Look w ∷ registered ++ path) answer

-- the fact holds of the output that a poll of the cell answered, if there is one
abbrev pub IfHandedOut : {T : Type 0} → TaskPoll (Option T) → (T → Type 0) → Type 0
IfHandedOut (Ready answer) P = IfSome answer P
IfHandedOut Waits P = ⊤
IfHandedOut Refused P = ⊤

-- the fact holds of the output that a poll of the Task answered, if there is one
abbrev pub IfOutput : {T E : Type 0} → TaskPoll (Result T E) → (T → Type 0) → Type 0
IfOutput (Ready answer) P = IfOk answer P
IfOutput Waits P = ⊤
IfOutput Refused P = ⊤

module _ {F T A : Type 0} where
  -- by this path the output was claimed, on this word
  pub record ClaimsOutput (values : Values F T) (w : State) (path : List Deed) (p q : Party F T A) : Type 0 where
    pub there : has_output w ≡ true
    pub output : Slot F T
    pub is_output : IsOutput values output
    pub did : DidWith path (notifies w.awaiter (OfClaim (poll_number (position p)))) (work_first output []) p q

  -- the first look of a poll
  pub data Looks (values : Values F T) (p q : Party F T A) : Result State State → Type 0 where
    claims_output : (w : State) → ClaimsOutput values w (row ClaimOutput w ∷ []) p q → Looks values p q (Ok w)
    sees_none : (w : State) → has_output w ≡ false → Did (row Look w ∷ []) (first_look w (poll_number (position p))) p q
        → Looks values p q (Err w)

  -- the look of a poll that has registered
  pub data LooksAgain (values : Values F T) (p q : Party F T A) : Result State State → Type 0 where
    claims_output_now : (w : State) → ClaimsOutput values w (row Look w ∷ row ClaimOutput w ∷ []) p q → LooksAgain values p q (Ok w)
    has_to_wait_on : (w : State) → has_to_wait w ≡ true → Did (row Look w ∷ act EndCall ∷ []) (as_task (poll_number (position p))) p q
        → LooksAgain values p q (Err w)
    sees_end : (w : State) → has_to_wait w ≡ false → has_ended w ≡ true
        → Did (row Look w ∷ []) (Notifier (OfPoll (poll_number (position p)))) p q → LooksAgain values p q (Err w)

  -- the awaiter slot is taken, unless there is a notifier
  pub data BeginsRegister (p q : Party F T A) : Bool → Type 0 where
    begins : (w : State) (hand : Option ℕ) (y : Option (StoredAwaiter A)) → w.notifying ≡ false → SlotWaits hand y
        → DidWith (act CloneAwaiter ∷ row BeginRegister w ∷ act StoreAwaiter ∷ []) (after_storing (poll_number (position p)) hand)
        (awaiter_first y []) p q → BeginsRegister p q true
    finds_one : (w : State) → w.notifying ≡ true
        → Did (act CloneAwaiter ∷ row FindNotify w ∷ []) (UnusedClone (poll_number (position p))) p q → BeginsRegister p q false

  -- the awaiter slot is given back with the clone in it, unless there is a notifier by then: then the clone is taken back
  pub data EndsRegister (p q : Party F T A) : Bool → Type 0 where
    ends : (v : State) → v.notifying ≡ false → Did (row EndRegister v ∷ []) (Looking (poll_number (position p))) p q
        → EndsRegister p q true
    finds_notified : DidWith (act TakeAwaiter ∷ []) (TookBack (poll_number (position p))) (places_of p) p q → EndsRegister p q false

  -- the caller's awaiter is registered, which comes to this, unless its clone is refused
  pub data Registers {B K : Type 0} (cloned : B → Result B K → Type 0) (woken woken_by_ref : B → K → Type 0) (awaiter : B) (Comes : Type 0)
      (p q : Party F T A) : Bool → Type 0 where
    is_registered : (path : List Deed) → RegisterPath cloned woken woken_by_ref awaiter path
        → Did path (Looking (poll_number (position p))) p q → Comes → Registers cloned woken woken_by_ref awaiter Comes p q true
    clone_refused : (told : K) → cloned awaiter (Err told) → Did (act RefuseClone ∷ act EndCall ∷ []) (as_task (poll_number (position p))) p q
        → Registers cloned woken woken_by_ref awaiter Comes p q false
