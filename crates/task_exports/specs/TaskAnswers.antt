-- What the exports of the Task answer, by the number of the answer: what the party did, the oldest first, and where it stands then.
use Rattle.std.specs.declared.alloc.Global.{Global}
use Rattle.std.specs.Prelude.{◌≡◌, ◌-◌, ◌^◌, ◌||◌, nat_eq, ℕ, Bool, true, false, List, [], ◌∷◌, ◌++◌, Option, Some, None, is_some}
use Rattle.task_core.specs.Word.{State, is_open}
use Rattle.task_core.specs.declared.acts.Act.TheVariants.{CancelOver, CancelBusy, CancelIdle, GiveUpOutput, DropOutput, DetachOrphan}
use Rattle.task_core.specs.declared.acts.Act.TheVariants.{DetachLast, Detach, EndCall, HandOver, BeginNotify, MissNotify}
use Rattle.task_core.specs.declared.acts.Act.TheVariants.{TakeAwaiter, EndNotify, Look, ClaimOutput}
use Rattle.task_core.specs.declared.acts.Act.TheVariants.{CloneAwaiter, StoreAwaiter, FindNotify}
use Rattle.task_core.specs.declared.acts.Act.TheVariants.{BeginRegister, EndRegister, LookFinished}
use Rattle.task_laws.specs.declared.positions.Answer.TheVariants.{Nothing}
use Rattle.task_laws.specs.declared.positions.NotifyingCall.{NotifyingCall}
use Rattle.task_laws.specs.declared.positions.NotifyingCall.TheVariants.{OfCancel, OfPoll, OfClaim}
use Rattle.task_laws.specs.declared.positions.Position.{Position}
use Rattle.task_laws.specs.declared.positions.Position.TheVariants.{AwaiterInHand, Emptier, Looking, OutputCloser}
use Rattle.task_laws.specs.declared.positions.Position.TheVariants.{Registered, Registrar, Releaser, TookBack, TookOutput, UnusedClone}
use Rattle.task_laws.specs.Table.{after_storing, notifies}
use Rattle.task_steps.specs.Attempts.{HasMissed}
use Rattle.task_steps.specs.Stored.{stored_by}
use Rattle.task_steps.specs.declared.kept.StoredAwaiter.{StoredAwaiter}
use Rattle.task_steps.specs.declared.table.Deed.{Deed}
use Rattle.task_steps.specs.declared.table.Slot.{Slot}
use Rattle.task_steps.specs.Deeds.{row, act}
use Rattle.task_steps.specs.PollScripts.{has_output, has_ended, has_to_wait}
use Rattle.task_exports.specs.Unknown.{unknown}
use Rattle.task_steps.specs.Rule.{IsOutput, Waits, TaskPlace}
use Rattle.task_steps.specs.Standing.{as_ended, as_runnable, as_task}
use Rattle.task_steps.specs.Steps.{work_first, awaiter_first}
use Rattle.task_cell.specs.Calls.{Fits, Did, DidWith, Stands, StandsWith}
use Rattle.task_cell.specs.PollPaths.{dropped_if}
use Rattle.task_cell.specs.declared.cell.Party.{Party}
use Rattle.task_cell.specs.declared.cell.Cell.{Cell}
use Rattle.counted_block.specs.Blocks.{BlockId}
use Rattle.task_exports.specs.Hands.{IsGone, IsLast, IsLive}
use Rattle.task_exports.specs.Parties.{CellParty, cell_in}
use Rattle.task_exports.specs.declared.hand.Hand.{Hand}
use Rattle.task_exports.specs.declared.handle.Handle.{Handle}

-- the place of the awaiter is taken
abbrev pub taking : State → List Deed
taking v = row BeginNotify v ∷ act TakeAwaiter ∷ []

-- nobody is to be woken: no awaiter was due, or another party is at it
pub data PassesBy : Bool → List Deed → Type 0 where
  none_due : PassesBy false []
  finds_other : (w : State) → Fits MissNotify w → PassesBy true (row MissNotify w ∷ [])

-- these answers ask for the Runnable to be scheduled
abbrev pub schedules : ℕ → Bool
schedules r = nat_eq r 10 || nat_eq r 25

-- nothing stood where the clone was put, or an older awaiter
pub data IsStored : Option ℕ → ℕ → Type 0 where
  alone : IsStored None 20
  over : (old : ℕ) → IsStored (Some old) 21

module _ {F T A : Type 0} where
  -- the place of the awaiter is the party's, and what the machine says lies there
  abbrev pub AtPlace : NotifyingCall → List (ℕ × TaskPlace F T A) → Party F T A → Type 0
  AtPlace way held p = (hand : Option ℕ) × (y : Option (StoredAwaiter A)) × Waits hand y × StandsWith (Releaser hand way) (awaiter_first y held) p

  -- what lay in the place of the awaiter is in hand
  abbrev pub InHand : NotifyingCall → List (ℕ × TaskPlace F T A) → Party F T A → Type 0
  InHand way held p = (i : ℕ) × StandsWith (AwaiterInHand i way) held p

  -- the place is the party's after this path, by the word that it was taken on
  abbrev pub TakesPlace : NotifyingCall → (State → List Deed) → List (ℕ × TaskPlace F T A) → Party F T A → Party F T A → Type 0
  TakesPlace way path held p q =
      (v : State) × (hand : Option ℕ) × (y : Option (StoredAwaiter A)) × Fits BeginNotify v × Waits hand y
      × DidWith (path v) (Releaser hand way) (awaiter_first y held) p q

  -- the clone of poll i is in the place of the awaiter, and whether an older awaiter stood there, which has not been dropped yet
  abbrev pub HasStored : ℕ → Bool → Party F T A → Type 0
  HasStored i stood p =
      (old : Option ℕ) × (clone : StoredAwaiter A) × (is_some old ≡ stood) × (stored_by clone ≡ i)
      × StandsWith (after_storing i old) (awaiter_first (Some clone) []) p

  -- the clone of poll i was put into the place of the awaiter
  abbrev pub PutsIn : ℕ → Option ℕ → Party F T A → Party F T A → ℕ → Type 0
  PutsIn i old p q r = IsStored old r × (clone : StoredAwaiter A) × (stored_by clone ≡ i) × DidWith [] (after_storing i old) (awaiter_first (Some clone) []) p q

  -- the clone stays in the place, and an older awaiter is written down as dropped
  abbrev pub Settles : ℕ → Bool → Party F T A → Party F T A → Type 0
  Settles i stood p q = (clone : StoredAwaiter A) × (stored_by clone ≡ i) × DidWith (dropped_if stood) (Registered i) (awaiter_first (Some clone) []) p q

  -- a poll whose output was claimed, and which has the place of the awaiter
  abbrev pub ClaimAtPlace : ℕ → Slot F T → Party F T A → Type 0
  ClaimAtPlace i z p = IsOutput unknown z × AtPlace (OfClaim i) (work_first z []) p

  -- a poll whose output was claimed, with the awaiter in hand
  abbrev pub ClaimInHand : ℕ → Slot F T → Party F T A → Type 0
  ClaimInHand i z p = IsOutput unknown z × InHand (OfClaim i) (work_first z []) p

  -- a poll that is to hand the output out
  abbrev pub HasOutput : ℕ → Slot F T → Party F T A → Type 0
  HasOutput i z p = IsOutput unknown z × StandsWith (TookOutput i) (work_first z []) p

  -- a cancel by a Task that has begun n polls
  pub data Cancels (n : ℕ) (p q : Party F T A) : ℕ → Type 0 where
    cancel_missed : HasMissed (2 ^ 64 - 1) q.seat.me → Cancels n p q 0
    was_over : (w : State) → Fits CancelOver w → Did (row CancelOver w ∷ act EndCall ∷ []) (as_task n) p q → Cancels n p q 12
    closes : (w : State) (notice : List Deed) → Fits CancelBusy w → PassesBy w.awaiter notice
        → Did (row CancelBusy w ∷ notice ++ act EndCall ∷ []) (as_task n) p q → Cancels n p q 12
    closes_and_takes : (w : State) → Fits CancelBusy w → w.awaiter ≡ true
        → TakesPlace (OfCancel n) (λ v. row CancelBusy w ∷ taking v) [] p q → Cancels n p q 7
    schedules_now : (w : State) → Fits CancelIdle w → w.awaiter ≡ false
        → Did (row CancelIdle w ∷ act HandOver ∷ []) (notifies false (OfCancel n)) p q → Cancels n p q 10
    schedules_due : (w : State) → Fits CancelIdle w → w.awaiter ≡ true
        → Did (row CancelIdle w ∷ act HandOver ∷ []) (notifies true (OfCancel n)) p q → Cancels n p q 25

  -- a cancel goes on once the Runnable was scheduled that it handed over
  pub data CancelGoesOn (due : Bool) (n : ℕ) (p q : Party F T A) : ℕ → Type 0 where
    passes_by : (notice : List Deed) → PassesBy due notice → Did (notice ++ act EndCall ∷ []) (as_task n) p q → CancelGoesOn due n p q 12
    takes : due ≡ true → TakesPlace (OfCancel n) taking [] p q → CancelGoesOn due n p q 7

  -- what lay in the place of the awaiter was taken: it is in hand; or nothing lay there, and the party has gone on, with this answer
  pub data Releases (way : NotifyingCall) (held : List (ℕ × TaskPlace F T A)) (after : List Deed) (at : Position) (answer : ℕ)
      (p q : Party F T A) : ℕ → Type 0 where
    in_hand : (v : State) (i : ℕ) → DidWith (row EndNotify v ∷ []) (AwaiterInHand i way) held p q
        → Releases way held after at answer p q 14
    none_there : (v : State) → DidWith (row EndNotify v ∷ after) at held p q → Releases way held after at answer p q answer

  -- a poll that has claimed the output, on a word with an awaiter or without one
  pub data ClaimGoesOn (due : Bool) (i : ℕ) (z : Slot F T) (p q : Party F T A) : ℕ → Type 0 where
    has_it_now : (notice : List Deed) → PassesBy due notice → DidWith notice (TookOutput i) (work_first z []) p q
        → ClaimGoesOn due i z p q 16
    claim_takes : due ≡ true → TakesPlace (OfClaim i) taking (work_first z []) p q → ClaimGoesOn due i z p q 24

  -- a poll that has found the task ended
  pub data EndGoesOn (i : ℕ) (p q : Party F T A) : ℕ → Type 0 where
    ends_now : (v : State) → Fits MissNotify v → Did (row MissNotify v ∷ act EndCall ∷ []) (as_task i) p q → EndGoesOn i p q 17
    end_takes : TakesPlace (OfPoll i) taking [] p q → EndGoesOn i p q 7

  -- a look of poll i that claims the output by this path: where it is there it is claimed, and where the task has ended the poll is over;
  -- both once the awaiter was taken
  pub data Answers (i : ℕ) (claims : State → List Deed) (p q : Party F T A) : ℕ → Type 0 where
    has_it : (w : State) (z : Slot F T) (notice : List Deed) → has_output w ≡ true → IsOutput unknown z → PassesBy w.awaiter notice
        → DidWith (claims w ++ notice) (TookOutput i) (work_first z []) p q → Answers i claims p q 16
    has_it_and_takes : (w : State) (z : Slot F T) → has_output w ≡ true → IsOutput unknown z → w.awaiter ≡ true
        → TakesPlace (OfClaim i) (λ v. claims w ++ taking v) (work_first z []) p q → Answers i claims p q 24
    ends : (w v : State) → has_ended w ≡ true → Fits MissNotify v
        → Did (row Look w ∷ row MissNotify v ∷ act EndCall ∷ []) (as_task i) p q → Answers i claims p q 17
    ends_and_takes : (w : State) → has_ended w ≡ true → TakesPlace (OfPoll i) (λ v. row Look w ∷ taking v) [] p q → Answers i claims p q 7

  -- the first look: or the awaiter is to be registered
  pub data Polls (i : ℕ) (p q : Party F T A) : ℕ → Type 0 where
    poll_missed : HasMissed (2 ^ 64 - 1) q.seat.me → Polls i p q 0
    answers : (r : ℕ) → Answers i (λ w. row ClaimOutput w ∷ []) p q r → Polls i p q r
    registers : (w : State) → has_output w ≡ false → has_ended w ≡ false → Did (row Look w ∷ []) (Registrar i) p q → Polls i p q 19

  -- the look of a poll that has registered: or the poll waits
  pub data LooksOn (i : ℕ) (p q : Party F T A) : ℕ → Type 0 where
    look_missed : HasMissed (2 ^ 64 - 1) q.seat.me → LooksOn i p q 0
    answers_now : (r : ℕ) → Answers i (λ w. row Look w ∷ row ClaimOutput w ∷ []) p q r → LooksOn i p q r
    waits : (w : State) → has_to_wait w ≡ true → Did (row Look w ∷ act EndCall ∷ []) (as_task i) p q → LooksOn i p q 18

  -- the look of a poll that has registered, after this path
  abbrev pub LooksAfter : ℕ → List Deed → Party F T A → Party F T A → ℕ → Type 0
  LooksAfter i path p q r = (between : Party F T A) × Did path (Looking i) p between × LooksOn i between q r

  -- the place of the awaiter is taken for the clone, which the cell has in it; or a notifier is there
  pub data Stores (i : ℕ) (p q : Party F T A) : ℕ → Type 0 where
    store_missed : HasMissed (2 ^ 64 - 1) q.seat.me → Stores i p q 0
    stores : (w : State) (old : Option ℕ) (clone : StoredAwaiter A) (r : ℕ) → w.notifying ≡ false → IsStored old r → stored_by clone ≡ i
        → DidWith (act CloneAwaiter ∷ row BeginRegister w ∷ act StoreAwaiter ∷ []) (after_storing i old) (awaiter_first (Some clone) []) p q
        → Stores i p q r
    finds_notifier : (w : State) → w.notifying ≡ true → Did (act CloneAwaiter ∷ row FindNotify w ∷ []) (UnusedClone i) p q
        → Stores i p q 22

  -- the clone was put in, and the place is given back; or a notifier came meanwhile
  pub data EndsStore (i : ℕ) (stood : Bool) (p q : Party F T A) : ℕ → Type 0 where
    end_missed : HasMissed (2 ^ 64 - 1) q.seat.me → EndsStore i stood p q 0
    looks : (v : State) (r : ℕ) → v.notifying ≡ false → LooksAfter i (dropped_if stood ++ row EndRegister v ∷ []) p q r
        → EndsStore i stood p q r
    has_to_take_back : (clone : StoredAwaiter A) → DidWith (dropped_if stood ++ act TakeAwaiter ∷ []) (TookBack i) (awaiter_first (Some clone) []) p q
        → EndsStore i stood p q 23

module _ {F T A : Type 0} where
  -- whether the task is over, by one look at the word
  pub data Looks (n : ℕ) (p q : Party F T A) : ℕ → Type 0 where
    is_over : (w : State) → is_open w ≡ false → Did (row LookFinished w ∷ act EndCall ∷ []) (as_task n) p q → Looks n p q 1
    is_not : (w : State) → is_open w ≡ true → Did (row LookFinished w ∷ act EndCall ∷ []) (as_task n) p q → Looks n p q 0

-- the hand has become this one of the same cell, whose share is there still
abbrev pub Becomes : Hand → Hand → Type 0
Becomes x y = IsLive y × (cell_in y ≡ cell_in x)

-- the hand has become this one of the same cell, which has the last share
abbrev pub BecomesLast : Hand → Hand → Type 0
BecomesLast x y = IsLast y × (cell_in y ≡ cell_in x)

-- a detach: 1, the party has ended; 9, it was the last, and has the place of the awaiter, to be emptied; 5, the output is to be dropped;
-- 10, the hand is that of the Runnable which was handed over, by a party that has ended
pub data Detaches (x y : Hand) : Option CellParty → ℕ → Type 0 where
  detach_missed : HasMissed (2 ^ 64 - 1) y.party.seat.me → Detaches x y None 0
  is_shared : (w : State) → Fits Detach w → IsGone y → Did (row Detach w ∷ act EndCall ∷ []) as_ended x.party y.party → Detaches x y None 1
  is_last : (w : State) (z : _) → Fits DetachLast w → BecomesLast x y
      → DidWith (row DetachLast w ∷ []) (Emptier None Nothing) (awaiter_first z []) x.party y.party → Detaches x y None 9
  is_unclaimed : (w : State) (z : _) → Fits GiveUpOutput w → IsOutput unknown z → Becomes x y
      → DidWith (row GiveUpOutput w ∷ []) OutputCloser (work_first z []) x.party y.party → Detaches x y None 5
  is_orphaned : (w : State) (ended : CellParty) → Fits DetachOrphan w
      → Did (row DetachOrphan w ∷ act HandOver ∷ act EndCall ∷ []) as_ended x.party ended → Becomes x y → Stands as_runnable y.party
      → Detaches x y (Some ended) 10

-- the end of a detach once the output was dropped
pub data EndsDetach (x y : Hand) : ℕ → Type 0 where
  leaves_others : (w : State) → Fits Detach w → IsGone y → Did (act DropOutput ∷ row Detach w ∷ act EndCall ∷ []) as_ended x.party y.party
      → EndsDetach x y 1
  leaves_none : (w : State) (z : _) → Fits DetachLast w → BecomesLast x y
      → DidWith (act DropOutput ∷ row DetachLast w ∷ []) (Emptier None Nothing) (awaiter_first z []) x.party y.party → EndsDetach x y 9

-- a Runnable of this cell, by a share of it
abbrev pub IsRunnableAt : BlockId × Cell Unit Unit Unit Global → Hand → Type 0
IsRunnableAt cell x = IsLive x × (cell_in x ≡ cell) × Stands as_runnable x.party

-- a Runnable of this cell lies in the place, where this is so, and else nothing
abbrev pub HasRunnable : Bool → BlockId × Cell Unit Unit Unit Global → Handle → Type 0
HasRunnable true cell k = (k.there ≡ true) × IsRunnableAt cell k.hand
HasRunnable false cell k = k.there ≡ false
