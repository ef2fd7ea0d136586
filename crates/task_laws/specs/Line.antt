-- 7 of 16: a line of the table: what a party does at its position by an act, whatever the word and the slots are.
use Rattle.std.specs.Prelude.{ℕ, Bool, true, false, not, ◌&&◌, List, [], ◌∷◌, ◌++◌, Option, Some, None, if◌then◌else◌}
use Rattle.task_core.specs.Word.{State, is_open}
use Rattle.task_laws.specs.Event.{Event, Finished, Closes, CloneEnded}
use Rattle.task_laws.specs.Position.{Rest, Task, NotifyingCall, OfRun, Position, CallEnding, Deliverer, OutputInHand, Releaser}
use Rattle.task_laws.specs.Scene.{Slots, Scene, Outcome, when}
use Rattle.task_laws.specs.Onward.{notifies, after_cancelling}
use Rattle.task_laws.specs.Asks.{may_ask, may_gain, may_wake, may_drop, after_storing, first_look, second_look}

-- what it asks beside what its row finds
pub data Guard : Type 0 where
  Always IsClaimed IsClosed IsNotified : Guard
  MayAsk MayGain MayWake : Rest → Guard
  MayDrop : NotifyingCall → Guard

-- what it does to the slots
pub data SlotEdit : Type 0 where
  KeepsSlots DropsFuture StoresOutput EndsOutput EmptiesAwaiter : SlotEdit
  StoresAwaiter : ℕ → SlotEdit

-- where the party goes: to a position, or to one that hangs on what it finds
pub data Next : Type 0 where
  MovesTo : Position → Next
  Notifies : NotifyingCall → Next
  EndsRun EndsDetached : Next
  Delivers Answers LooksFirst LooksAgain StoresOver : ℕ → Next
  Releases : NotifyingCall → Next

-- what is told beside its own events
pub data Also : Type 0 where
  NothingElse ClosesIfOpen EndsClone : Also

-- a line: when the act may be made, and what it does
pub record Line : Type 0 where
  pub guard : Guard
  pub slots : SlotEdit
  pub next : Next
  pub born : List Position
  pub told : List Event
  pub also : Also

-- whether a guard lets the party act in this scene
abbrev pub holds : Scene → Guard → Bool
holds s Always = true
holds s IsClaimed = let w = s.word in not (w.completed && not w.closed)
holds s IsClosed = s.word.closed
holds s IsNotified = s.word.notifying
holds s (MayAsk r) = may_ask r
holds s (MayGain r) = may_gain s r
holds s (MayWake r) = may_wake s r
holds s (MayDrop way) = may_drop way

-- the slots after an edit
abbrev pub edited : SlotEdit → Slots → Slots
edited KeepsSlots slots = slots
edited DropsFuture slots = record slots { future = false }
edited StoresOutput slots = record slots { output = true }
edited EndsOutput slots = record slots { output = false }
edited EmptiesAwaiter slots = record slots { awaiter = None }
edited (StoresAwaiter i) slots = record slots { awaiter = Some i }

-- the position to which the party goes in this scene
abbrev pub next_of : Scene → Next → Position
next_of s (MovesTo p) = p
next_of s (Notifies way) = notifies s.word.awaiter way
next_of s EndsRun = let w = s.word in if w.closed then OutputInHand w.awaiter else notifies w.awaiter OfRun
next_of s EndsDetached = OutputInHand s.word.awaiter
next_of s (Delivers n) = Deliverer false (after_cancelling s.word.awaiter n)
next_of s (Answers n) = CallEnding (Finished (not (is_open s.word))) (Task n)
next_of s (LooksFirst i) = first_look s.word i
next_of s (LooksAgain i) = second_look s.word i
next_of s (StoresOver i) = after_storing i s.slots.awaiter
next_of s (Releases way) = Releaser s.slots.awaiter way

-- the end of an awaiter's clone, where there was one
abbrev pub ended_clone : Option ℕ → List Event
ended_clone (Some i) = CloneEnded i ∷ []
ended_clone None = []

-- what is told in all
abbrev pub told_of : Scene → Also → List Event → List Event
told_of s NothingElse told = told
told_of s ClosesIfOpen told = if s.word.closed then told else Closes ∷ told
told_of s EndsClone told = told ++ ended_clone s.slots.awaiter

-- what the line leaves in a scene, where v is the word written
abbrev pub leaves : Scene → State → Option Line → Option Outcome
leaves s v None = None
leaves s v (Some l) = when (holds s l.guard)
    (record { word = v; slots = edited l.slots s.slots; next = next_of s l.next; born = l.born; told = told_of s l.also l.told })

-- the party goes on
abbrev pub moves_to : Position → List Event → Line
moves_to p told = record { guard = Always; slots = KeepsSlots; next = MovesTo p; born = []; told = told; also = NothingElse }

-- the party goes on to a position that hangs on what it finds
abbrev pub moves_on : Next → List Event → Line
moves_on next told = record { guard = Always; slots = KeepsSlots; next = next; born = []; told = told; also = NothingElse }

-- the same, and a party is added
abbrev pub adds : Position → Position → List Event → Line
adds p born told = record { guard = Always; slots = KeepsSlots; next = MovesTo p; born = born ∷ []; told = told; also = NothingElse }

-- the same, and a slot changes
abbrev pub changes : SlotEdit → Position → List Event → Line
changes edit p told = record { guard = Always; slots = edit; next = MovesTo p; born = []; told = told; also = NothingElse }
