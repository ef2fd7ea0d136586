-- No call waits for another: each party in a call may step now.
use Rattle.std.specs.Prelude.{◌≡◌, ℕ, Bool, true, false, ◌||◌, if◌then◌else◌, nat_eq, nat_lt, List, Some, is_some, slice_get}
use Rattle.task_core.specs.Word.{State}
use Rattle.task_laws.specs.declared.positions.Rest.TheVariants.{Task}
use Rattle.task_laws.specs.declared.positions.NotifyingCall.{NotifyingCall}
use Rattle.task_laws.specs.declared.positions.NotifyingCall.TheVariants.{OfRun, OfDrop, OfCancel, OfPoll, OfClaim}
use Rattle.task_laws.specs.declared.positions.OnceDelivered.TheVariants.{ThenTask, ThenNotifies}
use Rattle.task_laws.specs.declared.positions.Position.{Position}
use Rattle.task_laws.specs.declared.positions.Position.TheVariants.{At, CallEnding, Deliverer, Starting, Polling, Pending, Ready}
use Rattle.task_laws.specs.declared.positions.Position.TheVariants.{ReadyFutureDropped, OutputStored, PendingFutureDropped, FutureInHand}
use Rattle.task_laws.specs.declared.positions.Position.TheVariants.{FutureGone, OutputInHand, GivingUp, Emptier, Notifier, Taker, Releaser}
use Rattle.task_laws.specs.declared.positions.Position.TheVariants.{AwaiterInHand, OrphanHolder, Registrar, HasClone, UnusedClone, Storing}
use Rattle.task_laws.specs.declared.positions.Position.TheVariants.{Registered, TookBack, CloneInHand, Looking, SawOutput, TookOutput}
use Rattle.task_laws.specs.declared.positions.Position.TheVariants.{OldAwaiterInHand, Answering, OutputCloser, Detacher}
use Rattle.task_core.specs.declared.acts.Act.{Act}
use Rattle.task_core.specs.declared.acts.Act.TheVariants.{CloseOrphan, GiveUpReference, GiveUpLastReference, ClaimOutput, DetachLast}
use Rattle.task_core.specs.declared.acts.Act.TheVariants.{Detach, Unschedule, Complete, CompleteDetached, EndClosed, Reschedule, EndIdle}
use Rattle.task_core.specs.declared.acts.Act.TheVariants.{EndOrphaned, BeginNotify, MissNotify, FindNotify, BeginRegister, EndNotify}
use Rattle.task_core.specs.declared.acts.Act.TheVariants.{EndRegister, EndRegisterNotified, Look, StartPoll, AnswerPending, DropFuture}
use Rattle.task_core.specs.declared.acts.Act.TheVariants.{StoreOutput, DropOutput, HandOutOutput, CloneAwaiter, StoreAwaiter, TakeAwaiter}
use Rattle.task_core.specs.declared.acts.Act.TheVariants.{WakeAwaiter, DropAwaiter, HandOver, EmptySlots, EndCall}
use Rattle.task_laws.specs.Machine.{Machine, Step, step, run}
use Rattle.task_progress.specs.StepsLeft.{in_call}

-- an act that a party in a call may make, by the word and its own position alone
abbrev pub next_act : State → Position → Act
next_act w (Deliverer woken next) = HandOver
next_act w Starting = StartPoll
next_act w Polling = AnswerPending
next_act w Pending =
    if w.closed then DropFuture
    else (if w.scheduled then Reschedule else (if nat_lt 1 w.references || w.task then EndIdle else EndOrphaned))
next_act w Ready = DropFuture
next_act w ReadyFutureDropped = StoreOutput
next_act w OutputStored = if w.task then Complete else CompleteDetached
next_act w PendingFutureDropped = EndClosed
next_act w (FutureInHand closer) = DropFuture
next_act w (FutureGone closer) = Unschedule
next_act w (OutputInHand due) = DropOutput
next_act w (GivingUp hand answer) = if nat_lt 1 w.references || w.task then GiveUpReference else GiveUpLastReference
next_act w (Emptier hand answer) = EmptySlots
next_act w (Notifier way) = if w.notifying || w.registering then MissNotify else BeginNotify
next_act w (Taker way) = TakeAwaiter
next_act w (Releaser hand way) = EndNotify
next_act w (AwaiterInHand i way) = WakeAwaiter
next_act w OrphanHolder = CloseOrphan
next_act w (Registrar i) = CloneAwaiter
next_act w (HasClone i) = if w.notifying then FindNotify else BeginRegister
next_act w (UnusedClone i) = DropAwaiter
next_act w (Storing i) = StoreAwaiter
next_act w (OldAwaiterInHand i old) = DropAwaiter
next_act w (Registered i) = if w.notifying then TakeAwaiter else EndRegister
next_act w (TookBack i) = EndRegisterNotified
next_act w (CloneInHand i) = WakeAwaiter
next_act w (Looking i) = Look
next_act w (SawOutput i) = ClaimOutput
next_act w (TookOutput i) = HandOutOutput
next_act w OutputCloser = DropOutput
next_act w Detacher = if nat_eq w.references 0 then DetachLast else Detach
next_act w _ = EndCall

-- after every list of steps, each party in a call may make that act now, wherever the others stand
abbrev pub NoCallWaits : Type 0
NoCallWaits =
    (limit : ℕ) (steps : List Step) (m : Machine) → run limit steps ≡ Some m → (i : ℕ) (p : Position) → slice_get m.parties i ≡ Some p
    → in_call p ≡ 1
    → is_some (step m (record { party = i; act = next_act m.word p })) ≡ true

-- a way in a call of the Task
abbrev pub of_task : NotifyingCall → Bool
of_task OfRun = false
of_task OfDrop = false
of_task (OfCancel n) = true
of_task (OfPoll n) = true
of_task (OfClaim n) = true

-- the Task, in a call or between two
abbrev pub is_task : Position → Bool
is_task (At (Task n)) = true
is_task (CallEnding answer (Task n)) = true
is_task (Deliverer woken (ThenTask n)) = true
is_task (Deliverer woken (ThenNotifies n)) = true
is_task (Notifier way) = of_task way
is_task (Taker way) = of_task way
is_task (Releaser hand way) = of_task way
is_task (AwaiterInHand i way) = of_task way
is_task (Registrar i) = true
is_task (HasClone i) = true
is_task (UnusedClone i) = true
is_task (Storing i) = true
is_task (OldAwaiterInHand i old) = true
is_task (Registered i) = true
is_task (TookBack i) = true
is_task (CloneInHand i) = true
is_task (Looking i) = true
is_task (SawOutput i) = true
is_task (TookOutput i) = true
is_task (Answering i answer) = true
is_task OutputCloser = true
is_task Detacher = true
is_task _ = false

-- w before a step and v after it: what the Task goes on by stays, an output to claim and a notifier that came while it registers
pub record StaysAsSeen (w v : State) : Type 0 where
  pub output : w.completed ≡ true → w.closed ≡ false → (v.completed ≡ true) × (v.closed ≡ false)
  pub notifier : w.registering ≡ true → w.notifying ≡ true → (v.registering ≡ true) × (v.notifying ≡ true)

-- after every list of steps, a step of any other party keeps this
abbrev pub WhatTaskSawStays : Type 0
WhatTaskSawStays = (limit : ℕ) (steps : List Step) (m : Machine) → run limit steps ≡ Some m → (s : Step) (p : Position)
    → slice_get m.parties s.party ≡ Some p → is_task p ≡ false → (now : Machine) → step m s ≡ Some now → StaysAsSeen m.word now.word
