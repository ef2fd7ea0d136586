-- How many steps are left to each call, and how many of them write the word.
use Rattle.std.specs.Prelude.{◌≡◌, ℕ, ◌+◌, ◌*◌, ◌≤◌, List, [], ◌∷◌, length, Option, Some, None}
use Rattle.task_core.specs.Word.{bit}
use Rattle.task_core.specs.Rows.{writes_word}
use Rattle.task_laws.specs.declared.positions.NotifyingCall.{NotifyingCall}
use Rattle.task_laws.specs.declared.positions.NotifyingCall.TheVariants.{OfRun, OfDrop, OfCancel, OfPoll, OfClaim}
use Rattle.task_laws.specs.declared.positions.OnceDelivered.TheVariants.{ThenEnds, ThenTask, ThenNotifies}
use Rattle.task_laws.specs.declared.positions.Position.{Position}
use Rattle.task_laws.specs.declared.positions.Position.TheVariants.{At, CallEnding, Deliverer, Starting, Polling, Pending, Ready}
use Rattle.task_laws.specs.declared.positions.Position.TheVariants.{ReadyFutureDropped, OutputStored, PendingFutureDropped, FutureInHand}
use Rattle.task_laws.specs.declared.positions.Position.TheVariants.{FutureGone, OutputInHand, GivingUp, Emptier, Notifier, Taker, Releaser}
use Rattle.task_laws.specs.declared.positions.Position.TheVariants.{AwaiterInHand, OrphanHolder, Registrar, HasClone, UnusedClone, Storing}
use Rattle.task_laws.specs.declared.positions.Position.TheVariants.{Registered, TookBack, CloneInHand, Looking, SawOutput, TookOutput}
use Rattle.task_laws.specs.declared.positions.Position.TheVariants.{OldAwaiterInHand, Answering, OutputCloser, Detacher}
use Rattle.task_laws.specs.Machine.{Machine, Step, run_from}
use Rattle.task_laws.specs.Event.{Event}
use Rattle.task_laws.specs.Laws.{how_often, count, is_call_end}

-- a number of each party, summed
abbrev pub total : (Position → ℕ) → List Position → ℕ
total f [] = 0
total f (p ∷ ps) = f p + total f ps

-- 1 in a call, 0 between two calls
abbrev pub in_call : Position → ℕ
in_call (At r) = 0
in_call _ = 1

-- 1 where an awaiter is in hand
abbrev pub awaiters_in_hand : Option ℕ → ℕ
awaiters_in_hand None = 0
awaiters_in_hand (Some i) = 1

-- steps left on a way once no awaiter is in hand
abbrev pub steps_on : NotifyingCall → ℕ
steps_on OfRun = 3
steps_on OfDrop = 3
steps_on (OfCancel n) = 1
steps_on (OfPoll n) = 1
steps_on (OfClaim n) = 2

-- steps left on a way once the awaiter in hand was woken or dropped
abbrev pub steps_off : NotifyingCall → ℕ
steps_off OfRun = 1
steps_off OfDrop = 3
steps_off (OfCancel n) = 1
steps_off (OfPoll n) = 1
steps_off (OfClaim n) = 2

-- how many steps a party makes at most until its call ends
abbrev pub steps_left : Position → ℕ
steps_left (At r) = 0
steps_left (CallEnding answer r) = 1
steps_left (Deliverer woken (ThenEnds answer)) = 2
steps_left (Deliverer woken (ThenTask n)) = 2
steps_left (Deliverer woken (ThenNotifies n)) = 6
steps_left Starting = 13
steps_left Polling = 12
steps_left Pending = 9
steps_left Ready = 11
steps_left ReadyFutureDropped = 10
steps_left OutputStored = 9
steps_left PendingFutureDropped = 8
steps_left (FutureInHand closer) = 9
steps_left (FutureGone closer) = 8
steps_left (OutputInHand due) = 8
steps_left (GivingUp hand answer) = 3 + awaiters_in_hand hand
steps_left (Emptier hand answer) = 2 + awaiters_in_hand hand
steps_left (Notifier way) = 4 + steps_on way
steps_left (Taker way) = 3 + steps_on way
steps_left (Releaser hand way) = 1 + awaiters_in_hand hand + steps_on way
steps_left (AwaiterInHand i way) = 1 + steps_off way
steps_left OrphanHolder = 3
steps_left (Registrar i) = 15
steps_left (HasClone i) = 14
steps_left (UnusedClone i) = 9
steps_left (Storing i) = 13
steps_left (OldAwaiterInHand i old) = 12
steps_left (Registered i) = 11
steps_left (TookBack i) = 10
steps_left (CloneInHand i) = 9
steps_left (Looking i) = 8
steps_left (SawOutput i) = 7
steps_left (TookOutput i) = 2
steps_left (Answering i answer) = 1
steps_left OutputCloser = 4
steps_left Detacher = 3

-- writes left on a way once no awaiter is in hand: a run or a drop has still its reference to give up
abbrev pub writes_on : NotifyingCall → ℕ
writes_on OfRun = 1
writes_on OfDrop = 1
writes_on (OfCancel n) = 0
writes_on (OfPoll n) = 0
writes_on (OfClaim n) = 0

-- writes left on a way once the awaiter in hand was woken or dropped
abbrev pub writes_off : NotifyingCall → ℕ
writes_off OfDrop = 1
writes_off _ = 0

-- how often a party writes the word at most until its call ends
abbrev pub writes_left : Position → ℕ
writes_left (Deliverer woken (ThenNotifies n)) = 2
writes_left Starting = 4
writes_left Polling = 4
writes_left Pending = 4
writes_left Ready = 4
writes_left ReadyFutureDropped = 4
writes_left OutputStored = 4
writes_left PendingFutureDropped = 4
writes_left (FutureInHand closer) = 4
writes_left (FutureGone closer) = 4
writes_left (OutputInHand due) = 3
writes_left (GivingUp hand answer) = 1
writes_left (Notifier way) = 2 + writes_on way
writes_left (Taker way) = 1 + writes_on way
writes_left (Releaser hand way) = 1 + writes_on way
writes_left (AwaiterInHand i way) = writes_off way
writes_left OrphanHolder = 1
writes_left (Registrar i) = 5
writes_left (HasClone i) = 5
writes_left (UnusedClone i) = 3
writes_left (Storing i) = 4
writes_left (OldAwaiterInHand i old) = 4
writes_left (Registered i) = 4
writes_left (TookBack i) = 4
writes_left (CloneInHand i) = 3
writes_left (Looking i) = 3
writes_left (SawOutput i) = 3
writes_left OutputCloser = 1
writes_left Detacher = 1
writes_left _ = 0

-- how many of these steps write the word
abbrev pub writes_in : List Step → ℕ
writes_in [] = 0
writes_in (s ∷ steps) = bit (writes_word s.act) + writes_in steps

-- Steps from m to now, with those left at its end, are at most those left at its start and 16 for each call begun; five of them are writes.
pub record BoundedByCalls (m : Machine) (made : List Step) (now : Machine) : Type 0 where
  pub steps : length made + total steps_left now.parties + 16 * how_often Event.CallBegins m.trace
      ≤ total steps_left m.parties + 16 * how_often Event.CallBegins now.trace
  pub writes : writes_in made + total writes_left now.parties + 5 * how_often Event.CallBegins m.trace
      ≤ total writes_left m.parties + 5 * how_often Event.CallBegins now.trace
  -- a call that has begun is open until it ends
  pub calls : total in_call now.parties + count is_call_end now.trace + how_often Event.CallBegins m.trace
      ≡ total in_call m.parties + count is_call_end m.trace + how_often Event.CallBegins now.trace

-- from every machine, reachable or not, for every list of steps that it allows
abbrev pub StepsAreBounded : Type 0
StepsAreBounded = (m : Machine) (steps : List Step) (now : Machine) → run_from (Some m) steps ≡ Some now → BoundedByCalls m steps now

-- Steps from m to now are at most 16 for each call that ended between them or is open at the end; writes are at most five for each.
pub record BoundedByOpenCalls (m : Machine) (made : List Step) (now : Machine) : Type 0 where
  pub steps : length made + 16 * count is_call_end m.trace ≤ 16 * (total in_call now.parties + count is_call_end now.trace)
  pub writes : writes_in made + 5 * count is_call_end m.trace ≤ 5 * (total in_call now.parties + count is_call_end now.trace)

-- so where no call ends between the two, the calls that are open at the end bound all steps
abbrev pub OpenCallsBoundSteps : Type 0
OpenCallsBoundSteps =
    (m : Machine) (steps : List Step) (now : Machine) → run_from (Some m) steps ≡ Some now → BoundedByOpenCalls m steps now
