-- How many parties stand where in the handshake, and what they do with the clone of poll number i.
use Rattle.std.proofs.Common.{◌≡◌, ℕ, ◌+◌, ◌≤◌, eqb, arith, List, [], ◌∷◌, Option, Some, None}
use Rattle.task_laws.proofs.Vocabulary.{bit, IsPending, IsClosed, HasOutput, IsRefused, Rest, Task, NotifyingCall, OfRun, OfDrop, OfCancel, OfPoll, OfClaim, OnceDelivered, ThenEnds, ThenTask, ThenNotifies, Position, At, CallEnding, Deliverer, OutputInHand, GivingUp, Emptier, Notifier, Taker, Releaser, AwaiterInHand, Registrar, HasClone, UnusedClone, Storing, Registered, TookBack, CloneInHand, Looking, SawOutput, TookOutput, OldAwaiterInHand, Answering}
use Rattle.task_laws.specs.Event.{PollAnswer}
use Rattle.task_laws.proofs.Census.{Census, weigh, census, calls}

pub record Awaiting : Type 0 where
  pub registering : ℕ  -- the Task, with the awaiter slot
  pub run_takers : ℕ  -- a run or a drop, with the awaiter slot
  pub task_takers : ℕ  -- the Task, with the awaiter slot, on another way
  pub releasers : ℕ  -- of these two, those that have emptied it
  pub lookouts : ℕ  -- who will yet see that an awaiter is there
  pub keepers : ℕ  -- the Task, where its last pending poll stands as it answered
  pub ready_polls : ℕ  -- the Task, in a poll that is to answer ready
  pub registered : ℕ  -- the Task, with its clone in the slot
  pub registrars : ℕ  -- the Task, before it clones the awaiter
  pub takers_back : ℕ  -- the Task, with the slot, out of which it has taken its clone again
  pub numbered : ℕ  -- the Task, where it knows the number of its polls
  pub number : ℕ
  -- of poll number i
  pub looks : ℕ  -- registered, and about to answer Pending or to look again
  pub to_wake : ℕ  -- its clone is in hand, to be woken
  pub hands : ℕ  -- its clone is in hand

abbrev pub none : Awaiting
none = record { registering = 0; run_takers = 0; task_takers = 0; releasers = 0; lookouts = 0; keepers = 0; ready_polls = 0; registered = 0; registrars = 0; takers_back = 0; numbered = 0; number = 0; looks = 0; to_wake = 0; hands = 0 }

abbrev pub join : Awaiting → Awaiting → Awaiting
join a b = record { registering = a.registering + b.registering; run_takers = a.run_takers + b.run_takers; task_takers = a.task_takers + b.task_takers; releasers = a.releasers + b.releasers; lookouts = a.lookouts + b.lookouts; keepers = a.keepers + b.keepers; ready_polls = a.ready_polls + b.ready_polls; registered = a.registered + b.registered; registrars = a.registrars + b.registrars; takers_back = a.takers_back + b.takers_back; numbered = a.numbered + b.numbered; number = a.number + b.number; looks = a.looks + b.looks; to_wake = a.to_wake + b.to_wake; hands = a.hands + b.hands }

abbrev pub held : ℕ → Option ℕ → ℕ
held i None = 0
held i (Some j) = bit (eqb i j)

abbrev pub await_rest : Rest → Awaiting
await_rest (Task n) = record none { keepers = 1; numbered = 1; number = n }
await_rest _ = none

abbrev pub await_after : OnceDelivered → Awaiting
await_after (ThenEnds answer) = none
await_after (ThenTask n) = await_rest (Task n)
await_after (ThenNotifies n) = record none { keepers = 1; numbered = 1; number = n; lookouts = 1 }

-- on its way, before and after the slot was held
abbrev pub await_way : NotifyingCall → Awaiting
await_way OfRun = none
await_way OfDrop = none
await_way (OfCancel n) = record none { keepers = 1; numbered = 1; number = n }
await_way (OfPoll n) = record none { ready_polls = 1; numbered = 1; number = n }
await_way (OfClaim n) = record none { ready_polls = 1; numbered = 1; number = n }

-- who holds the slot on that way
abbrev pub takes : NotifyingCall → Awaiting
takes OfRun = record none { run_takers = 1 }
takes OfDrop = record none { run_takers = 1 }
takes (OfCancel n) = record none { task_takers = 1 }
takes (OfPoll n) = record none { task_takers = 1 }
takes (OfClaim n) = record none { task_takers = 1 }

-- the clone in hand is woken on that way
abbrev pub will_be_woken : NotifyingCall → ℕ
will_be_woken (OfPoll n) = 0
will_be_woken (OfClaim n) = 0
will_be_woken _ = 1

abbrev pub scaled : ℕ → Option ℕ → NotifyingCall → ℕ
scaled i hand (OfPoll n) = 0
scaled i hand (OfClaim n) = 0
scaled i hand OfRun = held i hand
scaled i hand OfDrop = held i hand
scaled i hand (OfCancel n) = held i hand

abbrev pub looks_at : ℕ → ℕ → PollAnswer → ℕ
looks_at i j IsPending = bit (eqb i j)
looks_at i j _ = 0

abbrev pub keeps_at : PollAnswer → ℕ
keeps_at IsRefused = 1
keeps_at _ = 0

abbrev pub ready_at : PollAnswer → ℕ
ready_at IsClosed = 1
ready_at HasOutput = 1
ready_at _ = 0

abbrev pub await : ℕ → Position → Awaiting
await i (At r) = await_rest r
await i (CallEnding answer r) = await_rest r
await i (Deliverer woken next) = await_after next
await i (OutputInHand due) = record none { lookouts = bit due }
await i (GivingUp hand answer) = record none { to_wake = held i hand; hands = held i hand }
await i (Emptier hand answer) = record none { to_wake = held i hand; hands = held i hand }
await i (Notifier way) = join (record none { lookouts = 1 }) (await_way way)
await i (Taker way) = join (takes way) (await_way way)
await i (Releaser hand way) = join (record none { releasers = 1; hands = held i hand; to_wake = scaled i hand way }) (join (takes way) (await_way way))
await i (AwaiterInHand j way) = join (record none { hands = bit (eqb i j); to_wake = scaled i (Some j) way }) (await_way way)
await i (Registrar j) = record none { keepers = 1; registrars = 1; numbered = 1; number = j }
await i (HasClone j) = record none { hands = bit (eqb i j); numbered = 1; number = j }
await i (UnusedClone j) = record none { hands = bit (eqb i j); numbered = 1; number = j; looks = bit (eqb i j) }
await i (Storing j) = record none { hands = bit (eqb i j); numbered = 1; number = j; registering = 1 }
await i (Registered j) = record none { registered = 1; numbered = 1; number = j; registering = 1 }
await i (TookBack j) = record none { hands = bit (eqb i j); numbered = 1; number = j; registering = 1; takers_back = 1 }
await i (CloneInHand j) = record none { hands = bit (eqb i j); numbered = 1; number = j }
await i (Looking j) = record none { numbered = 1; number = j; looks = bit (eqb i j); lookouts = 1 }
await i (SawOutput j) = record none { numbered = 1; number = j; lookouts = 1 }
await i (TookOutput j) = record none { numbered = 1; number = j; ready_polls = 1 }
await i (OldAwaiterInHand j old) = record none { registered = 1; hands = bit (eqb i old); numbered = 1; number = j; registering = 1 }
await i (Answering j answer) = record none { numbered = 1; number = j; looks = looks_at i j answer; keepers = keeps_at answer; ready_polls = ready_at answer }
await i _ = none

abbrev pub awaiting : ℕ → List Position → Awaiting
awaiting i [] = none
awaiting i (p ∷ ps) = join (await i p) (awaiting i ps)

-- the two countings of the same parties
pub record Fits (c : Census) (b : Awaiting) : Type 0 where
  pub run_takers : b.run_takers ≤ c.finishing
  pub task_takers : b.task_takers + b.registering ≤ c.tasks
  pub keepers : b.keepers ≤ c.tasks
  pub looks : b.looks ≤ c.tasks
  pub registered : b.registered ≤ b.registering
  pub registrars : b.registrars ≤ c.tasks
  pub takers_back : b.takers_back ≤ b.registering
  pub numbered : b.numbered ≤ c.tasks
  pub number : b.numbered ≡ 0 → b.number ≡ 0
  pub releasers : b.releasers ≤ b.run_takers + b.task_takers
  pub hands : b.hands ≤ calls c
  pub to_wake : b.to_wake ≤ b.hands
  pub shaking : b.task_takers + b.registering ≤ calls c
  pub lookouts : b.lookouts ≤ calls c
  pub tasks : c.tasks ≤ b.keepers + calls c

fits_one : (i : ℕ) (p : Position) → Fits (weigh p) (await i p)
fits_one i p = grind arith

pub fits : (i : ℕ) (ps : List Position) → Fits (census ps) (awaiting i ps)
fits i [] = grind arith
fits i (p ∷ ps) = let a = fits_one i p in let b = fits i ps in omega (arith, a, b)
