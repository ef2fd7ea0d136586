-- 2 of 12: each step of the machine is an act on the small task, which may be made then, and leaves of it what the step leaves; or it is none. So
-- each interleaving is a run of the small task.
use Rattle.std.specs.Prelude.{◌≡◌, ℕ, Bool, true, false, List, [], ◌∷◌, Option, Some, None, is_some, unwrap_or, option_map, slice_get}
use Rattle.std.specs.List.{find}
use Rattle.task_core.specs.contracts.acts.ActPartialEq.TheImpl as act_eq
use Rattle.task_core.specs.declared.acts.Act.{Act}
use Rattle.task_core.specs.declared.acts.Act.TheVariants.{GainReference, FindLimit, DropWaker, DropLastWaker, OrphanTask, CloseOrphan}
use Rattle.task_core.specs.declared.acts.Act.TheVariants.{GiveUpReference, GiveUpLastReference, WakeOver, WakeScheduled, WakeRunning}
use Rattle.task_core.specs.declared.acts.Act.TheVariants.{WakeIdle, DiscardOpen, DiscardClosed, CancelOver, CancelBusy, CancelIdle}
use Rattle.task_core.specs.declared.acts.Act.TheVariants.{ClaimOutput, GiveUpOutput, DetachOrphan, DetachLast, Detach, TakeUpClosed}
use Rattle.task_core.specs.declared.acts.Act.TheVariants.{StartRun, Unschedule, Complete, CompleteDetached, EndClosed, Reschedule}
use Rattle.task_core.specs.declared.acts.Act.TheVariants.{EndIdle, EndOrphaned, Look, LookFinished}
use Rattle.task_laws.specs.declared.positions.Position.{Position}
use Rattle.task_laws.specs.declared.positions.Position.TheVariants.{CallEnding, Answering, Notifier}
use Rattle.task_laws.specs.declared.positions.Answer.TheVariants.{Finished}
use Rattle.task_laws.specs.declared.positions.PollAnswer.TheVariants.{IsPending}
use Rattle.task_laws.specs.declared.positions.NotifyingCall.TheVariants.{OfPoll}
use Rattle.task_laws.specs.Machine.{Machine, Step, opening, scene, step, run}
use Rattle.task_laws.specs.Table.{Outcome, rule}
use Rattle.task_atomic.specs.Small.{small_task, spawned, SmallAct, Gains, Drops, Orphans, Wakes, Discards, Cancels, Claims, GivesOutputUp, Detaches}
use Rattle.task_atomic.specs.Small.{Starts, EndsUnpolled, EndsReady, EndsPending, SeesFinished, SeesPending, SeesClosed, NoAct, acted, all_acted}

-- the rows of each act: whichever of them a call makes, it is that act
abbrev pub rows : List (SmallAct × List Act)
rows =
    (Gains true, GainReference ∷ []) ∷ (Gains false, FindLimit ∷ []) ∷ (Orphans, CloseOrphan ∷ [])
    ∷ (Drops, DropWaker ∷ DropLastWaker ∷ OrphanTask ∷ GiveUpReference ∷ GiveUpLastReference ∷ [])
    ∷ (Wakes, WakeOver ∷ WakeScheduled ∷ WakeRunning ∷ WakeIdle ∷ []) ∷ (Discards, DiscardOpen ∷ DiscardClosed ∷ [])
    ∷ (Cancels, CancelOver ∷ CancelBusy ∷ CancelIdle ∷ []) ∷ (Claims, ClaimOutput ∷ []) ∷ (GivesOutputUp, GiveUpOutput ∷ [])
    ∷ (Detaches, DetachOrphan ∷ DetachLast ∷ Detach ∷ []) ∷ (Starts, TakeUpClosed ∷ StartRun ∷ []) ∷ (EndsUnpolled, Unschedule ∷ [])
    ∷ (EndsReady, Complete ∷ CompleteDetached ∷ []) ∷ (EndsPending true, Reschedule ∷ [])
    ∷ (EndsPending false, EndClosed ∷ EndIdle ∷ EndOrphaned ∷ []) ∷ []

-- whether the row of the table is listed for this act on the small task
abbrev pub is_row : Act → SmallAct × List Act → Bool
is_row act row = is_some (find (act_eq.ghosts.eq act) row.1)

-- which act a step is, by its row, and of a look by the position that it leads to; any other look or row, and a private act, is none
abbrev pub act_of : Act → Position → SmallAct
act_of LookFinished (CallEnding (Finished finished) r) = SeesFinished finished
act_of Look (Answering i IsPending) = SeesPending
act_of Look (Notifier (OfPoll i)) = SeesClosed
act_of act p = unwrap_or (option_map (λ (row : SmallAct × List Act). row.0) (find (is_row act) rows)) NoAct

-- after every list of steps, for each step that a party may make
abbrev pub StepsAreAtomic : Type 0
StepsAreAtomic = (limit : ℕ) (steps : List Step) (m : Machine) → run limit steps ≡ Some m → (i : ℕ) (p : Position) → slice_get m.parties i ≡ Some p
    → (act : Act) (left : Outcome) → rule (scene m) act p ≡ Some left
    → acted m.limit (act_of act left.next) (small_task m.word) ≡ Some (small_task left.word)

-- who makes an act
pub record SmallStep : Type 0 where
  pub party : ℕ
  pub act : SmallAct

-- the acts of a list of steps on the machine, the first one first
abbrev pub act_in : Act → Option Position → SmallAct
act_in act None = NoAct
act_in act (Some next) = act_of act next

-- the act of one step, by where its party stands after it
abbrev pub act_at : Step → Option Machine → SmallAct
act_at s None = NoAct
act_at s (Some left) = act_in s.act (slice_get left.parties s.party)

-- the acts of a list of steps, each with who makes it
abbrev pub small_steps : Option Machine → List Step → List SmallStep
small_steps m [] = []
small_steps None (s ∷ steps) = []
small_steps (Some m) (s ∷ steps) = record { party = s.party; act = act_at s (step m s) } ∷ small_steps (step m s) steps

-- the acts alone, without who makes them
abbrev pub acts_in : List SmallStep → List SmallAct
acts_in [] = []
acts_in (s ∷ steps) = s.act ∷ acts_in steps

-- from the spawn each list of steps is a run of the small task, which leaves what the word reads as
abbrev pub StepsAreRuns : Type 0
StepsAreRuns = (limit : ℕ) (steps : List Step) (m : Machine) → run limit steps ≡ Some m
    → all_acted limit (acts_in (small_steps (Some (opening limit)) steps)) (Some spawned) ≡ Some (small_task m.word)
