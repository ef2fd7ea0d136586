-- 12 of 16: what holds of the machine after every list of steps that it allows.
use Rattle.std.specs.Prelude.{◌≡◌, ◌≢◌, ℕ, ◌+◌, ◌≤◌, true, false, List, Some, None}
use Rattle.task_laws.specs.Position.{Position, Act}
use Rattle.task_laws.specs.Table.{Scene, Outcome, rule}
use Rattle.task_laws.specs.Machine.{Machine, Step, run, how_many}
use Rattle.task_laws.specs.Holders.{is_waker, is_runner, owns_future, owns_output, owns_awaiter}
use Rattle.task_laws.specs.Laws.{OnePoller, EachEndsOnce, NobodyIsLeft, AllEnded, NoWakeLost, NoAwaiterLost, MakingsCounted}

-- all laws of one machine
pub record Laws (m : Machine) : Type 0 where
  -- of what happened
  pub one_poller : OnePoller m.trace
  pub ends : EachEndsOnce m.trace
  pub all_ended : NobodyIsLeft m.trace → AllEnded m.trace
  pub wakes : NoWakeLost m.trace
  pub awaiters : NoAwaiterLost m.trace
  pub makings : MakingsCounted m.trace
  -- of what stands
  pub references : m.word.references ≡ how_many is_waker m.parties + how_many is_runner m.parties
  pub one_runner : how_many is_runner m.parties ≤ 1
  pub within_limit : m.word.references ≤ m.limit + 1
  pub future : how_many owns_future m.parties ≤ 1
  pub output : how_many owns_output m.parties ≤ 1
  pub awaiter : how_many owns_awaiter m.parties ≤ 1
  pub never_both : m.slots.future ≡ true → m.slots.output ≡ false
  pub empty : NobodyIsLeft m.trace → m.slots ≡ record { future = false; output = false; awaiter = None }

-- for every limit and every list of steps that is allowed
abbrev pub LawsHold : Type 0
LawsHold = (limit : ℕ) (steps : List Step) (m : Machine) → run limit steps ≡ Some m → Laws m

-- an act that changes a slot is made by the slot's owner
pub record ChangesItsOwn (s : Scene) (p : Position) (o : Outcome) : Type 0 where
  pub future : o.slots.future ≢ s.slots.future → owns_future p ≡ true
  pub output : o.slots.output ≢ s.slots.output → owns_output p ≡ true
  pub awaiter : o.slots.awaiter ≢ s.slots.awaiter → owns_awaiter p ≡ true

-- for every scene, and every act that a party may make in it
abbrev pub OwnersAct : Type 0
OwnersAct = (s : Scene) (act : Act) (p : Position) (o : Outcome) → rule s act p ≡ Some o → ChangesItsOwn s p o
