-- Each row is its act on the small task.
use Rattle.std.proofs.Common.{◌≡◌, ℕ, ◌≤◌, true, false, subst, List, Option, Some, None, arith}
use Rattle.std.specs.Prelude.{slice_get}
use Rattle.task_core.specs.Word.{State, is_open}
use Rattle.task_core.specs.declared.acts.Act.{Act}
use Rattle.task_laws.specs.declared.positions.Position.{Position}
use Rattle.task_laws.specs.declared.positions.Position.TheVariants.{At, Pending, FutureGone, Looking, SawOutput, Detacher, OutputStored, PendingFutureDropped}
use Rattle.task_laws.specs.declared.positions.Position.TheVariants.{GivingUp, OrphanHolder}
use Rattle.task_laws.specs.declared.positions.Rest.TheVariants.{Runnable, Waker, Task}
use Rattle.task_laws.specs.Event.{Event}
use Rattle.task_laws.specs.Machine.{Machine, scene}
use Rattle.task_laws.specs.Table.{Outcome, Scene, Slots, rule}
use Rattle.task_laws.proofs.Census.{Census, census, plus, weigh}
use Rattle.task_laws.proofs.Invariant.{Holds}
use Rattle.task_laws.proofs.Rows.{Row, starts_run, Shows, by_rows}
use Rattle.task_laws.proofs.Runs.{Invariant, Stays, always, others, split}
use Rattle.task_laws.proofs.Scenes.{InEach, rules}
use Rattle.task_atomic.specs.Small.{small_task, acted}
use Rattle.task_atomic.specs.Atomic.{act_of, StepsAreAtomic}
use Rattle.task_atomic.specs.Finds.{Rests}

-- what a party knows that has a Runnable, a run, a reference or the Task
abbrev Known : Position → State → Type 0
Known (At Runnable) w = (w.scheduled ≡ true) × (w.running ≡ false) × (1 ≤ w.references)
Known (At Waker) w = 1 ≤ w.references
Known (At (Task n)) w = w.task ≡ true
Known (Looking i) w = w.task ≡ true
Known (SawOutput i) w = w.task ≡ true
Known Detacher w = w.task ≡ true
Known Pending w = (w.completed ≡ false) × (w.running ≡ true) × (1 ≤ w.references)
Known OutputStored w = w.running ≡ true
Known PendingFutureDropped w = w.running ≡ true
Known (FutureGone closer) w = (w.running ≡ false) × (w.closed ≡ true) × (w.scheduled ≡ true)
Known (GivingUp hand answer) w = 1 ≤ w.references
Known OrphanHolder w = (w.references ≡ 0) × (w.task ≡ false) × (is_open w ≡ true) × (w.scheduled ≡ false) × (w.running ≡ false)
Known _ w = Unit {0}

pub rests : (limit : ℕ) (w : State) (slots : Slots) (t : List Event) (c : Census) → Holds limit w slots t c → Rests w
rests limit w slots t c h = grind arith

known : (limit : ℕ) (w : State) (slots : Slots) (t : List Event) (p : Position) (rest : Census) → Holds limit w slots t (plus (weigh p) rest) → Known p w
known limit w slots t (At Runnable) rest h = (grind arith, grind arith, grind arith)
known limit w slots t (At Waker) rest h = grind arith
known limit w slots t (At (Task n)) rest h = grind arith
known limit w slots t (Looking i) rest h = grind arith
known limit w slots t (SawOutput i) rest h = grind arith
known limit w slots t Detacher rest h = grind arith
known limit w slots t Pending rest h = (grind arith, grind arith, grind arith)
known limit w slots t OutputStored rest h = grind arith
known limit w slots t PendingFutureDropped rest h = grind arith
known limit w slots t (FutureGone closer) rest h = (grind arith, grind arith, grind arith)
known limit w slots t (GivingUp hand answer) rest h = grind arith
known limit w slots t OrphanHolder rest h = (grind arith, grind arith, grind arith, grind arith, grind arith)
known limit w slots t p rest h = tt

-- what a step makes of the small task
abbrev MadeTo : ℕ → Act → State → Option Outcome → Type 0
MadeTo limit act w None = Unit {0}
MadeTo limit act w (Some left) = acted limit (act_of act left.next) (small_task w) ≡ Some (small_task left.word)

abbrev IsMade : Act → Position → Scene → Option Outcome → Type 0
IsMade act p scene left = Rests scene.word → Known p scene.word → MadeTo scene.limit act scene.word left

made_row : (act : Act) (p : Position) (put : Scene → Scene) → Row act p put → InEach (λ scene. Shows IsMade act p (put scene))
made_row _ _ _ starts_run = grind rules
made_row act p put row = grind rules

made_by_rule : (act : Act) (p : Position) (scene : Scene) → IsMade act p scene (rule scene act p)
made_by_rule = by_rows IsMade (λ act p scene rests known. tt) made_row

-- the same for a step in a machine that a list of steps reaches
pub made_at : (m : Machine) (i : ℕ) (p : Position) (act : Act) (left : Outcome) → Invariant m → slice_get m.parties i ≡ Some p → rule (scene m) act p ≡ Some left
    → acted m.limit (act_of act left.next) (small_task m.word) ≡ Some (small_task left.word)
made_at m i p act left h at is =
    let rest = rests m.limit m.word m.slots m.trace (census m.parties) h.holds in
    let here = known m.limit m.word m.slots m.trace p (census (others m.parties i)) (subst (Holds m.limit m.word m.slots m.trace) (split m.parties i p at) h.holds) in
    subst (MadeTo m.limit act m.word) is (made_by_rule act p (scene m) rest here)

pub steps_are_atomic : StepsAreAtomic
steps_are_atomic limit steps m e i p at act left is =
    let h : Invariant m = subst Stays e (always limit steps) in
    made_at m i p act left h at is
