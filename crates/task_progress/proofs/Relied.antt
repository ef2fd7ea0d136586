-- What a party in a call relies on, that no other party takes away: an invariant beside that of the laws.
use Rattle.std.proofs.Common.{◌≡◌, ℕ, ◌+◌, ◌≤◌, true, false, ◌⊎◌, List, [], ◌∷◌, Option, Some, None, arith}
use Rattle.std.specs.Prelude.{if◌then◌else◌}
use Rattle.task_progress.proofs.Vocabulary.{State, bit, is_open, Position, SawOutput, OutputCloser, Detacher, Act, Scene, Outcome, rule, Census, plus, weigh}
use Rattle.task_progress.proofs.Vocabulary.{census, runs, closers, Awaiting, join, await, awaiting, rules, InEach, completed, closed, by_flag, Row}
use Rattle.task_progress.proofs.Vocabulary.{wakes_running_waker, wakes_running_lent, wakes_idle_waker, cancels_idle_awaited, cancels_idle, Shows, by_rows}
use Rattle.task_progress.specs.StepsLeft.{total}

-- a poll that found the output there; a detach after it closed the task
abbrev pub claims : Position → ℕ
claims (SawOutput i) = 1
claims _ = 0

abbrev pub detaches : Position → ℕ
detaches OutputCloser = 1
detaches Detacher = 1
detaches _ = 0

pub record ReliedOn (w : State) (claimed detached : ℕ) : Type 0 where
  pub claims : claimed ≡ 0 ⊎ ((w.completed ≡ true) × (w.closed ≡ false))
  pub detaches : detached ≡ 0 ⊎ (w.closed ≡ true)

-- what of the invariant of the laws it rests on
pub record Around (w : State) (c : Census) (b : Awaiting) : Type 0 where
  pub task : c.tasks ≡ bit w.task
  pub running : runs c ≡ bit w.running
  pub scheduled : c.queued + closers c ≡ (if w.running then 0 else bit w.scheduled)
  pub completed : w.completed ≡ true → (w.running ≡ false) × (w.scheduled ≡ false)
  pub orphan : c.orphans ≡ 0 ⊎ ((w.references ≡ 0) × (w.task ≡ false) × (is_open w ≡ true) × (w.scheduled ≡ false) × (w.running ≡ false) × (c.orphans ≡ 1))
  pub registering : b.registering ≡ bit w.registering
  pub taking : b.run_takers + b.task_takers ≡ (if w.registering then 0 else bit w.notifying)

-- a party that such a claim is about is the Task
pub record CountedAsTask (c : Census) (b : Awaiting) (claimed detached : ℕ) : Type 0 where
  pub tasks : b.registering + claimed + detached ≤ c.tasks

counted_as_task_one : (p : Position) → CountedAsTask (weigh p) (await 0 p) (claims p) (detaches p)
counted_as_task_one p = grind arith

pub counted_as_task : (ps : List Position) → CountedAsTask (census ps) (awaiting 0 ps) (total claims ps) (total detaches ps)
counted_as_task [] = grind arith
counted_as_task (p ∷ ps) = let a = counted_as_task_one p in let b = counted_as_task ps in omega (arith, a, b)

abbrev pub ReliedAfter : ℕ → ℕ → Option Outcome → Type 0
ReliedAfter claimed detached None = Unit {0}
ReliedAfter claimed detached (Some left) = ReliedOn left.word (total claims (left.next ∷ left.born) + claimed) (total detaches (left.next ∷ left.born) + detached)

abbrev KeepsRelied : Act → Position → Scene → Option Outcome → Type 0
KeepsRelied act p scene left = (rest : Census) (others : Awaiting) (claimed detached : ℕ) → CountedAsTask rest others claimed detached
    → Around scene.word (plus (weigh p) rest) (join (await 0 p) others) → ReliedOn scene.word (claims p + claimed) (detaches p + detached)
    → ReliedAfter claimed detached left

relied_row : (act : Act) (p : Position) (put : Scene → Scene) → Row act p put → InEach (λ scene. Shows KeepsRelied act p (put scene))
relied_row _ _ _ wakes_running_waker = by_flag closed (grind rules) (by_flag completed (grind rules) (grind rules))
relied_row _ _ _ wakes_running_lent = by_flag closed (grind rules) (by_flag completed (grind rules) (grind rules))
relied_row _ _ _ wakes_idle_waker = by_flag closed (grind rules) (grind rules)
relied_row _ _ _ (cancels_idle_awaited n) = by_flag closed (grind rules) (grind rules)
relied_row _ _ _ (cancels_idle n) = by_flag closed (grind rules) (grind rules)
relied_row act p put row = grind rules

pub relied_by_rule : (act : Act) (p : Position) (scene : Scene) → KeepsRelied act p scene (rule scene act p)
relied_by_rule = by_rows KeepsRelied (λ act p scene rest others claimed detached counted_as_task around relied. tt) relied_row
