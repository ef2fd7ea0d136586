-- What no step takes back: a closed task makes no Runnable, and no step in a call makes a wake undue unless the task is over by it.
use Rattle.std.proofs.Common.{◌≡◌, ℕ, ◌≤◌, true, false, ◌⊎◌, List, ◌∷◌, ◌++◌, Option, Some, None}
use Rattle.task_progress.proofs.Vocabulary.{State, is_open, Event, Position, Act, Scene, Outcome, rule, wake_is_due, Census, plus, weigh, Awaiting, join}
use Rattle.task_progress.proofs.Vocabulary.{await, rules, InEach, completed, closed, by_flag, Row, wakes_running_waker, wakes_running_lent}
use Rattle.task_progress.proofs.Vocabulary.{wakes_idle_waker, cancels_idle_awaited, cancels_idle, Shows, by_rows}
use Rattle.task_progress.specs.StepsLeft.{total, in_call}
use Rattle.task_progress.proofs.Relied.{Around}

abbrev pub queued_of : Position → ℕ
queued_of p = (weigh p).queued

abbrev pub IsUnscheduled : State → Type 0
IsUnscheduled w = (w.scheduled ≡ false) ⊎ (w.closed ≡ true)

abbrev pub IsDue : State → List Event → Type 0
IsDue w trace = (wake_is_due trace ≡ true) ⊎ (is_open w ≡ false)

pub record Lasting (w : State) (trace : List Event) (p : Position) (left : Outcome) : Type 0 where
  pub closed : w.closed ≡ true → (left.word.closed ≡ true) × (total queued_of (left.next ∷ left.born) ≤ queued_of p)
  pub over : is_open w ≡ false → is_open left.word ≡ false
  pub idle : in_call p ≡ 1 → IsUnscheduled w → IsUnscheduled left.word
  pub due : in_call p ≡ 1 → IsDue w trace → IsDue left.word (left.told ++ trace)

abbrev pub LastingTo : State → List Event → Position → Option Outcome → Type 0
LastingTo w trace p None = Unit {0}
LastingTo w trace p (Some left) = Lasting w trace p left

abbrev KeepsLasting : Act → Position → Scene → Option Outcome → Type 0
KeepsLasting act p scene left = (trace : List Event) (rest : Census) (others : Awaiting)
    → Around scene.word (plus (weigh p) rest) (join (await 0 p) others)
    → LastingTo scene.word trace p left

lasting_row : (act : Act) (p : Position) (put : Scene → Scene) → Row act p put → InEach (λ scene. Shows KeepsLasting act p (put scene))
lasting_row _ _ _ wakes_running_waker = by_flag closed (grind rules) (by_flag completed (grind rules) (grind rules))
lasting_row _ _ _ wakes_running_lent = by_flag closed (grind rules) (by_flag completed (grind rules) (grind rules))
lasting_row _ _ _ wakes_idle_waker = by_flag closed (grind rules) (grind rules)
lasting_row _ _ _ (cancels_idle_awaited n) = by_flag closed (grind rules) (grind rules)
lasting_row _ _ _ (cancels_idle n) = by_flag closed (grind rules) (grind rules)
lasting_row act p put row = grind rules

pub lasting_by_rule : (act : Act) (p : Position) (scene : Scene) → KeepsLasting act p scene (rule scene act p)
lasting_by_rule = by_rows KeepsLasting (λ act p scene trace rest others around. tt) lasting_row
