-- What holds of the handshake at each moment, and of the clone of poll number i.
use Rattle.std.proofs.Common.{◌≡◌, ℕ, ◌+◌, ◌<◌, ◌≤◌, true, false, ◌||◌, ◌⊎◌, List, ◌∷◌, ◌++◌, Option, Some, None}
use Rattle.std.specs.Prelude.{if◌then◌else◌}
use Rattle.task_laws.proofs.Vocabulary.{State, bit, Event, Position, Act, OfRun, ThenEnds, Slots, Scene, Outcome, rule, begins, how_often, count, Each, is_task_poll, pending_poll, was_woken, MayAnswer}
use Rattle.task_laws.proofs.Census.{Census, plus, weigh}
use Rattle.task_laws.proofs.Awaiting.{Awaiting, join, await, awaiting, held, Fits}
use Rattle.task_laws.proofs.Invariant.{Holds}
use Rattle.task_laws.proofs.Scenes.{rules, InEach, completed, closed, task, registering, notifying, by_flag, by_references}
use Rattle.task_laws.proofs.Rows.{Row, gains_lent, wakes_over_lent, wakes_scheduled_lent, wakes_running_lent, wakes_idle_lent, completes_awaited, gives_up, misses_notify, ends_notify, wakes_awaiter, hands_over, begins_notify}
use Rattle.task_laws.proofs.Rows.{takes_awaiter, looks_queued, looks_running, looks_ended, Shows, by_rows}

-- the last pending poll was woken; or its clone stands in the slot, and the word says so; or somebody is about to wake it
abbrev pub IsCared : ℕ → State → Slots → List Event → Awaiting → Type 0
IsCared i word slots trace awaiters = (was_woken i trace ≡ true) ⊎ ((slots.awaiter ≡ Some i) × (word.awaiter ≡ true)) ⊎ (1 ≤ awaiters.to_wake)

pub record HandshakeHolds (i : ℕ) (word : State) (slots : Slots) (trace : List Event) (awaiters : Awaiting) : Type 0 where
  -- one owner of the awaiter slot
  pub registering : awaiters.registering ≡ bit word.registering
  pub taking : awaiters.run_takers + awaiters.task_takers ≡ (if word.registering then 0 else bit word.notifying)
  pub emptied : awaiters.releasers ≡ 0 ⊎ (slots.awaiter ≡ None)
  pub left_empty : how_often Event.Empties trace ≡ 0 ⊎ (slots.awaiter ≡ None)
  pub own : awaiters.registered ≡ 0 ⊎ (slots.awaiter ≡ Some (count is_task_poll trace))
  -- a poll that has taken its clone back was notified, and left the slot empty
  pub taken_back : awaiters.takers_back ≡ 0 ⊎ ((word.notifying ≡ true) × (slots.awaiter ≡ None))
  -- an awaiter that stays when the future has gone is seen by somebody
  pub seen : word.awaiter ≡ true → slots.future ≡ false → word.task ≡ true → ((word.running || word.scheduled) || (word.registering || word.notifying)) ≡ true ⊎ (1 ≤ awaiters.lookouts)
  pub ready : awaiters.ready_polls ≡ 0 ⊎ (slots.future ≡ false)
  pub answers : Each MayAnswer trace
  -- the polls of the Task, in order
  pub numbers : awaiters.numbered ≡ 0 ⊎ (awaiters.number ≡ count is_task_poll trace)
  pub unborn : count is_task_poll trace < i → (how_often (Event.Cloned i) trace ≡ 0) × (was_woken i trace ≡ false)
  pub unregistered : 1 ≤ awaiters.registrars → i ≡ count is_task_poll trace → how_often (Event.Cloned i) trace ≡ 0
  pub once : how_often (Event.Cloned i) trace ≤ 1
  pub clones : how_often (Event.Cloned i) trace ≡ how_often (Event.CloneEnded i) trace + awaiters.hands + held i slots.awaiter
  pub answered : pending_poll trace ≡ Some i → i ≤ count is_task_poll trace
  pub kept : 1 ≤ awaiters.keepers → pending_poll trace ≡ Some i → IsCared i word slots trace awaiters
  pub looked : 1 ≤ awaiters.looks → IsCared i word slots trace awaiters

-- it holds of what the party at p leaves among the others
abbrev pub HandshakeKept : ℕ → List Event → Awaiting → Position → Option Outcome → Type 0
HandshakeKept i trace others p None = Unit {0}
HandshakeKept i trace others p (Some left) = HandshakeHolds i left.word left.slots (left.told ++ (begins p ++ trace)) (join (awaiting i (left.next ∷ left.born)) others)

-- a row keeps it, where the counting invariant holds too
abbrev KeepsHandshake : Act → Position → Scene → Option Outcome → Type 0
KeepsHandshake act p scene left = (i : ℕ) (trace : List Event) (rest : Census) (others : Awaiting) → Fits rest others → Holds scene.limit scene.word scene.slots trace (plus (weigh p) rest)
    → HandshakeHolds i scene.word scene.slots trace (join (await i p) others) → HandshakeKept i trace others p left

handshake_row : (act : Act) (p : Position) (put : Scene → Scene) → Row act p put → InEach (λ scene. Shows KeepsHandshake act p (put scene))
handshake_row _ _ _ gains_lent = by_flag task (grind rules) (by_references (grind rules) (λ n. grind rules))
handshake_row _ _ _ wakes_over_lent = by_flag task (grind rules) (by_references (by_flag completed (grind rules) (by_flag closed (grind rules) (grind rules))) (λ n. grind rules))
handshake_row _ _ _ wakes_scheduled_lent = by_flag task (grind rules) (by_references (by_flag completed (grind rules) (by_flag closed (grind rules) (grind rules))) (λ n. grind rules))
handshake_row _ _ _ wakes_running_lent = by_flag task (grind rules) (by_references (by_flag completed (grind rules) (by_flag closed (grind rules) (grind rules))) (λ n. grind rules))
handshake_row _ _ _ wakes_idle_lent = by_flag task (grind rules) (by_references (by_flag completed (grind rules) (by_flag closed (grind rules) (grind rules))) (λ n. grind rules))
handshake_row _ _ _ completes_awaited = by_flag registering (by_flag notifying (grind rules) (grind rules)) (by_flag notifying (grind rules) (grind rules))
handshake_row _ _ _ (gives_up None answer) = grind rules
handshake_row _ _ _ (misses_notify OfRun) = grind rules
handshake_row _ _ _ (ends_notify None OfRun) = grind rules
handshake_row _ _ _ (ends_notify (Some i) OfRun) = grind rules
handshake_row _ _ _ (wakes_awaiter i OfRun) = grind rules
handshake_row _ _ _ (hands_over woken (ThenEnds answer)) = grind rules
handshake_row _ _ _ (begins_notify OfRun) = grind rules
handshake_row _ _ _ (takes_awaiter OfRun) = grind rules
handshake_row _ _ _ (looks_queued n) = by_flag completed (grind rules) (grind rules)
handshake_row _ _ _ (looks_running n) = by_flag completed (grind rules) (grind rules)
handshake_row _ _ _ (looks_ended n) = by_flag completed (grind rules) (grind rules)
handshake_row act p put row = grind rules

-- so the rule keeps it
pub handshake_kept_by_rule : (act : Act) (p : Position) (scene : Scene) → KeepsHandshake act p scene (rule scene act p)
handshake_kept_by_rule = by_rows KeepsHandshake (λ act p scene i trace rest others fit holds shakes. tt) handshake_row
