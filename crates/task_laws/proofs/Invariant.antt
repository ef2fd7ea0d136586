-- What holds between the word, the slots, the trace and the census of the parties at each moment.
use Rattle.std.proofs.Common.{◌≡◌, ℕ, ◌+◌, ◌≤◌, true, false, not, ◌&&◌, ◌||◌, ◌⊎◌, List, ◌∷◌, ◌++◌, Option, Some, None}
use Rattle.std.specs.Prelude.{if◌then◌else◌, nat_eq}
use Rattle.task_laws.proofs.Vocabulary.{State, bit, is_open, Event, Maker, Position, Act, OfRun, ThenEnds, Slots, Scene, Outcome, rule, begins, how_often, count, is_future_answer, Each, MayPoll, is_output_end, is_made}
use Rattle.task_laws.proofs.Vocabulary.{is_call_end, taken_up_closed, wake_is_due, woken_since_taking_up, fresh_wakes}
use Rattle.task_laws.proofs.Census.{Census, plus, weigh, census, runs, closers, calls}
use Rattle.task_laws.proofs.Scenes.{rules, InEach, completed, closed, task, by_flag, by_references}
use Rattle.task_laws.proofs.Rows.{Row, gains_lent, wakes_over_lent, wakes_running_waker, wakes_running_lent, wakes_idle_waker, wakes_idle_lent, cancels_idle_awaited, cancels_idle, gives_up, misses_notify, ends_notify}
use Rattle.task_laws.proofs.Rows.{wakes_awaiter, hands_over, Shows, by_rows}

pub record Holds (limit : ℕ) (word : State) (slots : Slots) (trace : List Event) (parties : Census) : Type 0 where
  -- the word and the parties
  pub references : word.references ≡ parties.queued + runs parties + closers parties + parties.finishing + parties.outputs + parties.wakers
  pub task : parties.tasks ≡ bit word.task
  pub running : runs parties ≡ bit word.running
  pub scheduled : parties.queued + closers parties ≡ (if word.running then 0 else bit word.scheduled)
  pub completed : word.completed ≡ true → (word.running ≡ false) × (word.scheduled ≡ false)
  pub orphan : parties.orphans ≡ 0 ⊎ ((word.references ≡ 0) × (word.task ≡ false) × (is_open word ≡ true) × (word.scheduled ≡ false) × (word.running ≡ false) × (parties.orphans ≡ 1))
  pub closers_closed : word.closed ≡ false → (closers parties ≡ 0) × (parties.cleared ≡ 0)
  pub kept : word.completed ≡ true → word.closed ≡ false → word.task ≡ true
  pub one : parties.queued + runs parties + closers parties + parties.finishing + parties.outputs ≤ 1
  pub spent_closed : (parties.finishing + parties.outputs ≡ 0) ⊎ (is_open word ≡ false)
  pub few : parties.wakers ≤ limit
  -- the slots and the parties
  pub future : bit slots.future ≡ parties.queued + parties.starting + parties.polling + parties.pending + parties.ready + parties.in_hand + (if word.running || word.scheduled then 0 else bit (is_open word))
  pub output : bit slots.output ≡ parties.stored + parties.outputs + parties.claims + bit (word.completed && not word.closed)
  -- the trace
  pub made : count is_made trace ≡ how_often Event.TakenUp trace + parties.queued
  pub taken : how_often Event.TakenUp trace ≡ how_often Event.RunEnded trace + runs parties + closers parties
  pub starts : how_often Event.FuturePollBegins trace ≡ count is_future_answer trace + parties.polling
  pub dropped : how_often Event.FutureDropped trace + bit slots.future ≡ 1
  pub closes : how_often Event.Closes trace ≡ bit word.closed
  pub completes : how_often Event.Completes trace ≡ bit word.completed
  pub readies : how_often Event.FutureReady trace ≡ bit word.completed + parties.ready + parties.unstored + parties.stored
  pub outputs : how_often Event.FutureReady trace ≡ count is_output_end trace + bit slots.output + parties.ready + parties.unstored
  pub emptied : how_often Event.Empties trace + parties.emptiers + parties.orphans ≡ (if word.task then 0 else bit (nat_eq word.references 0))
  pub emptied_closed : (how_often Event.Empties trace + parties.emptiers ≡ 0) ⊎ (is_open word ≡ false)
  pub calls_left : how_often Event.CallBegins trace ≡ count is_call_end trace + calls parties
  pub wakers : how_often Event.WakerGained trace ≡ how_often Event.WakerGivenUp trace + parties.wakers
  pub task_left : how_often Event.TaskGivenUp trace + parties.tasks ≡ 1
  pub by_spawn : how_often (Event.Made Maker.BySpawn) trace ≡ 1
  pub by_closing : how_often (Event.Made Maker.ByClosing) trace ≤ how_often Event.Closes trace
  pub by_wake : how_often (Event.Made Maker.ByWake) trace + bit (word.running && word.scheduled) ≤ fresh_wakes trace
  pub due : wake_is_due trace ≡ true → (word.scheduled ≡ true) × (is_open word ≡ true)
  pub woken : woken_since_taking_up trace ≡ true → word.running ≡ true → word.scheduled ≡ true
  pub again : word.running ≡ true → word.scheduled ≡ true → woken_since_taking_up trace ≡ true
  pub open_taken : word.closed ≡ false → taken_up_closed trace ≡ false
  pub starting_open : parties.starting ≡ 0 ⊎ (taken_up_closed trace ≡ false)
  pub polls : Each MayPoll trace

-- it holds of what the party at p leaves among the others
abbrev pub Kept : ℕ → List Event → Census → Position → Option Outcome → Type 0
Kept limit trace rest p None = Unit {0}
Kept limit trace rest p (Some left) = Holds limit left.word left.slots (left.told ++ (begins p ++ trace)) (plus (census (left.next ∷ left.born)) rest)

-- a row keeps it
abbrev Keeps : Act → Position → Scene → Option Outcome → Type 0
Keeps act p scene left = (trace : List Event) (rest : Census) → Holds scene.limit scene.word scene.slots trace (plus (weigh p) rest) → Kept scene.limit trace rest p left

kept_row : (act : Act) (p : Position) (put : Scene → Scene) → Row act p put → InEach (λ scene. Shows Keeps act p (put scene))
kept_row _ _ _ gains_lent = by_flag task (grind rules) (by_references (grind rules) (λ n. grind rules))
kept_row _ _ _ wakes_over_lent = by_flag task (grind rules) (by_references (grind rules) (λ n. grind rules))
kept_row _ _ _ wakes_running_waker = by_flag closed (grind rules) (by_flag completed (grind rules) (grind rules))
kept_row _ _ _ wakes_running_lent =
    by_flag task (by_flag closed (grind rules) (by_flag completed (grind rules) (grind rules)))
    (by_references (by_flag closed (grind rules) (by_flag completed (grind rules) (grind rules))) (λ n. by_flag closed (grind rules) (by_flag completed (grind rules) (grind rules))))
kept_row _ _ _ wakes_idle_waker = by_flag closed (grind rules) (grind rules)
kept_row _ _ _ wakes_idle_lent =
    by_flag task (by_flag closed (grind rules) (by_flag completed (grind rules) (grind rules)))
    (by_references (by_flag closed (grind rules) (by_flag completed (grind rules) (grind rules))) (λ n. by_flag closed (grind rules) (by_flag completed (grind rules) (grind rules))))
kept_row _ _ _ (cancels_idle_awaited n) = by_flag closed (grind rules) (grind rules)
kept_row _ _ _ (cancels_idle n) = by_flag closed (grind rules) (grind rules)
kept_row _ _ _ (gives_up None answer) = grind rules
kept_row _ _ _ (misses_notify OfRun) = grind rules
kept_row _ _ _ (ends_notify None OfRun) = grind rules
kept_row _ _ _ (ends_notify (Some i) OfRun) = grind rules
kept_row _ _ _ (wakes_awaiter i OfRun) = grind rules
kept_row _ _ _ (hands_over woken (ThenEnds answer)) = grind rules
kept_row act p put row = grind rules

-- so the rule keeps it
pub kept_by_rule : (act : Act) (p : Position) (scene : Scene) → Keeps act p scene (rule scene act p)
kept_by_rule = by_rows Keeps (λ act p scene trace rest holds. tt) kept_row
