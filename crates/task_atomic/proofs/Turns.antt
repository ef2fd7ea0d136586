-- What a step does to the call of its party, as the deed shows it.
use Rattle.std.proofs.Common.{◌≡◌, Bool, true, false, not, ◌&&◌, List, [], ◌∷◌, Option, Some, None}
use Rattle.std.specs.Prelude.{slice_get, if◌then◌else◌}
use Rattle.task_core.specs.declared.acts.Act.{Act}
use Rattle.task_laws.specs.declared.positions.Position.{Position}
use Rattle.task_laws.specs.declared.positions.Position.TheVariants.{At, CallEnding, Notifier, Taker, Releaser, AwaiterInHand, Registrar}
use Rattle.task_laws.specs.declared.positions.Position.TheVariants.{HasClone, UnusedClone, Storing, Registered, TookBack, CloneInHand, Looking}
use Rattle.task_laws.specs.declared.positions.Position.TheVariants.{SawOutput, TookOutput, OldAwaiterInHand, Answering}
use Rattle.task_laws.specs.declared.positions.NotifyingCall.{NotifyingCall}
use Rattle.task_laws.specs.declared.positions.NotifyingCall.TheVariants.{OfRun, OfPoll, OfClaim}
use Rattle.task_laws.specs.declared.positions.OnceDelivered.TheVariants.{ThenEnds}
use Rattle.task_laws.specs.declared.positions.Rest.TheVariants.{Lent}
use Rattle.task_laws.specs.Table.{Outcome, Scene, rule}
use Rattle.task_laws.specs.Whole.{is_at_rest, is_deliverer, is_foreign, asks_foreign}
use Rattle.task_laws.proofs.Rows.{Row, starts_run, gives_up, misses_notify, ends_notify, wakes_awaiter, hands_over, begins_notify, takes_awaiter, ends_call, Shows, by_rows}
use Rattle.task_laws.proofs.Scenes.{InEach, rules, by_slot}
use Rattle.task_steps.specs.Rule.{found_by}
use Rattle.task_atomic.specs.Nesting.{begins_poll, is_to_clone, is_to_compare, is_look, ends_call as ends_by, makes_deliverer}

-- where a party stands: in a call, in a poll of the Task, as a waker that is lent, with an awaiter that it took
abbrev pub in_call : Option Position → Bool
in_call None = false
in_call (Some p) = not (is_at_rest p)

abbrev pub of_poll : NotifyingCall → Bool
of_poll (OfPoll n) = true
of_poll (OfClaim n) = true
of_poll way = false

abbrev pub in_poll : Position → Bool
in_poll (Notifier way) = of_poll way
in_poll (Taker way) = of_poll way
in_poll (Releaser hand way) = of_poll way
in_poll (AwaiterInHand i way) = of_poll way
in_poll (Registrar i) = true
in_poll (HasClone i) = true
in_poll (UnusedClone i) = true
in_poll (Storing i) = true
in_poll (Registered i) = true
in_poll (TookBack i) = true
in_poll (CloneInHand i) = true
in_poll (Looking i) = true
in_poll (SawOutput i) = true
in_poll (TookOutput i) = true
in_poll (OldAwaiterInHand i old) = true
in_poll (Answering i answer) = true
in_poll p = false

abbrev pub polls_at : Option Position → Bool
polls_at None = false
polls_at (Some p) = in_poll p

abbrev pub stands_lent : Position → Bool
stands_lent (At Lent) = true
stands_lent (CallEnding answer Lent) = true
stands_lent p = false

abbrev pub lent_at : Option Position → Bool
lent_at None = false
lent_at (Some p) = stands_lent p

abbrev pub has_taken : Position → Bool
has_taken (Releaser None way) = false
has_taken p = true

abbrev pub holds_taken : Position → Bool
holds_taken (Releaser (Some i) way) = true
holds_taken p = false

abbrev pub is_taker : Position → Bool
is_taker (Taker way) = true
is_taker p = false

abbrev pub is_few : List Position → Bool
is_few [] = true
is_few (p ∷ []) = true
is_few ps = false

-- the party itself
pub record Turn (act : Act) (p : Position) (s : Scene) (o : Outcome) : Type 0 where
  pub rests : is_at_rest o.next ≡ ends_by act (stands_lent p)
  pub lent : stands_lent o.next ≡ stands_lent p
  pub poll : in_poll o.next ≡ (if is_at_rest o.next then false else (if is_at_rest p then begins_poll act else in_poll p))
  pub hands : is_foreign act ≡ true → is_deliverer (Some o.next) ≡ false
  pub clones : is_at_rest p ≡ true → is_at_rest o.next ≡ false → is_to_clone act (found_by act s.word) ≡ true → asks_foreign o.next ≡ true
  pub compares : in_poll p ≡ true → has_taken p ≡ true → is_to_compare act (found_by act s.word) ≡ true → asks_foreign o.next ≡ true
  pub queues : makes_deliverer act ≡ true → is_at_rest p ≡ true

abbrev pub TurnTo : Act → Position → Scene → Option Outcome → Type 0
TurnTo act p s None = Unit {0}
TurnTo act p s (Some o) = Turn act p s o

turn_row : (act : Act) (p : Position) (put : Scene → Scene) → Row act p put → InEach (λ scene. Shows TurnTo act p (put scene))
turn_row _ _ _ starts_run = grind rules
turn_row _ _ _ (gives_up None answer) = grind rules
turn_row _ _ _ (misses_notify OfRun) = grind rules
turn_row _ _ _ (ends_notify None OfRun) = grind rules
turn_row _ _ _ (ends_notify (Some i) OfRun) = grind rules
turn_row _ _ _ (wakes_awaiter i OfRun) = grind rules
turn_row _ _ _ (hands_over woken (ThenEnds answer)) = grind rules
turn_row _ _ _ (begins_notify OfRun) = grind rules
turn_row _ _ _ (takes_awaiter OfRun) = grind rules
turn_row _ _ _ (ends_call answer Lent) = grind rules
turn_row act p put row = grind rules

pub turn_by_rule : (act : Act) (p : Position) (s : Scene) → TurnTo act p s (rule s act p)
turn_by_rule = by_rows TurnTo (λ act p s. tt) turn_row

-- whom it makes
pub record Births (act : Act) (p : Position) (o : Outcome) : Type 0 where
  pub few : is_few o.born ≡ true
  pub call : in_call (slice_get o.born 0) ≡ makes_deliverer act
  pub lent : lent_at (slice_get o.born 0) ≡ (is_look act && stands_lent p)
  pub poll : polls_at (slice_get o.born 0) ≡ false

abbrev pub BirthsTo : Act → Position → Scene → Option Outcome → Type 0
BirthsTo act p s None = Unit {0}
BirthsTo act p s (Some o) = Births act p o

births_row : (act : Act) (p : Position) (put : Scene → Scene) → Row act p put → InEach (λ scene. Shows BirthsTo act p (put scene))
births_row _ _ _ starts_run = grind rules
births_row _ _ _ (ends_call answer Lent) = grind rules
births_row act p put row = grind rules

pub births_by_rule : (act : Act) (p : Position) (s : Scene) → BirthsTo act p s (rule s act p)
births_by_rule = by_rows BirthsTo (λ act p s. tt) births_row

-- what it takes
abbrev pub TakesTo : Act → Position → Scene → Option Outcome → Type 0
TakesTo act p s None = Unit {0}
TakesTo act p s (Some o) = has_taken o.next ≡ false → (s.slots.awaiter ≡ None) × (is_taker p ≡ true) × (o.word ≡ s.word) × (in_poll o.next ≡ in_poll p)

takes_row : (act : Act) (p : Position) (put : Scene → Scene) → Row act p put → InEach (λ scene. Shows TakesTo act p (put scene))
takes_row _ _ _ starts_run = grind rules
takes_row _ _ _ (gives_up None answer) = grind rules
takes_row _ _ _ (misses_notify OfRun) = grind rules
takes_row _ _ _ (ends_notify None OfRun) = grind rules
takes_row _ _ _ (ends_notify (Some i) OfRun) = grind rules
takes_row _ _ _ (wakes_awaiter i OfRun) = grind rules
takes_row _ _ _ (hands_over woken (ThenEnds answer)) = grind rules
takes_row _ _ _ (begins_notify OfRun) = grind rules
takes_row _ _ _ (takes_awaiter way) = by_slot (grind rules) (λ old. grind rules)
takes_row act p put row = grind rules

pub takes_by_rule : (act : Act) (p : Position) (s : Scene) → TakesTo act p s (rule s act p)
takes_by_rule = by_rows TakesTo (λ act p s. tt) takes_row

-- what the party has in hand after the step
abbrev pub HoldsTo : Act → Position → Scene → Option Outcome → Type 0
HoldsTo act p s None = Unit {0}
HoldsTo act p s (Some o) = holds_taken o.next ≡ true → (s.slots.awaiter ≡ None → ⊥) × (is_taker p ≡ true) × (o.word ≡ s.word) × (in_poll o.next ≡ in_poll p)

holds_row : (act : Act) (p : Position) (put : Scene → Scene) → Row act p put → InEach (λ scene. Shows HoldsTo act p (put scene))
holds_row _ _ _ starts_run = grind rules
holds_row _ _ _ (gives_up None answer) = grind rules
holds_row _ _ _ (misses_notify OfRun) = grind rules
holds_row _ _ _ (ends_notify None OfRun) = grind rules
holds_row _ _ _ (ends_notify (Some i) OfRun) = grind rules
holds_row _ _ _ (wakes_awaiter i OfRun) = grind rules
holds_row _ _ _ (hands_over woken (ThenEnds answer)) = grind rules
holds_row _ _ _ (begins_notify OfRun) = grind rules
holds_row _ _ _ (takes_awaiter way) = by_slot (grind rules) (λ old. grind rules)
holds_row act p put row = grind rules

pub holds_by_rule : (act : Act) (p : Position) (s : Scene) → HoldsTo act p s (rule s act p)
holds_by_rule = by_rows HoldsTo (λ act p s. tt) holds_row

-- where it asks foreign code, its deed shows it; and whom it makes, if that is a deliverer
pub record Asked (act : Act) (p : Position) (s : Scene) (o : Outcome) : Type 0 where
  pub cloned : is_at_rest p ≡ true → asks_foreign o.next ≡ true → is_to_clone act (found_by act s.word) ≡ true
  pub compared : is_at_rest p ≡ false → asks_foreign o.next ≡ true → (in_poll p ≡ true) × (holds_taken p ≡ true) × (is_to_compare act (found_by act s.word) ≡ s.word.awaiter)
  pub deliverer : is_deliverer (slice_get o.born 0) ≡ makes_deliverer act

abbrev pub AskedTo : Act → Position → Scene → Option Outcome → Type 0
AskedTo act p s None = Unit {0}
AskedTo act p s (Some o) = Asked act p s o

asked_row : (act : Act) (p : Position) (put : Scene → Scene) → Row act p put → InEach (λ scene. Shows AskedTo act p (put scene))
asked_row _ _ _ starts_run = grind rules
asked_row _ _ _ (gives_up None answer) = grind rules
asked_row _ _ _ (misses_notify OfRun) = grind rules
asked_row _ _ _ (ends_notify None OfRun) = grind rules
asked_row _ _ _ (ends_notify (Some i) OfRun) = grind rules
asked_row _ _ _ (wakes_awaiter i OfRun) = grind rules
asked_row _ _ _ (hands_over woken (ThenEnds answer)) = grind rules
asked_row _ _ _ (begins_notify OfRun) = grind rules
asked_row _ _ _ (takes_awaiter OfRun) = grind rules
asked_row _ _ _ (ends_call answer Lent) = grind rules
asked_row act p put row = grind rules

pub asked_by_rule : (act : Act) (p : Position) (s : Scene) → AskedTo act p s (rule s act p)
asked_by_rule = by_rows AskedTo (λ act p s. tt) asked_row
