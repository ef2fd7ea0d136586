-- Each step of the table brings its call nearer to its end.
use Rattle.std.proofs.Common.{◌≡◌, ◌+◌, ◌*◌, ◌≤◌, ◌∷◌, Option, Some, None}
use Rattle.task_progress.proofs.Vocabulary.{bit, Position, Act, Scene, Outcome, rule, begins, Event, how_often, count, is_call_end, rules, InEach, Row, starts_run, Shows, by_rows}
use Rattle.task_core.specs.Rows.{writes_word}
use Rattle.task_progress.specs.StepsLeft.{total, in_call, steps_left, writes_left}

-- what is left after the act, and the act itself, are at most what was left before it, and 16 for each call that it begins
pub record Nears (act : Act) (p : Position) (left : Outcome) : Type 0 where
  pub steps : total steps_left (left.next ∷ left.born) + 1 ≤ steps_left p + 16 * (how_often Event.CallBegins left.told + how_often Event.CallBegins (begins p))
  pub writes : total writes_left (left.next ∷ left.born) + bit (writes_word act) ≤ writes_left p + 5 * (how_often Event.CallBegins left.told + how_often Event.CallBegins (begins p))
  pub calls : total in_call (left.next ∷ left.born) + (count is_call_end left.told + count is_call_end (begins p)) ≡ in_call p + (how_often Event.CallBegins left.told + how_often Event.CallBegins (begins p))
  pub inner : in_call p * (how_often Event.CallBegins left.told + how_often Event.CallBegins (begins p)) ≡ 0
  pub own_steps : steps_left left.next + 1 ≤ steps_left p + 16 * how_often Event.CallBegins (begins p)
  pub own_writes : writes_left left.next + bit (writes_word act) ≤ writes_left p + 5 * how_often Event.CallBegins (begins p)

abbrev pub NearTo : Act → Position → Option Outcome → Type 0
NearTo act p None = Unit {0}
NearTo act p (Some left) = Nears act p left

near_row : (act : Act) (p : Position) (put : Scene → Scene) → Row act p put → InEach (λ scene. Shows (λ act p scene left. NearTo act p left) act p (put scene))
near_row _ _ _ starts_run = grind rules
near_row act p put row = grind rules

pub near : (act : Act) (p : Position) (s : Scene) → NearTo act p (rule s act p)
near = by_rows (λ act p scene left. NearTo act p left) (λ act p scene. tt) near_row
