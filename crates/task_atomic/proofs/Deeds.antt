-- A deed is the act of the step by which it is made.
use Rattle.std.proofs.Common.{◌≡◌, Bool, true, false, List, ◌∷◌, Option, Some, None, subst}
use Rattle.task_core.specs.Word.{State}
use Rattle.task_core.specs.declared.acts.Act.{Act}
use Rattle.task_core.specs.declared.acts.Act.TheVariants.{Look}
use Rattle.task_laws.specs.declared.positions.Position.{Position}
use Rattle.task_laws.specs.declared.positions.Position.TheVariants.{At, Answering, Notifier, Registrar, SawOutput}
use Rattle.task_laws.specs.declared.positions.Rest.TheVariants.{Lent}
use Rattle.task_laws.specs.declared.positions.NotifyingCall.TheVariants.{OfPoll}
use Rattle.task_laws.specs.declared.positions.PollAnswer.TheVariants.{IsPending}
use Rattle.task_laws.specs.Table.{Scene, Outcome, rule}
use Rattle.task_laws.proofs.Rows.{Row, starts_run, Shows, by_rows}
use Rattle.task_laws.proofs.Scenes.{InEach, rules}
use Rattle.task_steps.specs.declared.table.Deed.{Deed}
use Rattle.task_steps.specs.Deeds.{row}
use Rattle.task_atomic.specs.Atomic.{act_of}
use Rattle.task_atomic.specs.Deeds.{saw_before, act_by, DeedsAreSteps}

-- where a look of a poll may lead
abbrev is_seen : Position → Bool
is_seen (Answering i IsPending) = true
is_seen (Notifier (OfPoll i)) = true
is_seen (Registrar i) = true
is_seen (SawOutput i) = true
is_seen (At Lent) = true
is_seen p = false

-- what is done from there shows what was seen
abbrev Shown : Act → Position → Scene → Option Outcome → Type 0
Shown act p scene None = Unit {0}
Shown act p scene (Some left) = is_seen p ≡ true → saw_before act ≡ act_of Look p

shown_row : (act : Act) (p : Position) (put : Scene → Scene) → Row act p put → InEach (λ scene. Shows Shown act p (put scene))
shown_row _ _ _ starts_run = grind rules
shown_row act p put row = grind rules

shown : (act : Act) (p : Position) (scene : Scene) → Shown act p scene (rule scene act p)
shown = by_rows Shown (λ act p scene. tt) shown_row

-- a step is the act of its deed, if the next deed shows what a look saw
abbrev IsDeed : Act → Position → Scene → Option Outcome → Type 0
IsDeed act p scene None = Unit {0}
IsDeed act p scene (Some left) = (next : Act) (w : State) (path : List Deed) → (is_seen left.next ≡ true → saw_before next ≡ act_of Look left.next)
    → act_by act (Some scene.word) (row next w ∷ path) ≡ act_of act left.next

deed_row : (act : Act) (p : Position) (put : Scene → Scene) → Row act p put → InEach (λ scene. Shows IsDeed act p (put scene))
deed_row _ _ _ starts_run = grind rules
deed_row act p put row = grind rules

deed : (act : Act) (p : Position) (scene : Scene) → IsDeed act p scene (rule scene act p)
deed = by_rows IsDeed (λ act p scene. tt) deed_row

pub deeds_are_steps : DeedsAreSteps
deeds_are_steps s t act next p left later path is then =
    subst (IsDeed act p s) is (deed act p s) next t.word path (subst (Shown next left.next t) then (shown next left.next t))
