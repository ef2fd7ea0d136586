-- Why a step is refused. What a party leaves, and whether it ever may, are shown by its line.
use Rattle.std.proofs.Common.{arith, ◌≡◌, ℕ, ◌∙◌, Bool, true, false, Option, Some, None, refl, ap, subst}
use Rattle.std.specs.Option.{option_map}
use Rattle.std.specs.Prelude.{IsSome, if◌then◌else◌, is_some, slice_get}
use Rattle.task_core.specs.Word.{State}
use Rattle.task_core.specs.Rows.{found, written, row}
use Rattle.task_laws.specs.declared.positions.Position.{Position}
use Rattle.task_core.specs.declared.acts.Act.{Act}
use Rattle.task_laws.specs.Line.{Line, Guard, holds, leaves}
use Rattle.task_laws.specs.Lines.{line}
use Rattle.task_laws.specs.Table.{Slots, Scene, Outcome, where_found, outcome_at, rule}
use Rattle.task_laws.specs.Machine.{Step, moves, step}
use Rattle.task_replay.specs.Line.{bare}
use Rattle.task_replay.specs.Replay.{Standing, stands, scene_at, untold, outcome_of, StepsTo}
use Rattle.task_replay.specs.Refusal.{IsMade, IsNeverMade}
use Rattle.task_replay.specs.declared.table.Effect.{Effect}
use Rattle.task_replay.proofs.Replayed.{steps_at, left_at}

-- what a line leaves, where only what is told may differ
by_line : (s : Scene) (is_found : Bool) (w v : State) (o : Option Line) (l : Line) → bare o ≡ Some l → (if is_found then Some w else None) ≡ Some v → untold (where_found is_found (leaves s w o)) ≡ untold (leaves s v (Some l))
by_line s is_found w v o l e f = grind arith

by_not_found : (is_found : Bool) (w : State) (left : Option Outcome) → (if is_found then Some w else None) ≡ None → untold (where_found is_found left) ≡ None
by_not_found is_found w left e = grind arith

-- so the word of the row, and the line without what is told, are the rule
pub ruled : (s : Scene) (act : Act) (p : Position) (l : Line) (v : State) → bare (line act p) ≡ Some l → row s.limit act s.word ≡ Some v → untold (rule s act p) ≡ untold (leaves s v (Some l))
ruled s act p l v = by_line s (found s.limit act s.word) (written act s.word) v (line act p) l

pub no_row : (s : Scene) (act : Act) (p : Position) → row s.limit act s.word ≡ None → untold (rule s act p) ≡ None
no_row s act p = by_not_found (found s.limit act s.word) (written act s.word) (outcome_at s (written act s.word) act p)

pub no_line : (s : Scene) (act : Act) (p : Position) → bare (line act p) ≡ None → rule s act p ≡ None
no_line s act p = none_left (line act p)
  where
    none_left : (o : Option Line) → bare o ≡ None → where_found (found s.limit act s.word) (leaves s (written act s.word) o) ≡ None
    none_left o e = grind arith

-- a guard that does not hold at the word that favours each, holds nowhere
abbrev pub favourable : State
favourable = record { scheduled = false; running = false; completed = false; closed = true; task = true; awaiter = false; registering = false; notifying = true; references = 0 }

abbrev pub scene_with : ℕ → Slots → State → Scene
scene_with limit slots word = record { limit = limit; word = word; slots = slots }

never_holds : (s : Scene) (limit : ℕ) (slots : Slots) (g : Guard) → holds (scene_with limit slots favourable) g ≡ false → holds s g ≡ false
never_holds s limit slots g e = grind arith

-- a line whose guard does not hold there is never made, and one whose guard holds there is
pub never : (limit : ℕ) (slots : Slots) (word : State) (act : Act) (p : Position) (l : Line) → word ≡ favourable → bare (line act p) ≡ Some l → holds (scene_with limit slots word) l.guard ≡ false → IsNeverMade act p
never limit slots word act p l e is_line h = λ s. none_left s (line act p) is_line (never_holds s limit slots l.guard (subst (λ w. holds (scene_with limit slots w) l.guard ≡ false) e h))
  where
    none_left : (s : Scene) (o : Option Line) → bare o ≡ Some l → holds s l.guard ≡ false → where_found (found s.limit act s.word) (leaves s (written act s.word) o) ≡ None
    none_left s o e h = grind arith

pub made : (s : Scene) (act : Act) (p : Position) (l : Line) → bare (line act p) ≡ Some l → holds s l.guard ≡ true → IsMade act p
made s act p l is_line h = (s, (s.word, some_left (line act p) is_line))
  where
    some_left : (o : Option Line) → bare o ≡ Some l → IsSome (leaves s s.word o)
    some_left o e = grind arith

-- what the code answers of an effect is what the table answers
pub is_there : (o : Option Outcome) (left : Option Effect) → untold o ≡ option_map outcome_of left → is_some left ≡ true → IsSome o
is_there o left is_left e = grind arith

pub is_not_there : (o : Option Outcome) (left : Option Effect) → untold o ≡ option_map outcome_of left → is_some left ≡ false → o ≡ None
is_not_there o left is_left e = grind arith

-- from the table to the machine
pub no_party : (now : Standing) (s : Step) → slice_get now.parties s.party ≡ None → StepsTo now s None
no_party now s at = λ m e. subst (λ (n : Standing). slice_get n.parties s.party ≡ None → stands (step m s) ≡ None) e (λ h. ap (λ found. stands (moves m s.party s.act found)) h) at

pub refused_there : (now : Standing) (s : Step) (p : Position) → slice_get now.parties s.party ≡ Some p → rule (scene_at now) s.act p ≡ None → StepsTo now s None
refused_there now s p at h = λ m e. steps_at m s now p e at ∙ ap (left_at now s.party) h

pub allowed_there : (now : Standing) (s : Step) (p : Position) → slice_get now.parties s.party ≡ Some p → IsSome (rule (scene_at now) s.act p) → (next : Standing) × StepsTo now s (Some next)
allowed_there now s p at h = by_left (rule (scene_at now) s.act p) refl h
  where
    by_left : (o : Option Outcome) → rule (scene_at now) s.act p ≡ o → IsSome o → (next : Standing) × StepsTo now s (Some next)
    by_left None e some = absurd (cc)
    by_left (Some o) e some = (_, λ m e'. steps_at m s now p e' at ∙ ap (left_at now s.party) e)
