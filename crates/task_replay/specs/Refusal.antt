-- Why a machine does not allow a step.
use Rattle.std.specs.Prelude.{◌≡◌, Option, Some, None, IsSome, IfSome}
use Rattle.task_core.specs.Word.{State}
use Rattle.task_laws.specs.declared.positions.Position.{Position}
use Rattle.task_core.specs.declared.acts.Act.{Act}
use Rattle.task_laws.specs.Table.{Scene, outcome_at, rule}
use Rattle.task_replay.specs.declared.refusal.Refusal.{Refusal}
use Rattle.task_replay.specs.declared.refusal.Refusal.TheVariants.{NoParty, NeverThere, UnfitWord}

-- the table has a line for the act at this position, for some scene and word written
abbrev pub IsMade : Act → Position → Type 0
IsMade act p = (s : Scene) × ((written : State) × IsSome (outcome_at s written act p))

-- the act is refused at this position, whatever is found there
abbrev pub IsNeverMade : Act → Position → Type 0
IsNeverMade act p = (s : Scene) → rule s act p ≡ None

-- the act is allowed there at that word, all else as it is
abbrev pub FitsAt : Scene → Act → Option Position → State → Type 0
FitsAt s act at word = (p : Position) × ((at ≡ Some p) × IsSome (rule (record s { word = word }) act p))

-- the act is made where the party stands
abbrev pub IsMadeHere : Act → Option Position → Type 0
IsMadeHere act at = (p : Position) × ((at ≡ Some p) × IsMade act p)

-- what a reason says of an act that is refused to a party there: no party, never there, or a word that does not fit where another does
abbrev pub IsReason : Scene → Act → Option Position → Refusal → Type 0
IsReason s act at NoParty = at ≡ None
IsReason s act at (NeverThere p) = (at ≡ Some p) × IsNeverMade act p
IsReason s act at (UnfitWord fitting) = IsMadeHere act at × IfSome fitting (FitsAt s act at)
