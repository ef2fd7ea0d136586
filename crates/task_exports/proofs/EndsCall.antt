-- Where a call stands whose handle was the last.
use Rattle.std.proofs.Common.{◌≡◌, ℕ, Bool, [], Option, is_some}
use Rattle.task_cell.specs.Calls.{StandsWith}
use Rattle.task_exports.specs.Parties.{CellParty}
use Rattle.task_laws.specs.declared.positions.Answer.{Answer}
use Rattle.task_laws.specs.declared.positions.Position.TheVariants.{Emptier}
use Rattle.task_steps.specs.Steps.{awaiter_first}

abbrev pub IsEmptier : Bool → CellParty → Type 0
IsEmptier took p = (awaiter : Option ℕ) × (answer : Answer) × (y : _) × StandsWith (Emptier awaiter answer) (awaiter_first y []) p × (is_some awaiter ≡ took)
