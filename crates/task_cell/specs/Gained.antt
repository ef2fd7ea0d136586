-- What a gain of a reference for a new waker says, by who has a handle of this cell.
use Rattle.std.specs.Prelude.{true, false, List}
use Rattle.task_core.specs.declared.traits.Yields.{Ghosts}
use Rattle.task_steps.specs.declared.table.Deed.{Deed}
use Rattle.task_steps.specs.Standing.{as_lent}
use Rattle.task_cell.specs.declared.cell.Party.{Party}
use Rattle.task_cell.specs.declared.cell.Share.{Share}
use Rattle.task_cell.specs.Belongs.{HasMade, limit_in}
use Rattle.task_cell.specs.WakerPaths.{GainPath}
use Rattle.task_cell.specs.Witnessed.{WasMade}

module _ {R F Q M A B O : Type 0} {G : Ghosts F O} where
  -- a gain below the limit was made, in an interleaving
  abbrev pub HasGained : Share R F Q M A B O G → Type 0
  HasGained share = (path : List Deed) × GainPath (limit_in share) true path × WasMade (limit_in share) as_lent path

  -- a party of this cell was lent for a gain, and has found the limit
  abbrev pub HasFoundLimit : {T : Type 0} → Share R F Q M A B O G → Party F T A → Type 0
  HasFoundLimit share party = (path : List Deed) × GainPath (limit_in share) false path × HasMade share path party
