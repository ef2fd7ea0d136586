-- What a change that is tried does to the shares of the block, by whether it may give one up, or else may bring one.
use Rattle.std.specs.Prelude.{ℕ, Bool, true, false, not}
use Rattle.atomic_table.specs.Table.{Me}
use Rattle.counted_block.specs.Blocks.{BlockId}
use Rattle.task_core.specs.declared.traits.Yields.{Ghosts}
use Rattle.task_steps.specs.declared.table.Terms.{Terms}
use Rattle.task_steps.specs.declared.table.View.{View}
use Rattle.task_steps.specs.Attempt.{Attempt}
use Rattle.task_steps.specs.Rule.{TaskPlace}
use Rattle.task_steps.specs.Shares.{MayBring, MayGive}
use Rattle.task_steps.specs.Values.{Values}
use Rattle.task_cell.specs.declared.cell.Cell.{Cell}
use Rattle.task_cell.specs.declared.cell.MaybeShare.{MaybeShare}
use Rattle.task_cell.specs.Belongs.{LeftOf}

-- what each exchange of the attempt does to the shares
abbrev pub MayCount : {F T A Row : Type 0} → Bool → Values F T → ℕ → ℕ → Me (TaskPlace F T A) View → Attempt Row → Type 0
MayCount true values = MayGive values
MayCount false values = MayBring values

-- what the change has left of the share, or has brought beside it
abbrev pub HasLeft : {R F Q M A B O : Type 0} {G : Ghosts F O} → Bool → BlockId → Terms F → Cell R Q M B → MaybeShare R F Q M A B O G → Bool → Bool → Type 0
HasLeft true id key value maybe counts last = LeftOf id key value maybe (not counts) last
HasLeft false id key value maybe counts last = LeftOf id key value maybe counts false
