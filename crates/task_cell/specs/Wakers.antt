-- What the party of a waker knows.
use Rattle.std.specs.Prelude.{ℕ, Bool, true, false, [], ◌∷◌}
use Rattle.atomic_table.specs.Table.{Me}
use Rattle.counted_block.specs.Blocks.{BlockId}
use Rattle.task_laws.specs.declared.positions.Rest.TheVariants.{Waker}
use Rattle.task_laws.specs.declared.positions.Position.TheVariants.{At}
use Rattle.task_steps.specs.declared.table.View.{View}
use Rattle.task_steps.specs.Rule.{view, fresh, TaskPlace}
use Rattle.task_cell.specs.declared.cell.Hold.{Hold}
use Rattle.task_cell.specs.declared.cell.Hold.TheVariants.{Owned, Lent as Borrowed}

module _ {F T A : Type 0} where
  -- the block of an owned waker's seat; for a lent waker, which has none, what is given
  abbrev pub block_of : Hold F T A → BlockId → BlockId
  block_of (Owned party) block = party.seat.block
  block_of Borrowed block = block

  -- what an owned waker's seat has; for a lent waker, what is given
  abbrev pub me_of : Hold F T A → Me (TaskPlace F T A) View → Me (TaskPlace F T A) View
  me_of (Owned party) m = party.seat.me
  me_of Borrowed m = m

  -- the waker holds a reference, and was not lent to a poll
  abbrev pub is_owned : Hold F T A → Bool
  is_owned (Owned party) = true
  is_owned Borrowed = false

  -- what the seat of a waker has that has done nothing
  abbrev pub waker_me : ℕ → Me (TaskPlace F T A) View
  waker_me limit = (view limit (fresh (At Waker) ∷ []), [])
