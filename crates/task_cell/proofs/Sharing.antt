-- Whose share is left, or was brought, by what a step found.
use Rattle.task_cell.proofs.Vocabulary.{◌≡◌, ℕ, Bool, not, arith, nat_lt, nat_eq}
use Rattle.task_cell.proofs.Vocabulary.{◌∙◌, ap}
use Rattle.task_core.specs.declared.traits.Yields.{Ghosts}
use Rattle.task_cell.specs.declared.cell.Share.{Share}
use Rattle.task_cell.specs.declared.cell.MaybeShare.{MaybeShare}
use Rattle.task_cell.specs.Belongs.{LeavesBy, cell_of, limit_in}
use Rattle.std.proofs.lemmas.Bool.Decides.{nat_tests}

pub left_by_last : (n : ℕ) → not (nat_lt 0 n) ≡ nat_eq n 0
left_by_last n = grind (arith, nat_tests)

module _ {R F Q M A B O : Type 0} {G : Ghosts F O} where
  -- the share that a step left or made is of the same cell
  abbrev pub Taken : MaybeShare R F Q M A B O G → Share R F Q M A B O G → Type 0
  Taken maybe share = (share.block.id ≡ maybe.maybe.id) × (share.block.key ≡ maybe.maybe.key) × (share.block.value ≡ maybe.maybe.value)

  pub same_cell : (self share : Share R F Q M A B O G) (maybe : MaybeShare R F Q M A B O G) (b : Bool) {last : Bool} → LeavesBy self maybe b last → Taken maybe share → cell_of share ≡ cell_of self
  same_cell self share maybe b l e = λ i. ((e.0 ∙ l.cell.0) i, (e.2 ∙ l.cell.1) i)

  pub same_block : (self share : Share R F Q M A B O G) (maybe : MaybeShare R F Q M A B O G) (b : Bool) {last : Bool} → LeavesBy self maybe b last → Taken maybe share → share.block.id ≡ self.block.id
  same_block self share maybe b l e = e.0 ∙ l.cell.0

  pub same_limit : (self share : Share R F Q M A B O G) (maybe : MaybeShare R F Q M A B O G) (b : Bool) {last : Bool} → LeavesBy self maybe b last → Taken maybe share → limit_in share ≡ limit_in self
  same_limit self share maybe b l e = ap (λ k. k.limit) (e.1 ∙ l.terms)
