-- Which cell a share, a party and a ledger belong to.
use Rattle.std.specs.Prelude.{◌≡◌, ℕ, Bool, false, List, [], ◌∷◌}
use Rattle.task_core.specs.declared.traits.Yields.{Ghosts}
use Rattle.task_core.specs.Yielded.{Continued, Yielded}
use Rattle.counted_block.specs.Blocks.{BlockId}
use Rattle.task_cell.specs.declared.cell.Cell.{Cell}
use Rattle.task_cell.specs.declared.cell.Party.{Party}
use Rattle.task_cell.specs.declared.cell.Share.{Share}
use Rattle.task_cell.specs.declared.cell.MaybeShare.{MaybeShare}
use Rattle.task_cell.specs.declared.cell.LastShare.{LastShare}
use Rattle.task_cell.specs.declared.share.Ledger.{Ledger}
use Rattle.task_steps.specs.declared.table.Deed.{Deed}
use Rattle.task_steps.specs.declared.table.Terms.{Terms}
use Rattle.task_steps.specs.Deeds.{after}
use Rattle.task_steps.specs.Values.{Values, values_of}
use Rattle.task_steps.specs.declared.kept.Kept.{Kept}
use Rattle.task_steps.specs.Rule.{member, view}
use Rattle.task_steps.specs.Standing.{as_ended, as_lent}

module _ {R F Q M A B O : Type 0} {G : Ghosts F O} where
  -- which cell it is, and what lies there beside the word and the places
  abbrev pub cell_of : Share R F Q M A B O G → BlockId × Cell R Q M B
  cell_of share = (share.block.id, share.block.value)

  -- the limit of references of its cell
  abbrev pub limit_in : Share R F Q M A B O G → ℕ
  limit_in share = share.block.key.limit

  -- the future by which its task was spawned
  abbrev pub spawned_in : Share R F Q M A B O G → F
  spawned_in share = share.block.key.future.value

  -- what its rule says of each value in the place of the work
  abbrev pub values_in : Share R F Q M A B O G → Values F (Kept F O G)
  values_in share = values_of G (spawned_in share)

  -- polls of the future by which its task was spawned have made this future of it
  abbrev pub IsContinued : Share R F Q M A B O G → F → Type 0
  IsContinued share future = Continued G.moves (spawned_in share) future

  -- polls of the future by which its task was spawned have answered this output
  abbrev pub HasYielded : Share R F Q M A B O G → O → Type 0
  HasYielded share output = Yielded G.moves (spawned_in share) output

  -- another share of the same cell
  abbrev pub IsSame : Share R F Q M A B O G → Share R F Q M A B O G → Type 0
  IsSame share other = (other.block.id ≡ share.block.id) × (other.block.value ≡ share.block.value) × (other.block.key ≡ share.block.key)

module _ {R F Q M A B O T : Type 0} {G : Ghosts F O} where
  -- the party is one of this cell
  abbrev pub IsOf : Share R F Q M A B O G → Party F T A → Type 0
  IsOf share party = party.seat.block ≡ share.block.id

  -- a party of this cell that was lent for a call has done this in it, and nothing else
  abbrev pub HasMade : Share R F Q M A B O G → List Deed → Party F T A → Type 0
  HasMade share path party =
      (party.seat.block ≡ share.block.id) × (party.seat.me ≡ (view share.block.key.limit (member as_lent (after path []) ∷ []), []))

  -- a party of this cell that was there before has done this, and has ended by it
  abbrev pub HasEnded : Share R F Q M A B O G → List Deed → Party F T A → Type 0
  HasEnded share path party =
      (party.seat.block ≡ share.block.id) × (party.seat.me ≡ (view share.block.key.limit (member as_ended (after path []) ∷ []), []))

  -- the ledger is of the party's cell
  abbrev pub IsBeside : Ledger R F Q M A B O G → Party F T A → Type 0
  IsBeside ledger party = party.seat.block ≡ ledger.ledger.id

  -- the party is one of the cell whose last share this is
  abbrev pub IsOfLast : LastShare R F Q M A B O G → Party F T A → Type 0
  IsOfLast last party = party.seat.block ≡ last.block.id

module _ {R F Q M A B O : Type 0} {G : Ghosts F O} where
  -- a step has made or left a share of this block where the first is true, or else the last share where the second is
  pub record LeftOf (id : BlockId) (key : Terms F) (value : Cell R Q M B) (maybe : MaybeShare R F Q M A B O G) (there last : Bool) : Type 0 where
    pub cell : (maybe.maybe.id ≡ id) × (maybe.maybe.value ≡ value)
    pub terms : maybe.maybe.key ≡ key
    pub is_there : maybe.maybe.there ≡ there
    pub is_last : maybe.maybe.last ≡ last

  -- a step of this share's holder has done so
  abbrev pub LeavesBy : Share R F Q M A B O G → MaybeShare R F Q M A B O G → Bool → Bool → Type 0
  LeavesBy share maybe there last = LeftOf share.block.id share.block.key share.block.value maybe there last

  -- the same where the last share is never left
  abbrev pub Leaves : Share R F Q M A B O G → MaybeShare R F Q M A B O G → Bool → Type 0
  Leaves share maybe there = LeavesBy share maybe there false
