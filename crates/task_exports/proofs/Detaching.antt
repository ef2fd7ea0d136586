-- What the steps of a detach come to.
use Rattle.task_steps.specs.Values.{Values}
use Rattle.task_exports.proofs.Unknown.{output_unknown}
use Rattle.task_cell.proofs.Vocabulary.{TaskPlace}
use Rattle.std.proofs.Common.{◌≡◌, ℕ, Bool, true, false, List, None, refl, sym, ap, ◌∙◌}
use Rattle.task_core.specs.declared.traits.Yields.{Ghosts}
use Rattle.task_cell.proofs.Moved.{limit_is}
use Rattle.task_cell.proofs.WakerMoves.{fresh_stands}
use Rattle.task_cell.specs.Belongs.{IsOf, Leaves, LeavesBy, limit_in}
use Rattle.task_cell.specs.Calls.{DidWith, IsNew, Stands, limit_of}
use Rattle.task_cell.specs.TaskPaths.{Detaches as DetachesRow, GivesTaskUp}
use Rattle.task_cell.specs.declared.cell.Party.{Party}
use Rattle.task_cell.specs.declared.cell.MaybeShare.{MaybeShare}
use Rattle.task_cell.specs.declared.cell.Share.{Share}
use Rattle.task_exports.specs.Hands.{IsGone}
use Rattle.task_exports.specs.TaskAnswers.{Becomes, BecomesLast, Detaches, EndsDetach, is_last, is_shared, is_unclaimed, leaves_none, leaves_others}
use Rattle.task_exports.specs.declared.hand.Hand.{Hand}
use Rattle.task_laws.specs.declared.positions.Position.{Position}
use Rattle.task_steps.specs.Standing.{as_runnable}
use Rattle.task_steps.specs.declared.table.Deed.{Deed}
use Rattle.task_steps.specs.declared.found.Detached.TheVariants.{Last, Shared, Unclaimed}

module _ {F T A : Type 0} where
  pub is_runnable : (p q : Party F T A) → IsNew as_runnable p q → Stands as_runnable q
  is_runnable p q n = fresh_stands as_runnable (limit_of p) q n.is

  pub same_limit : (p q : Party F T A) → IsNew as_runnable p q → limit_of q ≡ limit_of p
  same_limit p q n = ap (λ m. m.0.limit) n.is

module _ {R F Q M A B O T : Type 0} {G : Ghosts F O} where
  -- the share is there still after a step, and its party is one of its cell
  pub live_after : (share : Share R F Q M A B O G) (maybe : MaybeShare R F Q M A B O G) (b : Bool) {last : Bool} (p q : Party F T A) (path : List Deed) (at : Position) (held : List (ℕ × TaskPlace F T A)) → IsOf share p → limit_of p ≡ limit_in share → LeavesBy share maybe b last → b ≡ true → DidWith path at held p q
      → (maybe.maybe.there ≡ true) × (q.seat.block ≡ maybe.maybe.id) × (limit_of q ≡ maybe.maybe.key.limit)
  live_after share maybe b p q path at held cell limit l is g = (l.is_there ∙ is, g.cell ∙ (cell ∙ sym l.cell.0), limit_is p q path at held g ∙ (limit ∙ sym (ap (λ k. k.limit) l.terms)))

module _ {R F Q M A B O T : Type 0} {G : Ghosts F O} where
  abbrev HasLast : MaybeShare R F Q M A B O G → Party F T A → Type 0
  HasLast maybe q = ((maybe.maybe.there ≡ false) × (maybe.maybe.last ≡ true)) × (q.seat.block ≡ maybe.maybe.id) × (limit_of q ≡ maybe.maybe.key.limit)

  -- the last share is there after a step that has left it, and its party is one of its cell
  pub last_after : (share : Share R F Q M A B O G) (maybe : MaybeShare R F Q M A B O G) (b last : Bool) (p q : Party F T A) (path : List Deed) (at : Position) (held : List (ℕ × TaskPlace F T A)) → IsOf share p → limit_of p ≡ limit_in share → LeavesBy share maybe b last → b ≡ false → last ≡ true → DidWith path at held p q
      → HasLast maybe q
  last_after share maybe b last p q path at held cell limit l is was g = ((l.is_there ∙ is, l.is_last ∙ was), g.cell ∙ (cell ∙ sym l.cell.0), limit_is p q path at held g ∙ (limit ∙ sym (ap (λ k. k.limit) l.terms)))

  pub last_rest : (share : Share R F Q M A B O G) (maybe : MaybeShare R F Q M A B O G) (b : Bool) (p q : Party F T A) → IsOf share p → limit_of p ≡ limit_in share → LeavesBy share maybe false b → b ≡ true → GivesTaskUp p q b → HasLast maybe q
  last_rest share maybe true p q cell limit l e d = last_after share maybe false true p q _ _ _ cell limit l refl refl d.3
  last_rest share maybe false p q cell limit l e d = absurd (cc)

-- the row of a detach, by what is in its place then
pub shared_so : (values : Values _ _) (x y : Hand) → DetachesRow values x.party y.party Shared → IsGone y → Detaches x y None 1
shared_so values x y d gone = is_shared d.0 d.1 gone d.2

pub last_so : (values : Values _ _) (x y : Hand) → DetachesRow values x.party y.party Last → BecomesLast x y → Detaches x y None 9
last_so values x y d b = is_last d.0 d.1 d.2 b d.3

pub unclaimed_so : (values : Values _ _) (x y : Hand) → DetachesRow values x.party y.party Unclaimed → Becomes x y → Detaches x y None 5
unclaimed_so values x y d b = is_unclaimed d.0 d.1 d.2 (output_unknown values d.1 d.3) b d.4

pub rest_last : (x y : Hand) (b : Bool) → b ≡ true → GivesTaskUp x.party y.party b → BecomesLast x y → EndsDetach x y 9
rest_last x y true e d k = leaves_none d.0 d.1 d.2 k d.3
rest_last x y false e d k = absurd (cc)

pub rest_shared : (x y : Hand) (b : Bool) → b ≡ false → GivesTaskUp x.party y.party b → IsGone y → EndsDetach x y 1
rest_shared x y false e d gone = leaves_others d.0 d.1 gone d.2
rest_shared x y true e d gone = absurd (cc)

module _ {R F Q M A B O T : Type 0} {G : Ghosts F O} where
  -- the Runnable that was handed over, by the share that the step brought
  pub live_runnable : (share : Share R F Q M A B O G) (maybe : MaybeShare R F Q M A B O G) (b : Bool) (q r : Party F T A) → q.seat.block ≡ share.block.id → limit_of q ≡ limit_in share → Leaves share maybe b → b ≡ true → IsNew as_runnable q r
      → (maybe.maybe.there ≡ true) × (r.seat.block ≡ maybe.maybe.id) × (limit_of r ≡ maybe.maybe.key.limit)
  live_runnable share maybe b q r cell limit l is n = (l.is_there ∙ is, n.cell ∙ (cell ∙ sym l.cell.0), same_limit q r n ∙ (limit ∙ sym (ap (λ k. k.limit) l.terms)))
