-- A share that goes on with its party: the cell and the limit stay the same.
use Rattle.task_cell.specs.declared.cell.Party.{Party}
use Rattle.task_cell.proofs.Vocabulary.{◌≡◌, ℕ, Bool, true, false, List, [], ◌∷◌, ◌∙◌, sym, ap, Position, Deed, limit_of, member, view, after, DidWith, TaskPlace}
use Rattle.task_steps.specs.Attempts.{HasMissed}
use Rattle.task_steps.specs.Standing.{as_lent}
use Rattle.task_core.specs.declared.traits.Yields.{Ghosts}
use Rattle.task_cell.specs.Belongs.{HasMade, IsSame, Leaves, LeavesBy, cell_of, limit_in}
use Rattle.task_cell.specs.declared.cell.Share.{Share}
use Rattle.task_cell.specs.declared.cell.MaybeShare.{MaybeShare}
use Rattle.task_cell.proofs.Sharing.{Taken}
use Rattle.task_cell.proofs.Moved as moved

module _ {R F Q M A B O T : Type 0} {G : Ghosts F O} where
  -- a party of the cell of a share that is there
  abbrev pub Lives : MaybeShare R F Q M A B O G → Party F T A → Type 0
  Lives maybe p = (maybe.maybe.there ≡ true) × (p.seat.block ≡ maybe.maybe.id) × (limit_of p ≡ maybe.maybe.key.limit)

  pub of_cell : (before : MaybeShare R F Q M A B O G) (share : Share R F Q M A B O G) (p : Party F T A) → Lives before p → Taken before share → p.seat.block ≡ share.block.id
  of_cell before share p live taken = live.1 ∙ sym taken.0

  pub of_limit : (before : MaybeShare R F Q M A B O G) (share : Share R F Q M A B O G) (p : Party F T A) → Lives before p → Taken before share → limit_of p ≡ share.block.key.limit
  of_limit before share p live taken = live.2 ∙ sym (ap (λ k. k.limit) taken.1)

  -- the same once the party has made steps
  pub lives_on : (before later : MaybeShare R F Q M A B O G) (share : Share R F Q M A B O G) (p q : Party F T A) (path : List Deed) (at : Position) (held : List (ℕ × TaskPlace F T A))
      → Lives before p → Taken before share → Leaves share later true → DidWith path at held p q → Lives later q
  lives_on before later share p q path at held live taken leaves g = (
    leaves.is_there,
    g.cell ∙ (live.1 ∙ sym (leaves.cell.0 ∙ taken.0)),
    moved.limit_is p q path at held g ∙ (live.2 ∙ sym (ap (λ k. k.limit) (leaves.terms ∙ taken.1))),
  )

  -- the same where a step has brought a share, or none
  pub lives_still : (before later : MaybeShare R F Q M A B O G) (share : Share R F Q M A B O G) (p : Party F T A) → Lives before p → Taken before share → Leaves share later true → Lives later p
  lives_still before later share p live taken leaves = (leaves.is_there, live.1 ∙ sym (leaves.cell.0 ∙ taken.0), live.2 ∙ sym (ap (λ k. k.limit) (leaves.terms ∙ taken.1)))

  -- the last share lies there, with its party, where the step has left that
  pub lasts_left : (before later : MaybeShare R F Q M A B O G) (share : Share R F Q M A B O G) (p q : Party F T A) (path : List Deed) (at : Position) (held : List (ℕ × TaskPlace F T A)) (last : Bool)
      → Lives before p → Taken before share → LeavesBy share later false last → last ≡ true → DidWith path at held p q
      → ((later.maybe.there ≡ false) × (later.maybe.last ≡ true)) × (q.seat.block ≡ later.maybe.id) × (limit_of q ≡ later.maybe.key.limit)
  lasts_left before later share p q path at held last live taken leaves is g = (
    (leaves.is_there, leaves.is_last ∙ is),
    g.cell ∙ (live.1 ∙ sym (leaves.cell.0 ∙ taken.0)),
    moved.limit_is p q path at held g ∙ (live.2 ∙ sym (ap (λ k. k.limit) (leaves.terms ∙ taken.1))),
  )

  -- another share of the cell, which a call by reference has brought, with its party
  pub brings : (before later : MaybeShare R F Q M A B O G) (share new : Share R F Q M A B O G) (n : Party F T A) → Taken before share → cell_of new ≡ cell_of share → Leaves new later true → n.seat.block ≡ share.block.id → limit_of n ≡ limit_in share
      → Lives later n × (later.maybe.id ≡ before.maybe.id) × (later.maybe.value ≡ before.maybe.value)
  brings before later share new n taken same leaves cell limit =
      let of_new : limit_in share ≡ limit_in new = share.fitting.0 ∙ (sym (ap (λ z. z.1.limit) same) ∙ sym new.fitting.0) in (
        (leaves.is_there, cell ∙ sym (leaves.cell.0 ∙ ap (λ z. z.0) same), limit ∙ (of_new ∙ sym (ap (λ k. k.limit) leaves.terms))),
        leaves.cell.0 ∙ (ap (λ z. z.0) same ∙ taken.0),
        leaves.cell.1 ∙ (ap (λ z. z.1) same ∙ taken.2),
      )

  -- the record of a call by reference, which lies beside a share that is gone
  pub records : (before gone : MaybeShare R F Q M A B O G) (share : Share R F Q M A B O G) (path : List Deed) (p : Party F T A) → Taken before share → Leaves share gone false → HasMade share path p
      → (((gone.maybe.there ≡ false) × (gone.maybe.last ≡ false)) × (gone.maybe.id ≡ before.maybe.id)) × (p.seat.block ≡ before.maybe.id) × (p.seat.me ≡ (view before.maybe.key.limit (member as_lent (after path []) ∷ []), []))
  records before gone share path p taken leaves made = (((leaves.is_there, leaves.is_last), leaves.cell.0 ∙ taken.0), made.0 ∙ taken.0, made.1 ∙ ap (λ k. (view k.limit (member as_lent (after path []) ∷ []), [])) taken.1)

  -- what a call by reference has left of itself that was not made: a share that is gone, of the same cell, and its party
  pub misses : (before gone : MaybeShare R F Q M A B O G) (share : Share R F Q M A B O G) (tries : ℕ) (p : Party F T A) → Taken before share → Leaves share gone false → (p.seat.block ≡ share.block.id) × HasMissed tries p.seat.me
      → ((gone.maybe.there ≡ false) × (gone.maybe.last ≡ false)) × ((gone.maybe.id ≡ before.maybe.id) × (gone.maybe.value ≡ before.maybe.value)) × (p.seat.block ≡ before.maybe.id) × HasMissed tries p.seat.me
  misses before gone share tries p taken leaves missed = ((leaves.is_there, leaves.is_last), (leaves.cell.0 ∙ taken.0, leaves.cell.1 ∙ taken.2), missed.0 ∙ taken.0, missed.1)

  -- the same by a share of the same cell, which a step that was not made has handed back
  pub lives_kept : (before later : MaybeShare R F Q M A B O G) (share kept : Share R F Q M A B O G) (p q : Party F T A) (path : List Deed) (at : Position) (held : List (ℕ × TaskPlace F T A))
      → Lives before p → Taken before share → IsSame share kept → Leaves kept later true → DidWith path at held p q → Lives later q
  lives_kept before later share kept p q path at held live taken same leaves g =
      lives_on before later kept p q path at held live (same.0 ∙ taken.0, same.2 ∙ taken.1, same.1 ∙ taken.2) leaves g

  pub lives_with : (before later : MaybeShare R F Q M A B O G) (share : Share R F Q M A B O G) (p q : Party F T A) → Lives before p → Taken before share → Leaves share later true → (q.seat.block ≡ p.seat.block) × (limit_of q ≡ limit_of p) → Lives later q
  lives_with before later share p q live taken leaves same = (leaves.is_there, same.0 ∙ (live.1 ∙ sym (leaves.cell.0 ∙ taken.0)), same.1 ∙ (live.2 ∙ sym (ap (λ k. k.limit) (leaves.terms ∙ taken.1))))
