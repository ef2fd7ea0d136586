-- What the record of a call says whose party had done nothing before: its path was made in an interleaving, and the party has done nothing else.
use Rattle.task_cell.proofs.Vocabulary.{◌≡◌, ℕ, List, [], ap, ◌∙◌, subst, Me, Position, Deed, TaskPlace, View, State, Party, after, head_of, member, view, fresh, Did, deeds, limit_of, position, IsWitnessed, WasMade, Witness, true, ◌∷◌, Some, Gains, gains_one, sym}
use Rattle.counted_block.specs.Blocks.{BlockId}
use Rattle.task_steps.specs.Standing.{as_ended, as_lent}
use Rattle.task_cell.specs.Calls.{second}
use Rattle.task_cell.specs.WakerPaths.{GainPath}

module _ {F T A : Type 0} where
  pub was_made : (limit : ℕ) (p q r : Party F T A) (path : List Deed) (at : Position) → limit_of p ≡ limit → deeds p ≡ [] → Did path at p q → r ≡ q → IsWitnessed r → WasMade limit at path
  was_made limit p q r path at is none g e w =
      let ends : limit_of q ≡ limit = ap (λ (m : Me (TaskPlace F T A) View). m.0.limit) g.is ∙ is in
      let stands : position q ≡ at = ap (λ (m : Me (TaskPlace F T A) View). (head_of m.0.members).at) g.is in
      let did : deeds q ≡ after path [] = ap (λ (m : Me (TaskPlace F T A) View). (head_of m.0.members).deeds) g.is ∙ ap (after path) none in
      subst (λ (z : ℕ × Position × List Deed). ∥ ((word : State) × Witness z.0 word z.1 z.2) ∥₁) (λ i. (ends i, stands i, did i)) (subst IsWitnessed e w)

  -- the same of a gain by reference
  pub was_gained : {X : Type 0} (limit : ℕ) (p q r : Party F T A) (waker : X × Party F T A) → p.seat.me ≡ (view limit (fresh as_lent ∷ []), []) → Gains limit p q (second (Some waker)) → r ≡ q → IsWitnessed r
      → (path : List Deed) × GainPath limit true path × WasMade limit as_lent path
  was_gained limit p q r waker new (gains_one path _ gain did _) e seen =
      (path, gain, was_made limit p q r path as_lent (ap (λ (m : Me (TaskPlace F T A) View). m.0.limit) new) (ap (λ (m : Me (TaskPlace F T A) View). (head_of m.0.members).deeds) new) did e seen)

  -- a party that has ended by this path, of this cell
  pub has_ended_by : (block : BlockId) (limit : ℕ) (p q r : Party F T A) (path : List Deed) → p.seat.block ≡ block → limit_of p ≡ limit → deeds p ≡ [] → Did path as_ended p q → r ≡ q
      → (r.seat.block ≡ block) × (r.seat.me ≡ (view limit (member as_ended (after path []) ∷ []), []))
  has_ended_by block limit p q r path cell is none g e = subst (λ (x : Party F T A). (x.seat.block ≡ block) × (x.seat.me ≡ (view limit (member as_ended (after path []) ∷ []), []))) (sym e)
      (g.cell ∙ cell, g.is ∙ (λ i. (view (is i) (member as_ended (after path (none i)) ∷ []), [])))

  -- the same of a party that has ended, in an interleaving
  pub was_ended : (limit : ℕ) (r : Party F T A) (path : List Deed) → r.seat.me ≡ (view limit (member as_ended (after path []) ∷ []), []) → IsWitnessed r → WasMade limit as_ended path
  was_ended limit r path is = subst (λ (m : Me (TaskPlace F T A) View). ∥ ((word : State) × Witness m.0.limit word (head_of m.0.members).at (head_of m.0.members).deeds) ∥₁) is
