-- The rule at the spawn and at the end.
use Rattle.task_steps.specs.Values.{Values}
use Rattle.task_steps.specs.declared.kept.StoredAwaiter.{StoredAwaiter}
use Rattle.task_cell.proofs.Vocabulary.{◌≡◌, ℕ, zero, suc, ◌≢◌, true, List, [], ◌∷◌, ◌++◌, get_or, set, sym, refl, ap, ◌∙◌, subst, arith}
use Rattle.task_cell.proofs.Vocabulary.{some, some-injective, some-ne-none, Me, Splits, Final, Seen, Position, At}
use Rattle.task_cell.proofs.Vocabulary.{Runnable, Task, Slot, Member, View, Party, member, view, fresh, opening_view, IsEmpty, Waits, Explains}
use Rattle.task_cell.proofs.Vocabulary.{RuleHolds, deeds, limit_of, StandsWith, Witness, Witnesses, tells, state_of, leaves, retold, TaskPlace, First, None, Second, Option}
use lib.ListN.{get_elem?}
use Rattle.atomic_table.specs.Table.{State as Board}
use Rattle.task_steps.specs.Spawns.{opening_runnable, opening_task}
use Rattle.task_steps.proofs.Explains.{inside}
use Rattle.task_steps.proofs.Left.{empty_at_close}
use Rattle.task_steps.specs.Shares.{has_emptied}
use Rattle.atomic_table.proofs.Lists as lists
use Rattle.task_cell.proofs.Moved.{position_is}

module _ (F T A : Type 0) (values : Values F T) (limit : ℕ) where
  abbrev B : Type 0
  B = Board (TaskPlace F T A) View

  abbrev Rule : B → Type 0
  Rule = RuleHolds {A = A} values limit

  -- the Task gets a seat
  pub parts : (id : ℕ) (v : View) (l : ℕ) → v ≡ opening_view l → Splits Rule id v (opening_runnable v) (opening_task v)
  parts id v l is s r at = let run = r.running in
      let t0 = subst (λ vs. Explains limit vs run.log run.machine) (sym (ap (λ z. set s.views id z) (sym is) ∙ lists.set_again s.views id v at)) run.told in
      let t1 = leaves limit s.views id l run.log run.machine (fresh (At Runnable) ∷ fresh (At (Task 0)) ∷ []) (fresh (At Runnable) ∷ []) (fresh (At (Task 0))) 1 t0 (inside s.views id v at) refl only in
      subst (λ vs. Rule record { words = s.words; homes = s.homes; views = vs }) (λ j. set s.views id (ap opening_runnable (sym is) j) ++ (ap opening_task (sym is)) j ∷ [])
      (retold F T A values limit s r.capped run (set s.views id (view l (fresh (At Runnable) ∷ [])) ++ view l (fresh (At (Task 0)) ∷ []) ∷ []) run.log run.machine t1 refl run.limited run.housed)
    where
      only : (j : ℕ) (x : Member) → get_elem? (fresh (At Runnable) ∷ []) j ≡ some x → (get_elem? (fresh (At Runnable) ∷ fresh (At (Task 0)) ∷ []) j ≡ some x) × (j ≢ 1)
      only zero x e = (e, λ z. omega arith)
      only (suc j) x e = absurd (some-ne-none x (sym e))

  -- the last word
  pub last_word : (p : Party F T A) (at : Position) (held : List (ℕ × TaskPlace F T A)) (ws : List ℕ) (xs : List (TaskPlace F T A)) (word : ℕ) → StandsWith at held p → Final (Seen Rule p.seat.id p.seat.me.0) ws xs → get_elem? ws 0 ≡ some word → Witnesses p (state_of word)
  last_word p at held ws xs word stands f is = let s = f.0 in
      subst (λ (z : ℕ × Position). Witness (limit_of p) (state_of z.0) z.1 (deeds p)) (λ i. (sym (first s.words word (ap (λ ws. get_elem? ws 0) f.2 ∙ is)) i, sym (position_is p at held stands) i))
      (tells F T A values limit s (f.1).0.running p.seat.id p.seat.me.0 (member at (deeds p)) [] (f.1).1 (ap (λ (m : Me (TaskPlace F T A) View). m.0.members) stands))
    where
      first : (l : List ℕ) (n : ℕ) → get_elem? l 0 ≡ some n → n ≡ get_or l 0 0
      first [] n e = absurd (some-ne-none n (sym e))
      first (x ∷ l) n e = sym (some-injective x n e)

  -- what lies in a block that is given back, by a party that has emptied the places
  pub left_empty : (p : Party F T A) (at : Position) (ws : List ℕ) (y : Slot F T) (a : Option (StoredAwaiter A)) → StandsWith at [] p → has_emptied (deeds p) ≡ true → Final (Seen Rule p.seat.id p.seat.me.0) ws (First y ∷ Second a ∷ []) → IsEmpty y × Waits None a
  left_empty p at ws y a stands did f = let n = empty_at_close F T A values limit f.0 (f.1).0 p.seat.id p.seat.me.0 (member at (deeds p)) [] (f.1).1 (ap (λ (m : Me (TaskPlace F T A) View). m.0.members) stands) did in (
    subst (λ z. IsEmpty z) (work_is n.work.0 (f.4 0 (First n.work.0) n.work.1)) n.work.2,
    subst (λ z. Waits None z) (awaiter_is n.awaiter.0 (f.4 1 (Second n.awaiter.0) n.awaiter.1)) n.awaiter.2,
  )
    where
      work_is : (z : Slot F T) → get_elem? (First y ∷ Second a ∷ []) 0 ≡ some (First z) → z ≡ y
      work_is z e = cc

      awaiter_is : (z : Option (StoredAwaiter A)) → get_elem? (First y ∷ Second a ∷ []) 1 ≡ some (Second z) → z ≡ a
      awaiter_is z e = cc
