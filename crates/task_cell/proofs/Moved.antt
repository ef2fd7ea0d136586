-- What a step comes to for the party that made it.
use Rattle.task_steps.specs.Values.{Values}
use Rattle.task_cell.proofs.Vocabulary.{◌≡◌, ℕ, List, [], ◌∷◌, ◌++◌, refl, sym, ap, ◌∙◌, subst, Me, rest, State, Position, Act, Slots, TaskPlace, Deed, View, Party, member, view, head_of}
use Rattle.task_cell.proofs.Vocabulary.{acted, Carried, Makes, deeds, position, places_of, limit_of, StandsWith, DidWith, after}

pub after-append : (a b l : List Deed) → after (a ++ b) l ≡ after b (after a l)
after-append [] b l = refl
after-append (d ∷ a) b l = after-append a b (d ∷ l)

module _ {F T A : Type 0} where
  -- the seat after the step, where the party stood
  pub record Moved (values : Values F T) (acts : List Act) (w : State) (at : Position) (held : List (ℕ × TaskPlace F T A)) (p q : Party F T A) : Type 0 where
    pub slots : Slots
    pub viewed : q.seat.me.0 ≡ acted w slots acts (view (limit_of p) (member at (deeds p) ∷ []))
    pub carried : Carried values at (head_of (acted w slots acts (view (limit_of p) (member at (deeds p) ∷ []))).members).at held q.seat.me.1

  pub moved : {values : Values F T} (acts : List Act) (w : State) (at : Position) (held : List (ℕ × TaskPlace F T A)) (p q : Party F T A) → StandsWith at held p → Makes values acts w p.seat.me q.seat.me → Moved values acts w at held p q
  moved {values = values} acts w at held p q s m = let viewed = m.viewed ∙ ap (λ x. acted w m.slots acts x.0) s in record {
    slots = m.slots;
    viewed = viewed;
    carried = subst (λ (z : Position × Position × List (ℕ × TaskPlace F T A)). Carried values z.0 z.1 z.2 q.seat.me.1)
        (λ i. (ap (λ (x : Me (TaskPlace F T A) View). (head_of x.0.members).at) s i, ap (λ (v : View). (head_of v.members).at) viewed i, ap (λ (x : Me (TaskPlace F T A) View). x.1) s i)) m.carried;
  }

  -- the seat after the step, where the party ends there with these places
  pub did : (p q : Party F T A) (path : List Deed) (at : Position) (held : List (ℕ × TaskPlace F T A)) → q.seat.block ≡ p.seat.block → q.seat.me.0 ≡ view (limit_of p) (member at (after path (deeds p)) ∷ []) → q.seat.me.1 ≡ held → DidWith path at held p q
  did p q path at held cell viewed has = record { cell = cell; is = λ i. (viewed i, has i) }

  -- one path, and then another
  pub did_then : (p q r : Party F T A) (a b : List Deed) (at at' : Position) (held held' : List (ℕ × TaskPlace F T A)) → DidWith a at held p q → DidWith b at' held' q r → DidWith (a ++ b) at' held' p r
  did_then p q r a b at at' held held' f g = record {
    cell = g.cell ∙ f.cell;
    is = g.is ∙ ap (λ (z : ℕ × List Deed). (view z.0 (member at' z.1 ∷ []), held'))
        (λ i. (ap (λ (x : Me (TaskPlace F T A) View). x.0.limit) f.is i, (ap (λ (x : Me (TaskPlace F T A) View). after b (head_of x.0.members).deeds) f.is ∙ sym (after-append a b (deeds p))) i));
  }

  -- it stands where it went
  pub stands : (p q : Party F T A) (path : List Deed) (at : Position) (held : List (ℕ × TaskPlace F T A)) → DidWith path at held p q → StandsWith at held q
  stands p q path at held g = g.is ∙ ap (λ (z : ℕ × List Deed). (view z.0 (member at z.1 ∷ []), held))
      (λ i. (sym (ap (λ (x : Me (TaskPlace F T A) View). x.0.limit) g.is) i, sym (ap (λ (x : Me (TaskPlace F T A) View). (head_of x.0.members).deeds) g.is) i))

  pub position_is : (p : Party F T A) (at : Position) (held : List (ℕ × TaskPlace F T A)) → StandsWith at held p → position p ≡ at
  position_is p at held s = ap (λ (x : Me (TaskPlace F T A) View). (head_of x.0.members).at) s

  pub held_is : (p : Party F T A) (at : Position) (held : List (ℕ × TaskPlace F T A)) → StandsWith at held p → places_of p ≡ held
  held_is p at held s = ap (λ (x : Me (TaskPlace F T A) View). x.1) s

  -- the cell has the same limit
  pub limit_is : (p q : Party F T A) (path : List Deed) (at : Position) (held : List (ℕ × TaskPlace F T A)) → DidWith path at held p q → limit_of q ≡ limit_of p
  limit_is p q path at held g = ap (λ (x : Me (TaskPlace F T A) View). x.0.limit) g.is

  -- the first place of those that it has
  pub first_held : (p : Party F T A) (at : Position) (k : ℕ) (y : TaskPlace F T A) (l : List (ℕ × TaskPlace F T A)) → StandsWith at ((k, y) ∷ l) p → places_of p ≡ (k, y) ∷ rest (places_of p)
  first_held p at k y l s = let e = held_is p at ((k, y) ∷ l) s in e ∙ ap (λ r. (k, y) ∷ r) (ap rest (sym e))
