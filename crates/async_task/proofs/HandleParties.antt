-- What a handle keeps of its party between two calls.
use Rattle.task_cell.proofs.Vocabulary.{◌≡◌, ℕ, Bool, true, false, List, [], ◌∷◌, ◌++◌, refl, ap, ◌∙◌, subst, Position, At, Task, Deed, member, view, deeds, position, places_of, limit_of, Stands, Did, as_task}
use Rattle.task_cell.proofs.Vocabulary.{poll_number}
use Rattle.task_cell.specs.declared.cell.Party.{Party}
use Rattle.task_cell.specs.Calls.{is_empty}
use Rattle.task_steps.specs.Standing.{is_task}
use Rattle.task_cell.proofs.Moved as moved
use Rattle.async_task.specs.HandlePaths.{ClosesUnless}

none_held : {X : Type 0} (l : List X) → is_empty l ≡ true → l ≡ []
none_held [] e = refl
none_held (x ∷ xs) e = absurd (cc)

at_task : (p : Position) → is_task p ≡ true → (n : ℕ) × (p ≡ as_task n)
at_task (At (Task n)) e = (n, refl)
at_task _ e = absurd (cc)

module _ {F T A : Type 0} where
  -- a party that is alone on its seat stands where it is
  pub stands_alone : (p : Party F T A) (at : Position) → p.seat.me.0 ≡ view (limit_of p) (member at (deeds p) ∷ []) → is_empty (places_of p) ≡ true → Stands at p
  stands_alone p at alone free = λ i. (alone i, none_held (places_of p) free i)

  -- nothing was done by a call that closes a task which was closed before
  pub closed_before : (Closes : List Deed → Type 0) (p : Party F T A) (b : Bool) → b ≡ true → p.seat.me.0 ≡ view (limit_of p) (member (position p) (deeds p) ∷ []) → is_empty (places_of p) ≡ true
      → (path : List Deed) × ClosesUnless b Closes path × Did path (position p) p p
  closed_before Closes p true e alone free = ([], refl, record { cell = refl; is = stands_alone p (position p) alone free })
  closed_before Closes p false e alone free = absurd (cc)

  pub stands_task : (p : Party F T A) → p.seat.me.0 ≡ view (limit_of p) (member (position p) (deeds p) ∷ []) → is_task (position p) ≡ true → is_empty (places_of p) ≡ true → (n : ℕ) × Stands (as_task n) p
  stands_task p alone placed free = let n = at_task (position p) placed in
      (n.0, stands_alone p (as_task n.0) (alone ∙ ap (λ at. view (limit_of p) (member at (deeds p) ∷ [])) n.1) free)

  -- a party of a Task that is alone on its seat stands where it is, whatever it did
  pub stands_again : (p q : Party F T A) (path : List Deed) (n : ℕ) → Stands (as_task n) p → Did path (position p) p q → Stands (as_task n) q
  stands_again p q path n s g = subst (λ (at : Position). Stands at q) (moved.position_is p (as_task n) [] s) (moved.stands p q path (position p) [] g)

  -- a call that ends where it began, and then a poll
  pub then_polls : (p m q : Party F T A) (before path : List Deed) → Did before (position p) p m → Did path (as_task (poll_number (position m))) m q → Did (before ++ path) (as_task (poll_number (position p))) p q
  then_polls p m q before path f g = moved.did_then p m q before path (position p) (as_task (poll_number (position p))) [] [] f
      (subst (λ (at : Position). Did path (as_task (poll_number at)) m q) (moved.position_is m (position p) [] (moved.stands p m before (position p) [] f)) g)
