-- What the looks of a poll come to that are tried a bounded number of times, and the clone that is put in.
use Rattle.task_steps.specs.Values.{Values}
use Rattle.task_steps.specs.declared.kept.StoredAwaiter.{StoredAwaiter}
use Rattle.task_cell.proofs.Vocabulary.{◌≡◌, ℕ, true, Option, Some, None, [], sym, ◌∙◌, Result, Err, IfOk, IfErr, IfSome, State, Looking, after_storing, Party, Waits}
use Rattle.task_cell.proofs.Vocabulary.{saw_ended, deeds, Stands, DidWith, has_ended, as_task, HasChanged, HasEnded, Looks, LooksAgain, held, awaiter_first}
use Rattle.task_steps.specs.PollScripts.{to_look, to_look_again}
use Rattle.task_cell.proofs.Notified.{there}
use Rattle.task_cell.proofs.PollMoved.{looks_so, looks_again_so, finds_it_ended}
use Rattle.task_cell.specs.Stores.{PutsClone}
use Rattle.task_steps.specs.declared.places.Held.{Held}

module _ {F T A : Type 0} where
  -- the looks, by a bounded number of tries
  pub tried_look : (values : Values F T) (limit n : ℕ) (x : Option (Result State State)) (p q : Party F T A) → Stands (as_task n) p → IfSome x (λ r. q.seat.block ≡ p.seat.block) → IfSome x (λ r. IfOk r (λ w. HasChanged values limit to_look w p.seat.me q.seat.me))
      → IfSome x (λ r. IfErr r (λ w. HasEnded values limit to_look w p.seat.me q.seat.me)) → IfSome x (λ r. Looks values p q r)
  tried_look values limit n None p q s cell c e = tt
  tried_look values limit n (Some x) p q s cell c e = looks_so limit n x p q s cell c e

  pub tried_ended : (values : Values F T) (limit : ℕ) (x : Option (Result State State)) (p q : Party F T A) → IfSome x (λ r. IfOk r (λ w. HasChanged values limit to_look w p.seat.me q.seat.me)) → IfSome x (λ r. IfErr r (λ w. HasEnded values limit to_look w p.seat.me q.seat.me))
      → saw_ended (deeds p) ≡ true → IfSome x (λ r. (w : State) × (r ≡ Err w) × (has_ended w ≡ true))
  tried_ended values limit None p q c e saw = tt
  tried_ended values limit (Some x) p q c e saw = finds_it_ended values limit x p q c e saw

  pub tried_look_again : (values : Values F T) (limit i : ℕ) (x : Option (Result State State)) (p q : Party F T A) → Stands (Looking i) p → IfSome x (λ r. q.seat.block ≡ p.seat.block) → IfSome x (λ r. IfOk r (λ w. HasChanged values limit to_look_again w p.seat.me q.seat.me))
      → IfSome x (λ r. IfErr r (λ w. HasEnded values limit to_look_again w p.seat.me q.seat.me)) → IfSome x (λ r. LooksAgain values p q r)
  tried_look_again values limit i None p q s cell c e = tt
  tried_look_again values limit i (Some x) p q s cell c e = looks_again_so limit i x p q s cell c e

  -- the clone was put in, over what stood there
  pub put : (i : ℕ) (hand : Option ℕ) (y x : Option (StoredAwaiter A)) (clone : StoredAwaiter A) (p q : Party F T A) (found : Option (Held (StoredAwaiter A))) → Waits hand y → (y ≡ x) × DidWith [] (after_storing i hand) (awaiter_first (Some clone) []) p q → held found ≡ x → PutsClone i hand clone p q found
  put i hand y x clone p q found waits g is = (there hand y found waits (is ∙ sym g.0), g.1)
