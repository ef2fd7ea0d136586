-- How a run takes a Runnable up.
use Rattle.task_steps.specs.Values.{Values}
use Rattle.std.proofs.Common.{inl}
use Rattle.task_cell.proofs.Vocabulary.{◌≡◌, ℕ, true, false, List, [], ◌∷◌, refl, inr, State, At}
use Rattle.task_cell.proofs.Vocabulary.{Runnable, TakeUpClosed, DropFuture, StartRun, StartPoll, Deed, Party, Stands, deeds, TakesUp}
use Rattle.task_cell.proofs.Vocabulary.{finds_closed, starts, queued, takes_future, OwesEnd, MayTry, HasChanged, HasEnded, not_true, TaskPlace}
use Rattle.task_steps.specs.StartScripts.{to_start_run}
use Rattle.task_steps.proofs.Allowed.{OwesChange}
use Rattle.task_steps.proofs.Computed.{by_table, row_fits}
use Rattle.task_cell.proofs.Moved.{moved}
use Rattle.task_steps.specs.Shares.{MayBring}
use Rattle.task_cell.proofs.Attempts.{may_bring_at}

module _ (F T A : Type 0) (values : Values F T) (limit : ℕ) where
  takes_up_closed : (ds : List Deed) (l : List (ℕ × TaskPlace F T A)) → OwesEnd F T A values limit to_start_run (At Runnable) ds [] l
  takes_up_closed ds l m f n e lt closed = let q = queued m f.number f.invariant f.stands in
      by_table m (row_fits closed) e (refl, refl) (takes_future refl refl refl (inr refl) q.future (λ _ h. h))

  starts_run : (ds : List Deed) (l : List (ℕ × TaskPlace F T A)) → OwesChange F T A values limit to_start_run (At Runnable) ds [] l
  starts_run ds l m f fits = let q = queued m f.number f.invariant f.stands in by_table m (row_fits fits) refl (refl, refl) (takes_future refl refl refl (inr refl) q.future (λ _ h. h))

  -- the rule allows a Runnable to start its run
  pub may_start : (p : Party F T A) → Stands (At Runnable) p → MayTry values limit 2 p.seat.id p.seat.me to_start_run × MayBring values limit p.seat.id p.seat.me to_start_run
  may_start p s = may_bring_at limit p (At Runnable) [] s to_start_run (λ w. refl) (starts_run (deeds p) []) (λ m f fits. inl (refl, refl)) (takes_up_closed (deeds p) [])

module _ {F T A : Type 0} where
  pub found_closed : {values : Values F T} (limit : ℕ) (w : State) (p q : Party F T A) → Stands (At Runnable) p → q.seat.block ≡ p.seat.block → HasEnded values limit to_start_run w p.seat.me q.seat.me → TakesUp values p q false
  found_closed limit w p q s cell e = let x = moved (TakeUpClosed ∷ DropFuture ∷ []) w (At Runnable) [] p q s e.made in
      finds_closed w x.carried.0 e.at_end x.carried.1 (record { cell = cell; is = λ i. (x.viewed i, x.carried.2 i) })

  pub started : {values : Values F T} (limit : ℕ) (r : Unit {0}) (p q : Party F T A) → Stands (At Runnable) p → q.seat.block ≡ p.seat.block → HasChanged values limit to_start_run r p.seat.me q.seat.me → TakesUp values p q true
  started limit r p q s cell c = let w = c.word in let x = moved (StartRun ∷ StartPoll ∷ []) w (At Runnable) [] p q s c.made in
      starts w x.carried.0 (not_true w.closed c.applied) x.carried.1 (record { cell = cell; is = λ i. (x.viewed i, x.carried.2 i) })
