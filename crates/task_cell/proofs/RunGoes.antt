-- What the steps of a run and of a Runnable's drop come to.
use Rattle.task_steps.specs.Values.{Values}
use Rattle.std.proofs.Common.{inl}
use Rattle.task_steps.specs.declared.kept.StoredAwaiter.{StoredAwaiter}
use Rattle.task_cell.proofs.Vocabulary.{◌≡◌, ℕ, Bool, true, false, not, ◌||◌, List, [], ◌∷◌, Option, Some, None, refl, sym, ap, ◌∙◌, subst, if◌then◌else◌, nat_lt, State, Answer}
use Rattle.task_cell.proofs.Vocabulary.{Ran, Runnable, Ended, OfRun, ThenEnds, DroppedRunnable, Position, At, Deliverer, GivingUp, Emptier, FutureGone, Polling, Pending, ReadyFutureDropped, PendingFutureDropped}
use Rattle.task_cell.proofs.Vocabulary.{OutputInHand, Act, GiveUpReference, GiveUpLastReference, EmptySlots, DiscardOpen, DiscardClosed, AnswerReady, AnswerPending, DropFuture, StoreOutput, Complete}
use Rattle.task_cell.proofs.Vocabulary.{CompleteDetached, DropOutput, EndClosed, Reschedule, EndIdle, EndCall, EndOrphaned, found, written, after_giving_up, notifies, Slot, Empty, Deed, Party, Rescheduled}
use Rattle.task_cell.proofs.Vocabulary.{Idle, Orphaned, IsFuture, IsOutput, Makes, Carried, all_fit, left_true, dropping_output, StandsWith, Stands, DidWith, Did}
use Rattle.task_cell.proofs.Vocabulary.{limit_of, deeds, row, act, DiscardStart, found_open, found_closed, GivesUp, not_last, last, Releases, Completes, keeps, finds_detached, AnswersPending}
use Rattle.task_cell.proofs.Vocabulary.{stays_pending, clears, EndsPending, is_rescheduled, is_idle, is_orphaned, given_work, given_free, due_work, closed_already, completes, ends_pending}
use Rattle.task_cell.proofs.Vocabulary.{MayTry, HasChanged, HasEnded, never_ends, not_true, arith, TaskPlace, work_first, awaiter_first}
use Rattle.task_steps.specs.declared.found.PendingEnd.{PendingEnd}
use Rattle.std.specs.Prelude.{is_some}
use Rattle.task_core.specs.Rows.{row as row_of}
use Rattle.task_steps.specs.RunScripts.{giving_up, emptying, discarding, answering_ready, answering_pending, completing, ending_pending, ending_closed, to_complete, to_end_pending}
use Rattle.task_cell.specs.RunPaths.{leaves_others, leaves_none}
use Rattle.task_cell.specs.RunCalls.{finds_closed}
use Rattle.task_steps.proofs.RunOwed.{finds_closed as finds_closed_task}
use Rattle.task_cell.proofs.Moved as moved
use Rattle.task_cell.proofs.Carried.{keeps_places, took_awaiter, gave_awaiter, took_work, gave_work}
use Rattle.task_steps.specs.Shares.{MayBring, MayGive}
use Rattle.task_steps.proofs.Handles.{ends_open}
use Rattle.task_steps.proofs.Shares.{keeps_either}
use Rattle.task_cell.proofs.Attempts.{may_bring_at, may_give_at}

some_if : (b : Bool) (x : State) → is_some (if b then Some x else None) ≡ b
some_if b x = grind arith

not_not : (b : Bool) → not (not b) ≡ b
not_not b = grind arith

-- the row fits exactly where another handle is left
pub none_left : (w : State) (o : Option State) (b : Bool) → o ≡ row_of 0 GiveUpReference w → is_some o ≡ not b → not (nat_lt 1 w.references || w.task) ≡ b
none_left w o b e f = ap not (sym (some_if (nat_lt 1 w.references || w.task) (written GiveUpReference w)) ∙ (ap is_some (sym e) ∙ f)) ∙ not_not b

-- an act that is made alone finds the word that its row asks for
alone_fits : (a : Act) (limit : ℕ) (w : State) → all_fit limit w (a ∷ []) ≡ true → found limit a w ≡ true
alone_fits a limit w e = left_true (found limit a w) true e

module _ {F T A : Type 0} where
  pub discarded : {values : Values F T} (p q : Party F T A) (w : State) → Stands (At Runnable) p → q.seat.block ≡ p.seat.block → Makes values (discarding w) w p.seat.me q.seat.me
      → (d : Deed) × (y : Slot F T) × DiscardStart d × DidWith (d ∷ act DropFuture ∷ []) (FutureGone DroppedRunnable) (work_first y []) p q × IsFuture values y
  discarded {values = values} p q w s cell made = by w.closed refl made
    where
      by : (b : Bool) → w.closed ≡ b → Makes values (if b then DiscardClosed ∷ DropFuture ∷ [] else DiscardOpen ∷ DropFuture ∷ []) w p.seat.me q.seat.me
          → (d : Deed) × (y : Slot F T) × DiscardStart d × DidWith (d ∷ act DropFuture ∷ []) (FutureGone DroppedRunnable) (work_first y []) p q × IsFuture values y
      by true h made = let m = moved.moved (DiscardClosed ∷ DropFuture ∷ []) w (At Runnable) [] p q s made in let y = took_work values (At Runnable) (FutureGone DroppedRunnable) [] q.seat.me.1 refl refl m.carried in
          (row DiscardClosed w, y.0, found_closed w h, moved.did p q (row DiscardClosed w ∷ act DropFuture ∷ []) (FutureGone DroppedRunnable) (work_first y.0 []) cell m.viewed y.2, y.1)
      by false h made = let m = moved.moved (DiscardOpen ∷ DropFuture ∷ []) w (At Runnable) [] p q s made in let y = took_work values (At Runnable) (FutureGone DroppedRunnable) [] q.seat.me.1 refl refl m.carried in
          (row DiscardOpen w, y.0, found_open w h, moved.did p q (row DiscardOpen w ∷ act DropFuture ∷ []) (FutureGone DroppedRunnable) (work_first y.0 []) cell m.viewed y.2, y.1)

  pub gave_up : {values : Values F T} (hand : Option ℕ) (answer : Answer) (p q : Party F T A) (w : State) → Stands (GivingUp hand answer) p → q.seat.block ≡ p.seat.block → Makes values (giving_up w) w p.seat.me q.seat.me
      → GivesUp hand answer p q (not (nat_lt 1 w.references || w.task))
  gave_up {values = values} hand answer p q w s cell made = by (nat_lt 1 w.references || w.task) refl made
    where
      by : (b : Bool) → (nat_lt 1 w.references || w.task) ≡ b → Makes values (if b then GiveUpReference ∷ [] else GiveUpLastReference ∷ []) w p.seat.me q.seat.me → GivesUp hand answer p q (not b)
      by true is made = let m = moved.moved (GiveUpReference ∷ []) w (GivingUp hand answer) [] p q s made in
          not_last w is (moved.did p q (row GiveUpReference w ∷ []) (after_giving_up hand answer) [] cell m.viewed (keeps_places values (GivingUp hand answer) (after_giving_up hand answer) [] q.seat.me.1 (given_work hand answer) (given_free hand answer) m.carried))
      by false is made = let m = moved.moved (GiveUpLastReference ∷ []) w (GivingUp hand answer) [] p q s made in let y = took_awaiter values (GivingUp hand answer) (Emptier hand answer) [] q.seat.me.1 refl refl refl m.carried in
          last w y.0 (alone_fits GiveUpLastReference (limit_of p) w made.fits) (moved.did p q (row GiveUpLastReference w ∷ []) (Emptier hand answer) (awaiter_first y.0 []) cell m.viewed y.2)

  pub gives_cell : (hand : Option ℕ) (answer : Answer) (p q : Party F T A) (b : Bool) → GivesUp hand answer p q b → q.seat.block ≡ p.seat.block
  gives_cell hand answer p q true (last w y f g) = g.cell
  gives_cell hand answer p q false (not_last w f g) = g.cell

  pub last_stands : (hand : Option ℕ) (answer : Answer) (p q : Party F T A) (b : Bool) → GivesUp hand answer p q b → b ≡ true → (y : Option (StoredAwaiter A)) × StandsWith (Emptier hand answer) (awaiter_first y []) q
  last_stands hand answer p q true (last w y f g) e = (y, moved.stands p q (row GiveUpLastReference w ∷ []) (Emptier hand answer) (awaiter_first y []) g)
  last_stands hand answer p q false (not_last w f g) e = absurd (cc)

  pub emptied : {values : Values F T} (hand : Option ℕ) (answer : Answer) (y : Option (StoredAwaiter A)) (p q : Party F T A) (w : State) → StandsWith (Emptier hand answer) (awaiter_first y []) p → q.seat.block ≡ p.seat.block → Makes values (emptying w) w p.seat.me q.seat.me
      → Did (act EmptySlots ∷ []) (after_giving_up hand answer) p q
  emptied {values = values} hand answer y p q w s cell made = let m = moved.moved (EmptySlots ∷ []) w (Emptier hand answer) (awaiter_first y []) p q s made in
      moved.did p q (act EmptySlots ∷ []) (after_giving_up hand answer) [] cell m.viewed (gave_awaiter values (Emptier hand answer) (after_giving_up hand answer) (awaiter_first y []) q.seat.me.1 (given_work hand answer) refl (given_free hand answer) m.carried)

  pub releases_last : (hand : Option ℕ) (answer : Answer) (p q r : Party F T A) (b : Bool) → GivesUp hand answer p q b → b ≡ true
      → ((y : Option (StoredAwaiter A)) → StandsWith (Emptier hand answer) (awaiter_first y []) q → Did (act EmptySlots ∷ []) (after_giving_up hand answer) q r) → Releases hand answer p r
  releases_last hand answer p q r true (last w y f g) e ends = (
    row GiveUpLastReference w ∷ act EmptySlots ∷ [],
    leaves_none w f,
    moved.did_then p q r (row GiveUpLastReference w ∷ []) (act EmptySlots ∷ []) (Emptier hand answer) (after_giving_up hand answer) (awaiter_first y []) [] g (ends y (moved.stands p q (row GiveUpLastReference w ∷ []) (Emptier hand answer) (awaiter_first y []) g)),
  )
  releases_last hand answer p q r false (not_last w f g) e ends = absurd (cc)

  pub releases_other : (hand : Option ℕ) (answer : Answer) (p q : Party F T A) (b : Bool) → GivesUp hand answer p q b → b ≡ false → Releases hand answer p q
  releases_other hand answer p q false (not_last w f g) e = (row GiveUpReference w ∷ [], leaves_others w f, g)
  releases_other hand answer p q true (last w y f g) e = absurd (cc)

  pub answered_ready : {values : Values F T} (held : List (ℕ × TaskPlace F T A)) (p q : Party F T A) (w : State) → StandsWith Polling held p → q.seat.block ≡ p.seat.block → Makes values (answering_ready w) w p.seat.me q.seat.me → DidWith (act AnswerReady ∷ act DropFuture ∷ []) ReadyFutureDropped held p q
  answered_ready {values = values} held p q w s cell made = let m = moved.moved (AnswerReady ∷ DropFuture ∷ []) w Polling held p q s made in moved.did p q (act AnswerReady ∷ act DropFuture ∷ []) ReadyFutureDropped held cell m.viewed (keeps_places values Polling ReadyFutureDropped held q.seat.me.1 refl refl m.carried)

  -- what is found closed is closed
  at_closed : {values : Values F T} (acts : List Act) (w : State) (p q : Party F T A) → w.closed ≡ true → Makes values acts w p.seat.me q.seat.me → Makes values acts (record w { closed = true }) p.seat.me q.seat.me
  at_closed {values = values} acts w p q e made = subst (λ (v : State). Makes values acts v p.seat.me q.seat.me) (sym (closed_already w e)) made

  pub answered_pending : {values : Values F T} (held : List (ℕ × TaskPlace F T A)) (p q : Party F T A) (w : State) → StandsWith Polling held p → q.seat.block ≡ p.seat.block → Makes values (answering_pending w) w p.seat.me q.seat.me → AnswersPending held p q w.closed
  answered_pending {values = values} held p q w s cell made = by w.closed refl made
    where
      by : (b : Bool) → w.closed ≡ b → Makes values (if b then AnswerPending ∷ DropFuture ∷ [] else AnswerPending ∷ []) w p.seat.me q.seat.me → AnswersPending held p q b
      by true h made = let v : State = record w { closed = true } in let m = moved.moved (AnswerPending ∷ DropFuture ∷ []) v Polling held p q s (at_closed (AnswerPending ∷ DropFuture ∷ []) w p q h made) in
          clears (moved.did p q (act AnswerPending ∷ act DropFuture ∷ []) PendingFutureDropped held cell m.viewed (keeps_places values Polling PendingFutureDropped held q.seat.me.1 refl refl m.carried))
      by false h made = let m = moved.moved (AnswerPending ∷ []) w Polling held p q s made in
          stays_pending (moved.did p q (act AnswerPending ∷ []) Pending held cell m.viewed (keeps_places values Polling Pending held q.seat.me.1 refl refl m.carried))

  pub found_closed_meanwhile : {values : Values F T} (limit : ℕ) (held : List (ℕ × TaskPlace F T A)) (p q : Party F T A) (w : State) → StandsWith Pending held p → q.seat.block ≡ p.seat.block → HasEnded values limit to_end_pending w p.seat.me q.seat.me → DidWith (act DropFuture ∷ []) PendingFutureDropped held p q
  found_closed_meanwhile {values = values} limit held p q w s cell e = let v : State = record w { closed = true } in let m = moved.moved (DropFuture ∷ []) v Pending held p q s (at_closed (DropFuture ∷ []) w p q e.at_end e.made) in
      moved.did p q (act DropFuture ∷ []) PendingFutureDropped held cell m.viewed (keeps_places values Pending PendingFutureDropped held q.seat.me.1 refl refl m.carried)

  pub ended_closed : {values : Values F T} (p q : Party F T A) (w : State) → StandsWith PendingFutureDropped (work_first Empty []) p → q.seat.block ≡ p.seat.block → Makes values (ending_closed w) w p.seat.me q.seat.me → (w.closed ≡ true) × Did (row EndClosed w ∷ []) (notifies w.awaiter OfRun) p q
  ended_closed {values = values} p q w s cell made = let m = moved.moved (EndClosed ∷ []) w PendingFutureDropped (work_first Empty []) p q s made in
      (alone_fits EndClosed (limit_of p) w made.fits, moved.did p q (row EndClosed w ∷ []) (notifies w.awaiter OfRun) [] cell m.viewed (gave_work values PendingFutureDropped (notifies w.awaiter OfRun) (work_first Empty []) q.seat.me.1 refl (due_work w.awaiter) m.carried))

  pub dropped_output : {values : Values F T} (due : Bool) (p q : Party F T A) (w : State) → StandsWith (OutputInHand due) (work_first Empty []) p → q.seat.block ≡ p.seat.block → Makes values (dropping_output w) w p.seat.me q.seat.me → Did (act DropOutput ∷ []) (notifies due OfRun) p q
  dropped_output {values = values} due p q w s cell made = let m = moved.moved (DropOutput ∷ []) w (OutputInHand due) (work_first Empty []) p q s made in
      moved.did p q (act DropOutput ∷ []) (notifies due OfRun) [] cell m.viewed (gave_work values (OutputInHand due) (notifies due OfRun) (work_first Empty []) q.seat.me.1 refl (due_work due) m.carried)

  pub completed : {values : Values F T} (z : Slot F T) (p q : Party F T A) (w : State) → StandsWith ReadyFutureDropped (work_first z []) p → q.seat.block ≡ p.seat.block → Makes values (completing w) w p.seat.me q.seat.me → Completes p q w
  completed {values = values} z p q w s cell made = by w.task w.closed refl refl made
    where
      by : (b c : Bool) → w.task ≡ b → w.closed ≡ c → Makes values (if b then StoreOutput ∷ Complete ∷ [] else StoreOutput ∷ CompleteDetached ∷ []) w p.seat.me q.seat.me → Completes p q w
      by true true h k made = let m = moved.moved (StoreOutput ∷ Complete ∷ []) w ReadyFutureDropped (work_first z []) p q s made in let e : (if w.closed then OutputInHand w.awaiter else notifies w.awaiter OfRun) ≡ OutputInHand w.awaiter = ap (λ b. if b then OutputInHand w.awaiter else notifies w.awaiter OfRun) k in
          finds_closed z h k (subst (λ (at : Position). DidWith (act StoreOutput ∷ row Complete w ∷ []) at (work_first z []) p q) e
          (moved.did p q (act StoreOutput ∷ row Complete w ∷ []) (if w.closed then OutputInHand w.awaiter else notifies w.awaiter OfRun) (work_first z []) cell m.viewed
          (keeps_places values ReadyFutureDropped (OutputInHand w.awaiter) (work_first z []) q.seat.me.1 refl refl (subst (λ (at : Position). Carried values ReadyFutureDropped at (work_first z []) q.seat.me.1) e m.carried))))
      by true false h k made = let m = moved.moved (StoreOutput ∷ Complete ∷ []) w ReadyFutureDropped (work_first z []) p q s made in let e : (if w.closed then OutputInHand w.awaiter else notifies w.awaiter OfRun) ≡ notifies w.awaiter OfRun = ap (λ b. if b then OutputInHand w.awaiter else notifies w.awaiter OfRun) k in
          keeps h k (subst (λ (at : Position). Did (act StoreOutput ∷ row Complete w ∷ []) at p q) e
          (moved.did p q (act StoreOutput ∷ row Complete w ∷ []) (if w.closed then OutputInHand w.awaiter else notifies w.awaiter OfRun) [] cell m.viewed
          (gave_work values ReadyFutureDropped (notifies w.awaiter OfRun) (work_first z []) q.seat.me.1 refl (due_work w.awaiter) (subst (λ (at : Position). Carried values ReadyFutureDropped at (work_first z []) q.seat.me.1) e m.carried))))
      by false c h k made = let m = moved.moved (StoreOutput ∷ CompleteDetached ∷ []) w ReadyFutureDropped (work_first z []) p q s made in
          finds_detached z h (moved.did p q (act StoreOutput ∷ row CompleteDetached w ∷ []) (OutputInHand w.awaiter) (work_first z []) cell m.viewed (keeps_places values ReadyFutureDropped (OutputInHand w.awaiter) (work_first z []) q.seat.me.1 refl refl m.carried))

  pub ended_pending : {values : Values F T} (limit : ℕ) (y : Slot F T) (p q : Party F T A) (r : PendingEnd) → StandsWith Pending (work_first y []) p → q.seat.block ≡ p.seat.block → HasChanged values limit to_end_pending r p.seat.me q.seat.me → EndsPending (work_first y []) p q (Some r)
  ended_pending {values = values} limit y p q r s cell c = subst (λ (x : PendingEnd). EndsPending (work_first y []) p q (Some x)) (sym c.is) (by w.scheduled (nat_lt 1 w.references || w.task) refl refl c.made)
    where
      w : State
      w = c.word

      unclosed : w.closed ≡ false
      unclosed = not_true w.closed c.applied

      by : (b d : Bool) → w.scheduled ≡ b → (nat_lt 1 w.references || w.task) ≡ d → Makes values (ending_pending (if b then Rescheduled else (if d then Idle else Orphaned))) w p.seat.me q.seat.me
          → EndsPending (work_first y []) p q (Some (if b then Rescheduled else (if d then Idle else Orphaned)))
      by true d h k made = let m = moved.moved (Reschedule ∷ []) w Pending (work_first y []) p q s made in
          is_rescheduled w unclosed h (moved.did p q (row Reschedule w ∷ []) (Deliverer true (ThenEnds (Ran true))) [] cell m.viewed (gave_work values Pending (Deliverer true (ThenEnds (Ran true))) (work_first y []) q.seat.me.1 refl refl m.carried))
      by false true h k made = let m = moved.moved (EndIdle ∷ EndCall ∷ []) w Pending (work_first y []) p q s made in
          is_idle w unclosed h k (moved.did p q (row EndIdle w ∷ act EndCall ∷ []) (At Ended) [] cell m.viewed (gave_work values Pending (At Ended) (work_first y []) q.seat.me.1 refl refl m.carried))
      by false false h k made = let m = moved.moved (EndOrphaned ∷ []) w Pending (work_first y []) p q s made in
          is_orphaned w unclosed h k (moved.did p q (row EndOrphaned w ∷ []) (Deliverer false (ThenEnds (Ran false))) [] cell m.viewed (gave_work values Pending (Deliverer false (ThenEnds (Ran false))) (work_first y []) q.seat.me.1 refl refl m.carried))

  -- nothing was done yet
  pub at_rest : (at : Position) (held : List (ℕ × TaskPlace F T A)) (p q : Party F T A) → StandsWith at held p → q.seat.block ≡ p.seat.block → q.seat.me ≡ p.seat.me → DidWith [] at held p q
  at_rest at held p q s cell same = record { cell = cell; is = same ∙ s }

  -- the place of the output comes before that of the future
  pub completes_then : (at : Position) (held : List (ℕ × TaskPlace F T A)) (p q r : Party F T A) (w : State) → DidWith [] at held p q → Completes q r w → Completes p r w
  completes_then at held p q r w g (keeps h k x) = keeps h k (moved.did_then p q r [] (act StoreOutput ∷ row Complete w ∷ []) at (notifies w.awaiter OfRun) held [] g x)
  completes_then at held p q r w g (finds_closed z h k x) = finds_closed z h k (moved.did_then p q r [] (act StoreOutput ∷ row Complete w ∷ []) at (OutputInHand w.awaiter) held (work_first z []) g x)
  completes_then at held p q r w g (finds_detached z h x) = finds_detached z h (moved.did_then p q r [] (act StoreOutput ∷ row CompleteDetached w ∷ []) at (OutputInHand w.awaiter) held (work_first z []) g x)

module _ (F T A : Type 0) (values : Values F T) (limit : ℕ) where
  -- the rule allows a run to end: with its output, and without one
  pub may_complete : (p : Party F T A) (z : Slot F T) → StandsWith ReadyFutureDropped (work_first z []) p → IsOutput values z → MayTry values limit 2 p.seat.id p.seat.me to_complete × MayBring values limit p.seat.id p.seat.me to_complete
  may_complete p z s is = may_bring_at limit p ReadyFutureDropped (work_first z []) s to_complete (λ w. refl) (completes F T A values limit (deeds p) [] z (work_first z []) refl is)
      (λ m f any. inl (refl, keeps_either m.word.task (StoreOutput ∷ Complete ∷ []) (StoreOutput ∷ CompleteDetached ∷ []) m.word refl refl)) (never_ends F T A values limit to_complete ReadyFutureDropped (deeds p) [] (work_first z []) (λ w. refl))

  pub may_end : (p : Party F T A) (y : Slot F T) → StandsWith Pending (work_first y []) p → IsFuture values y → MayTry values limit 2 p.seat.id p.seat.me to_end_pending × MayGive values limit p.seat.id p.seat.me to_end_pending
  may_end p y s is = may_give_at limit p Pending (work_first y []) s to_end_pending (λ w. refl) (ends_pending F T A values limit (deeds p) [] y (work_first y []) refl is) (ends_open limit (deeds p) [] F T A values)
      (finds_closed_task F T A values limit (deeds p) [] (work_first y []))
