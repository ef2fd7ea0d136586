-- What the calls that end a run come to, step after step.
use Rattle.task_cell.proofs.Vocabulary.{◌≡◌, ℕ, Bool, true, false, not, ◌&&◌, List, [], ◌∷◌, ◌++◌, ap, ◌∙◌, nat_lt, State, Ended, OfRun, ThenEnds, Position, At, Deliverer, Pending, ReadyFutureDropped}
use Rattle.task_cell.proofs.Vocabulary.{PendingFutureDropped, OutputInHand, AnswerReady, AnswerPending, DropFuture, StoreOutput, Complete, CompleteDetached, DropOutput, EndClosed, Reschedule, EndIdle}
use Rattle.task_cell.proofs.Vocabulary.{EndOrphaned, HandOver, EndCall, Ran, notifies, Slot, Deed, Party, Rescheduled, Idle, Orphaned, StandsWith}
use Rattle.task_cell.proofs.Vocabulary.{DidWith, Did, row, act, kept, not_claimed, ready, closed_meanwhile, woken_meanwhile, idle, orphaned, Rests, Completes, keeps, finds_detached, Stores}
use Rattle.task_cell.proofs.Vocabulary.{ClosesPending, EndsReady, EndsUnready, AnswersPending, stays_pending, clears, EndsPending, is_closed, is_rescheduled, is_idle, is_orphaned, subst, TaskPlace, work_first}
use Rattle.std.specs.Prelude.{◌||◌}
use Rattle.std.proofs.Common.{Option, Some, None}
use Rattle.task_steps.specs.declared.found.PendingEnd.{PendingEnd}
use Rattle.task_cell.specs.RunPaths.{StorePath, detached}
use Rattle.task_cell.specs.RunCalls.{finds_closed}
use Rattle.task_cell.proofs.Moved as moved

unkept : (w : State) → w.task ≡ true → w.closed ≡ false → (w.task && not w.closed) ≡ true
unkept w h k = ap (λ b. b && not w.closed) h ∙ ap not k

module _ {F T A : Type 0} where
  -- the output
  pub completes_cell : (p q : Party F T A) (w : State) → Completes p q w → q.seat.block ≡ p.seat.block
  completes_cell p q w (keeps h k g) = g.cell
  completes_cell p q w (finds_closed z h k g) = g.cell
  completes_cell p q w (finds_detached z h g) = g.cell

  -- an output that nobody will claim
  unclaimed : (p q : Party F T A) (w : State) → Completes p q w → (w.task && not w.closed) ≡ false
      → (path : List Deed) × (z : Slot F T) × StorePath w (act DropFuture ∷ (path ++ act DropOutput ∷ [])) × DidWith path (OutputInHand w.awaiter) (work_first z []) p q
  unclaimed p q w (keeps h k g) e = let x = unkept w h k in absurd (cc)
  unclaimed p q w (finds_closed z h k g) e = (act StoreOutput ∷ row Complete w ∷ [], z, not_claimed h k, g)
  unclaimed p q w (finds_detached z h g) e = (act StoreOutput ∷ row CompleteDetached w ∷ [], z, detached h, g)

  pub output_left : (p q : Party F T A) (w : State) → Completes p q w → (w.task && not w.closed) ≡ false → (z : Slot F T) × StandsWith (OutputInHand w.awaiter) (work_first z []) q
  output_left p q w c e = let x = unclaimed p q w c e in (x.1, moved.stands p q x.0 (OutputInHand w.awaiter) (work_first x.1 []) x.3)

  pub stores_kept : (p q : Party F T A) (w : State) → Completes p q w → (w.task && not w.closed) ≡ true → Stores w p q
  stores_kept p q w (keeps h k g) e = (_, kept h k, g)
  stores_kept p q w (finds_closed z h k g) e = let x : (w.task && not w.closed) ≡ false = ap (λ b. b && not w.closed) h ∙ ap not k in absurd (cc)
  stores_kept p q w (finds_detached z h g) e = let x : (w.task && not w.closed) ≡ false = ap (λ b. b && not w.closed) h in absurd (cc)

  pub stores_dropped : (p q r : Party F T A) (w : State) → Completes p q w → (w.task && not w.closed) ≡ false
      → ((due : Bool) (z : Slot F T) → StandsWith (OutputInHand due) (work_first z []) q → Did (act DropOutput ∷ []) (notifies due OfRun) q r) → Stores w p r
  stores_dropped p q r w c e drops = let x = unclaimed p q w c e in
      (x.0 ++ act DropOutput ∷ [], x.2, moved.did_then p q r x.0 (act DropOutput ∷ []) (OutputInHand w.awaiter) (notifies w.awaiter OfRun) (work_first x.1 []) [] x.3 (drops w.awaiter x.1 (moved.stands p q x.0 (OutputInHand w.awaiter) (work_first x.1 []) x.3)))

  pub ready_rest : (Woken : Type 0) (w : State) (held cleared : List (ℕ × TaskPlace F T A)) (p q r s t : Party F T A) → DidWith (act AnswerReady ∷ act DropFuture ∷ []) ReadyFutureDropped held p q → DidWith [] ReadyFutureDropped cleared q r → Stores w r s → Rests Woken w.awaiter s t → EndsReady Woken p t
  ready_rest Woken w held cleared p q r s t f g x z = (
    act AnswerReady ∷ act DropFuture ∷ (x.0 ++ z.0),
    ready w (act DropFuture ∷ x.0) z.0 x.1 z.1,
    moved.did_then p q t (act AnswerReady ∷ act DropFuture ∷ []) (x.0 ++ z.0) ReadyFutureDropped (At Ended) held [] f
        (moved.did_then q r t [] (x.0 ++ z.0) ReadyFutureDropped (At Ended) cleared [] g
        (moved.did_then r s t x.0 z.0 (notifies w.awaiter OfRun) (At Ended) [] [] x.2 z.2)),
  )

  -- a closed task
  pub closes_rest : (Woken : Type 0) (w : State) (p q r : Party F T A) → (w.closed ≡ true) × Did (row EndClosed w ∷ []) (notifies w.awaiter OfRun) p q → Rests Woken w.awaiter q r → ClosesPending Woken p r
  closes_rest Woken w p q r h x = (w, x.0, h.0, x.1, moved.did_then p q r (row EndClosed w ∷ []) x.0 (notifies w.awaiter OfRun) (At Ended) [] [] h.1 x.2)

  -- after a poll that answered Pending, by how the run ends
  abbrev pub IsRescheduled : Party F T A → Party F T A → Type 0
  IsRescheduled p q = (w : State) × (w.closed ≡ false) × (w.scheduled ≡ true) × Did (act AnswerPending ∷ row Reschedule w ∷ []) (Deliverer true (ThenEnds (Ran true))) p q

  abbrev pub IsIdle : Party F T A → Party F T A → Type 0
  IsIdle p q = (w : State) × (w.closed ≡ false) × (w.scheduled ≡ false) × ((nat_lt 1 w.references || w.task) ≡ true) × Did (act AnswerPending ∷ row EndIdle w ∷ act EndCall ∷ []) (At Ended) p q

  abbrev pub IsOrphaned : Party F T A → Party F T A → Type 0
  IsOrphaned p q = (w : State) × (w.closed ≡ false) × (w.scheduled ≡ false) × ((nat_lt 1 w.references || w.task) ≡ false) × Did (act AnswerPending ∷ row EndOrphaned w ∷ []) (Deliverer false (ThenEnds (Ran false))) p q

  -- what the step tells that follows a poll which answered Pending
  abbrev pub Ends : Party F T A → Party F T A → Option PendingEnd → Type 0
  Ends q r e = (y : Slot F T) → StandsWith Pending (work_first y []) q → EndsPending (work_first y []) q r e

  -- the task was found closed, or not
  pub cleared_first : (held : List (ℕ × TaskPlace F T A)) (p q : Party F T A) (b : Bool) → AnswersPending held p q b → b ≡ true → DidWith (act AnswerPending ∷ act DropFuture ∷ []) PendingFutureDropped held p q
  cleared_first held p q b f h = by (subst (λ b. AnswersPending held p q b) h f)
    where
      by : AnswersPending held p q true → DidWith (act AnswerPending ∷ act DropFuture ∷ []) PendingFutureDropped held p q
      by (clears g) = g

  pub left_pending : (held : List (ℕ × TaskPlace F T A)) (p q : Party F T A) (b : Bool) → AnswersPending held p q b → b ≡ false → DidWith (act AnswerPending ∷ []) Pending held p q
  left_pending held p q b f h = by (subst (λ b. AnswersPending held p q b) h f)
    where
      by : AnswersPending held p q false → DidWith (act AnswerPending ∷ []) Pending held p q
      by (stays_pending g) = g

  -- the run has ended, by this end, after its task was found closed, or not
  module _ (p q r : Party F T A) (b : Bool) (e : Option PendingEnd) (y : Slot F T) (f : AnswersPending (work_first y []) p q b) (h : b ≡ false) (g : Ends q r e) where
    first : DidWith (act AnswerPending ∷ []) Pending (work_first y []) p q
    first = left_pending (work_first y []) p q b f h

    ended : (x : Option PendingEnd) → e ≡ x → EndsPending (work_first y []) q r x
    ended x is = subst (λ x. EndsPending (work_first y []) q r x) is (g y (moved.stands p q (act AnswerPending ∷ []) Pending (work_first y []) first))

    both : (path : List Deed) (at : Position) (held : List (ℕ × TaskPlace F T A)) → DidWith path at held q r → DidWith (act AnswerPending ∷ path) at held p r
    both path at held x = moved.did_then p q r (act AnswerPending ∷ []) path Pending at (work_first y []) held first x

    -- what each end comes to
    abbrev pub After : Option PendingEnd → Type 0
    After None = DidWith (act AnswerPending ∷ act DropFuture ∷ []) PendingFutureDropped (work_first y []) p r
    After (Some Rescheduled) = IsRescheduled p r
    After (Some Idle) = IsIdle p r
    After (Some Orphaned) = IsOrphaned p r

    at_end : (x : Option PendingEnd) → EndsPending (work_first y []) q r x → After x
    at_end None (is_closed k) = both (act DropFuture ∷ []) PendingFutureDropped (work_first y []) k
    at_end (Some Rescheduled) (is_rescheduled w a c k) = (w, a, c, both (row Reschedule w ∷ []) (Deliverer true (ThenEnds (Ran true))) [] k)
    at_end (Some Idle) (is_idle w a c d k) = (w, a, c, d, both (row EndIdle w ∷ act EndCall ∷ []) (At Ended) [] k)
    at_end (Some Orphaned) (is_orphaned w a c d k) = (w, a, c, d, both (row EndOrphaned w ∷ []) (Deliverer false (ThenEnds (Ran false))) [] k)

    pub by_end : (x : Option PendingEnd) → e ≡ x → After x
    by_end x is = at_end x (ended x is)

  module _ (Woken : Type 0) (Scheduled : Bool → Type 0) where
    pub found_closed : (held : List (ℕ × TaskPlace F T A)) (p q r : Party F T A) → DidWith (act AnswerPending ∷ act DropFuture ∷ []) PendingFutureDropped held p q → ClosesPending Woken q r → EndsUnready Woken Scheduled false p r
    found_closed held p q r f x = (_, closed_meanwhile x.0 x.1 x.2 x.3, moved.did_then p q r (act AnswerPending ∷ act DropFuture ∷ []) (row EndClosed x.0 ∷ x.1) PendingFutureDropped (At Ended) held [] f x.4)

    pub found_idle : (p q : Party F T A) → IsIdle p q → EndsUnready Woken Scheduled false p q
    found_idle p q x = (_, idle x.0 x.1 x.2 x.3, x.4)

    pub found_woken : (p q r : Party F T A) → IsRescheduled p q → Scheduled true → Did (act HandOver ∷ act EndCall ∷ []) (At Ended) q r → EndsUnready Woken Scheduled true p r
    found_woken p q r x fact h = (_, woken_meanwhile x.0 x.1 x.2 fact, moved.did_then p q r (act AnswerPending ∷ row Reschedule x.0 ∷ []) (act HandOver ∷ act EndCall ∷ []) (Deliverer true (ThenEnds (Ran true))) (At Ended) [] [] x.3 h)

    pub found_orphaned : (p q r : Party F T A) → IsOrphaned p q → Scheduled false → Did (act HandOver ∷ act EndCall ∷ []) (At Ended) q r → EndsUnready Woken Scheduled false p r
    found_orphaned p q r x fact h = (_, orphaned x.0 x.1 x.2 x.3 fact, moved.did_then p q r (act AnswerPending ∷ row EndOrphaned x.0 ∷ []) (act HandOver ∷ act EndCall ∷ []) (Deliverer false (ThenEnds (Ran false))) (At Ended) [] [] x.4 h)
