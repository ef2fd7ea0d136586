-- What the steps of a cancel and of a detach come to for the party that made them.
use Rattle.task_steps.specs.Values.{Values}
use Rattle.task_steps.specs.declared.kept.StoredAwaiter.{StoredAwaiter}
use Rattle.task_cell.proofs.Vocabulary.{◌≡◌, ℕ, Bool, true, false, not, ◌&&◌, List, [], ◌∷◌, ◌++◌, Option, Some, None, refl, sym, subst, arith, nat_lt, nat_eq, if◌then◌else◌, State, is_open}
use Rattle.task_cell.proofs.Vocabulary.{Answer, Nothing, Position, At, Deliverer, Emptier, OutputCloser, Detacher, CallEnding, Rest, Task, Ended, ThenEnds, OfCancel, CancelOver, CancelBusy}
use Rattle.task_cell.proofs.Vocabulary.{CancelIdle, GiveUpOutput, DropOutput, DetachOrphan, DetachLast, Detach, EndCall, notifies, after_cancelling, owns_awaiter, Deed, Party, Busy}
use Rattle.task_cell.proofs.Vocabulary.{Unclaimed, has_work, Carries, Makes, position, Stands, Did, deeds, row, act, rest_of, as_task, NotifyPath, none_there, taken, WakePath, nobody}
use Rattle.task_cell.proofs.Vocabulary.{woken, TakesDue, Wakes, Notice, not_due, found_none, woke, Cancels, Detaches, GivesTaskUp, both, over, busy_fits, none_left, output_left}
use Rattle.task_cell.proofs.Vocabulary.{closed_claimed, idle_cancel, finds_over, cancels, detaches, MayTry, HasChanged, HasEnded, never_ends, is_some, after_taking, TaskPlace, work_first, awaiter_first}
use Rattle.std.proofs.lemmas.Bool.Decides.{nat_tests}
use Rattle.task_steps.specs.declared.found.Cancelled.TheVariants.{Idle}
use Rattle.task_steps.specs.declared.found.Detached.TheVariants.{Shared, Last, Orphaned}
use Rattle.task_cell.specs.RunPaths.{not_due as none_due, missed as miss}
use Rattle.task_steps.specs.TaskScripts.{closing, detaching, giving_task_up, to_cancel, to_detach}
use Rattle.task_steps.specs.declared.found.Cancelled.{Cancelled}
use Rattle.task_steps.specs.declared.found.Detached.{Detached}
use Rattle.task_cell.specs.TaskPaths.{missed}
use Rattle.task_cell.proofs.Moved.{moved, did, did_then, stands, position_is}
use Rattle.task_core.specs.Rows.{found}
use Rattle.task_steps.specs.Shares.{MayBring, MayGive}
use Rattle.task_steps.proofs.Handles.{cancels_task, detaches_task}
use Rattle.task_cell.proofs.Attempts.{may_bring_at, may_give_at}
use Rattle.task_cell.proofs.RunRest.{due_path}

-- what was taken and woken, of a cancel
noticed : (Woken : Type 0) (due found : Bool) (n k : List Deed) → NotifyPath due found n → WakePath Woken found k → Notice Woken due (n ++ k)
noticed Woken due found n k none_due nobody = not_due
noticed Woken due found n k (miss w f) nobody = missed w f
noticed Woken due found n k (none_there w v f) nobody = found_none w v f
noticed Woken due found n k (taken w v f) (woken fact) = woke w v f fact

module _ {F T A : Type 0} where
  bare : (values : Values F T) (a b : Bool) (q : Position) (l : List (ℕ × TaskPlace F T A)) → a ≡ false → b ≡ false → Carries {A = A} values false a false b q [] l → l ≡ []
  bare values a b q l e f c = subst (λ (z : Bool × Bool). Carries {A = A} values false z.0 false z.1 q [] l) (λ i. (e i, f i)) c

  -- a cancel of a task that is over
  pub looks_over : {values : Values F T} (limit : ℕ) (p q : Party F T A) (n : ℕ) (w : State) → Stands (as_task n) p → q.seat.block ≡ p.seat.block → HasEnded values limit to_cancel w p.seat.me q.seat.me → Cancels n p q None
  looks_over limit p q n w s cell e = let x = moved (CancelOver ∷ EndCall ∷ []) w (At (Task n)) [] p q s e.made in
      (w, e.at_end, did p q (row CancelOver w ∷ act EndCall ∷ []) (At (Task n)) [] cell x.viewed x.carried)

  -- the row of a cancel that closes the task
  pub closes : {values : Values F T} (limit : ℕ) (p q : Party F T A) (n : ℕ) (r : Cancelled) → Stands (as_task n) p → q.seat.block ≡ p.seat.block → HasChanged values limit to_cancel r p.seat.me q.seat.me → Cancels n p q (Some r)
  closes {values = values} limit p q n r s cell c = subst (λ (x : Cancelled). Cancels n p q (Some x)) (sym c.is) (made (found 0 CancelIdle w) refl c.made)
    where
      w : State
      w = c.word

      made : (b : Bool) → found 0 CancelIdle w ≡ b → Makes values (closing (if b then Idle w.awaiter else Busy w.awaiter)) w p.seat.me q.seat.me → Cancels n p q (Some (if b then Idle w.awaiter else Busy w.awaiter))
      made true fit m = let x = moved (CancelIdle ∷ []) w (At (Task n)) [] p q s m in
          (w, refl, fit, did p q (row CancelIdle w ∷ []) (Deliverer false (after_cancelling w.awaiter n)) [] cell x.viewed x.carried)
      made false unfit m = let x = moved (CancelBusy ∷ []) w (At (Task n)) [] p q s m in let at : Position = notifies w.awaiter (OfCancel n) in let i = idle_cancel w.awaiter n in
          (w, refl, busy_fits (is_open w) w.scheduled w.running c.applied unfit, did p q (row CancelBusy w ∷ []) at [] cell x.viewed (bare values (has_work at) (owns_awaiter at) at q.seat.me.1 i.0 i.1 x.carried))

  -- the row of a detach
  pub gives_up : {values : Values F T} (limit : ℕ) (p q : Party F T A) (n : ℕ) (r : Detached) → Stands (as_task n) p → q.seat.block ≡ p.seat.block → HasChanged values limit to_detach r p.seat.me q.seat.me → Detaches values p q r
  gives_up {values = values} limit p q n r s cell c = subst (Detaches values p q) (sym c.is) (made (found 0 Detach w) (found 0 DetachLast w) (found 0 DetachOrphan w) refl refl refl c.made)
    where
      w : State
      w = c.word

      made : (a b c : Bool) → found 0 Detach w ≡ a → found 0 DetachLast w ≡ b → found 0 DetachOrphan w ≡ c
          → Makes values (detaching (if a then Shared else (if b then Last else (if c then Orphaned else Unclaimed)))) w p.seat.me q.seat.me
          → Detaches values p q (if a then Shared else (if b then Last else (if c then Orphaned else Unclaimed)))
      made true b c fit y z m = let x = moved (Detach ∷ EndCall ∷ []) w (At (Task n)) [] p q s m in
          (w, fit, did p q (row Detach w ∷ act EndCall ∷ []) (At Ended) [] cell x.viewed x.carried)
      made false true c k fit z m = let x = moved (DetachLast ∷ []) w (At (Task n)) [] p q s m in let y = x.carried in
          (w, y.0, fit, did p q (row DetachLast w ∷ []) (Emptier None Nothing) (awaiter_first y.0 []) cell x.viewed y.2)
      made false false true k l fit m = let x = moved (DetachOrphan ∷ []) w (At (Task n)) [] p q s m in
          (w, fit, did p q (row DetachOrphan w ∷ []) (Deliverer false (ThenEnds Nothing)) [] cell x.viewed x.carried)
      made false false false k l z m = let x = moved (GiveUpOutput ∷ []) w (At (Task n)) [] p q s m in let y = x.carried in
          (w, y.0, output_left w.references w.completed w.closed k l z, y.1, did p q (row GiveUpOutput w ∷ []) OutputCloser (work_first y.0 []) cell x.viewed y.2)

  -- the Task is given up whose output was dropped
  pub gives_rest : {values : Values F T} (p q r : Party F T A) (w : State) → Did (act DropOutput ∷ []) Detacher p q → r.seat.block ≡ q.seat.block → w.closed ≡ true → Makes values (giving_task_up w) w q.seat.me r.seat.me → GivesTaskUp p r (nat_eq w.references 0)
  gives_rest {values = values} p q r w g cell closed m = subst (λ b. GivesTaskUp p r b) (tests w.references) (made (nat_lt 0 w.references) refl m)
    where
      tests : (k : ℕ) → not (nat_lt 0 k) ≡ nat_eq k 0
      tests k = grind (arith, nat_tests)

      made : (b : Bool) → nat_lt 0 w.references ≡ b → Makes values (if b then Detach ∷ EndCall ∷ [] else DetachLast ∷ []) w q.seat.me r.seat.me → GivesTaskUp p r (not b)
      made true counted m = let x = moved (Detach ∷ EndCall ∷ []) w Detacher [] q r (stands p q (act DropOutput ∷ []) Detacher [] g) m in
          let path : List Deed = row Detach w ∷ act EndCall ∷ [] in (
            w,
            both (nat_lt 0 w.references) (not (w.completed && not w.closed)) counted (over (w.completed && not w.closed) (closed_claimed w.completed w.closed closed)),
            did_then p q r (act DropOutput ∷ []) path Detacher (At Ended) [] [] g (did q r path (At Ended) [] cell x.viewed x.carried),
          )
      made false counted m = let x = moved (DetachLast ∷ []) w Detacher [] q r (stands p q (act DropOutput ∷ []) Detacher [] g) m in
          let path : List Deed = row DetachLast w ∷ [] in let at : Position = Emptier None Nothing in let y = x.carried in (
            w,
            y.0,
            both (nat_eq w.references 0) w.closed (none_left w.references counted) closed,
            did_then p q r (act DropOutput ∷ []) path Detacher at [] (awaiter_first y.0 []) g (did q r path at (awaiter_first y.0 []) cell x.viewed y.2),
          )

  -- the call ends
  pub ends : (p q r : Party F T A) (path : List Deed) (answer : Answer) (x : Rest) → Did path (CallEnding answer x) p q → Did (act EndCall ∷ []) (rest_of (position q)) q r → Did (path ++ act EndCall ∷ []) (At x) p r
  ends p q r path answer x g e = did_then p q r path (act EndCall ∷ []) (CallEnding answer x) (At x) [] [] g
      (subst (λ at. Did (act EndCall ∷ []) (rest_of at) q r) (position_is q (CallEnding answer x) [] (stands p q path (CallEnding answer x) [] g)) e)

  -- how a cancel ends that has closed the task
  abbrev pub Ends : Type 0 → Bool → ℕ → Party F T A → Party F T A → Type 0
  Ends Woken due n p q = (path : List Deed) × Notice Woken due path × Did (path ++ act EndCall ∷ []) (as_task n) p q

  pub ends_noticed : (Woken : Type 0) (p q r t : Party F T A) (n : ℕ) (due : Bool) (x : Option (StoredAwaiter A)) → TakesDue (OfCancel n) due p q x → Wakes Woken (OfCancel n) x q r → Did (act EndCall ∷ []) (rest_of (position r)) r t → Ends Woken due n p t
  ends_noticed Woken p q r t n due x d k e = let m = due_path (OfCancel n) due p q x d in (
    m.1 ++ k.0,
    noticed Woken due (is_some x) m.1 k.0 m.2 k.1,
    ends p r t (m.1 ++ k.0) Nothing (Task n) (did_then p q r m.1 k.0 (after_taking m.0 (OfCancel n)) (CallEnding Nothing (Task n)) [] [] m.3 k.2) e,
  )

module _ (F T A : Type 0) (values : Values F T) (limit : ℕ) where
  -- the rule allows a Task to cancel, and to be detached
  pub may_cancel : (p : Party F T A) (n : ℕ) → Stands (as_task n) p → MayTry values limit 2 p.seat.id p.seat.me to_cancel × MayBring values limit p.seat.id p.seat.me to_cancel
  may_cancel p n s = may_bring_at limit p (At (Task n)) [] s to_cancel (λ w. refl) (cancels F T A values limit n (deeds p) [] []) (cancels_task limit n (deeds p) [] F T A values) (finds_over F T A values limit n (deeds p) [] [])

  pub may_detach : (p : Party F T A) (n : ℕ) → Stands (as_task n) p → MayTry values limit 2 p.seat.id p.seat.me to_detach × MayGive values limit p.seat.id p.seat.me to_detach
  may_detach p n s = may_give_at limit p (At (Task n)) [] s to_detach (λ w. refl) (detaches F T A values limit n (deeds p) [] []) (detaches_task limit n (deeds p) [] F T A values) (never_ends F T A values limit to_detach (At (Task n)) (deeds p) [] [] (λ w. refl))
