-- The parts of a run, put together.
use Rattle.task_steps.specs.Values.{Values}
use Rattle.task_cell.proofs.Vocabulary.{◌≡◌, ℕ, Bool, true, false, List, [], ◌∷◌, subst, State, FutureGone, Polling, ClosedRun, TakeUpClosed, DropFuture, StartRun, StartPoll, Slot, Deed}
use Rattle.task_cell.proofs.Vocabulary.{Party, IsFuture, limit_of, DidWith, Did, row, act, as_ended, TakesUp, finds_closed, starts, RunPath}
use Rattle.task_cell.proofs.Vocabulary.{Closes, EndsReady, EndsUnready, AnswersPending, stays_pending, clears, AnswerReady, ReadyFutureDropped, TaskPlace, work_first}
use Rattle.task_cell.specs.RunCalls.{NotesAnswer, notes_ready, notes_pending}
use Rattle.task_core.specs.declared.traits.Poll.{Poll}
use Rattle.task_core.specs.declared.traits.Poll.TheVariants.{Pending as Unready, Ready as Answered}
use Rattle.task_cell.specs.RunPaths.{finds_closed as closed_path, answers_ready, answers_pending}
use Rattle.task_cell.proofs.Moved as moved
use Rattle.task_core.specs.Word.{HasRoom}

module _ {F T A : Type 0} where
  -- what a run has done that is not polled
  pub record Shut (p q : Party F T A) : Type 0 where
    pub word : State
    pub place : Slot F T
    pub closed : word.closed ≡ true
    pub did : DidWith (row TakeUpClosed word ∷ act DropFuture ∷ []) (FutureGone ClosedRun) (work_first place []) p q

  -- what a run has done, whether it is polled or not
  pub record Started (values : Values F T) (p q : Party F T A) : Type 0 where
    pub word : State
    pub place : Slot F T
    pub unclosed : word.closed ≡ false
    pub future : IsFuture values place
    pub did : DidWith (row StartRun word ∷ act StartPoll ∷ []) Polling (work_first place []) p q

  pub shut : {values : Values F T} (p q : Party F T A) (b : Bool) → TakesUp values p q b → b ≡ false → Shut p q
  shut p q b (finds_closed w y e f g) is = record { word = w; place = y; closed = e; did = g }
  shut p q b (starts w y e f g) is = absurd (cc)

  pub started : {values : Values F T} (p q : Party F T A) (b : Bool) → TakesUp values p q b → b ≡ true → Started values p q
  started p q b (finds_closed w y e f g) is = absurd (cc)
  started p q b (starts w y e f g) is = record { word = w; place = y; unclosed = e; future = f; did = g }

  -- what is written down of a poll, by a party that has done nothing since it began to poll
  pub notes_on : {O : Type 0} (held : List (ℕ × TaskPlace F T A)) (p q r : Party F T A) (w : State) (v : Poll O) → DidWith [] Polling held p q → NotesAnswer held q r w v → NotesAnswer held p r w v
  notes_on held p q r w v g (notes_ready x h) = notes_ready x (moved.did_then p q r _ _ _ _ _ _ g h)
  notes_on held p q r w v g (notes_pending room (stays_pending h)) = notes_pending room (stays_pending (moved.did_then p q r _ _ _ _ _ _ g h))
  notes_on held p q r w v g (notes_pending room (clears h)) = notes_pending room (clears (moved.did_then p q r _ _ _ _ _ _ g h))

  pub noted_cell : {O : Type 0} (held : List (ℕ × TaskPlace F T A)) (p q : Party F T A) (w : State) (v : Poll O) → NotesAnswer held p q w v → q.seat.block ≡ p.seat.block
  noted_cell held p q w v (notes_ready x g) = g.cell
  noted_cell held p q w v (notes_pending room (stays_pending g)) = g.cell
  noted_cell held p q w v (notes_pending room (clears g)) = g.cell

  pub noted_limit : {O : Type 0} (held : List (ℕ × TaskPlace F T A)) (p q : Party F T A) (w : State) (v : Poll O) → NotesAnswer held p q w v → limit_of q ≡ limit_of p
  noted_limit held p q w v (notes_ready x g) = moved.limit_is p q _ _ _ g
  noted_limit held p q w v (notes_pending room (stays_pending g)) = moved.limit_is p q _ _ _ g
  noted_limit held p q w v (notes_pending room (clears g)) = moved.limit_is p q _ _ _ g

  pub noted_ready : {O : Type 0} (held : List (ℕ × TaskPlace F T A)) (p q : Party F T A) (w : State) (v : Poll O) (x : O) → NotesAnswer held p q w v → v ≡ Answered x → DidWith (act AnswerReady ∷ act DropFuture ∷ []) ReadyFutureDropped held p q
  noted_ready held p q w v x (notes_ready y g) is = g
  noted_ready held p q w v x (notes_pending room a) is = absurd (cc)

  pub noted_pending : {O : Type 0} (held : List (ℕ × TaskPlace F T A)) (p q : Party F T A) (w : State) (v : Poll O) → NotesAnswer held p q w v → v ≡ Unready → HasRoom w × AnswersPending held p q w.closed
  noted_pending held p q w v (notes_ready y g) is = absurd (cc)
  noted_pending held p q w v (notes_pending room a) is = (room, a)

  module _ {O : Type 0} (Polled : Poll O → Type 0) (Woken : Type 0) (Scheduled : Bool → Type 0) where
    pub run_closed : (p q r : Party F T A) → Shut p q → Closes Woken q r → (path : List Deed) × RunPath Polled Woken Scheduled false path × Did path as_ended p r
    run_closed p q r s c = (row TakeUpClosed s.word ∷ act DropFuture ∷ c.0, closed_path s.word (act DropFuture ∷ c.0) s.closed c.1, moved.did_then p q r _ _ _ _ _ _ s.did c.2)

    pub run_ready : {values : Values F T} (p q t : Party F T A) (s : Started values p q) (v : Poll O) (x : O) → v ≡ Answered x → Polled v → EndsReady Woken q t → (path : List Deed) × RunPath Polled Woken Scheduled false path × Did path as_ended p t
    run_ready p q t s v x is fact e = (row StartRun s.word ∷ act StartPoll ∷ e.0, answers_ready s.word x e.0 s.unclosed (subst Polled is fact) e.1, moved.did_then p q t _ _ _ _ _ _ s.did e.2)

    pub run_pending : {values : Values F T} (p q t : Party F T A) (s : Started values p q) (v : Poll O) → v ≡ Unready → (b : Bool) → Polled v → EndsUnready Woken Scheduled b q t → (path : List Deed) × RunPath Polled Woken Scheduled b path × Did path as_ended p t
    run_pending p q t s v is b fact e = (row StartRun s.word ∷ act StartPoll ∷ e.0, answers_pending s.word b e.0 s.unclosed (subst Polled is fact) e.1, moved.did_then p q t _ _ _ _ _ _ s.did e.2)
