-- 12 of 12: each list of calls of a task of one thread is a run of the abstract task of a cell.
use Rattle.std.specs.Prelude.{◌≡◌, ℕ, false, if◌then◌else◌, List, [], ◌∷◌, ◌++◌, Option, Some, None}
use Rattle.task_core.specs.Local.{Phase, Local, Started, IsPolled, IsEnded, IsNotDue, starts, settles, discards, claims, registers, has_room, is_done, is_started}
use Rattle.task_laws.specs.Event.{Event, CallEnds}
use Rattle.task_laws.specs.declared.positions.Answer.TheVariants.{Ran, Gained}
use Rattle.task_laws.specs.Abstract.{Frame, InPoll, Move, all_moved, is_again}
use Rattle.task_laws.specs.LocalRows.{cell_of, tells, tells_of_drop, tells_poll}
use Rattle.local_task.specs.LocalCalls.{Call, Start, DiscardRunnable, AddWaker, Settle, PollTask, effect_of_call, all_called}
use Rattle.task_atomic.specs.Tokens.{number_of, plain_task, plain_effect, plain_answered}

-- what a call hands out and answers, as events: a run tells its answer when it ends
abbrev pub tells_start : {F T A : Type 0} → (A → ℕ) → Started F T A → List Event
tells_start number (IsEnded e) = CallEnds (Ran false) ∷ tells (plain_effect number e)
tells_start number (IsPolled e) = []
tells_start number (IsNotDue e) = []

-- the number of an awaiter, and 0 where there is none
abbrev pub or_none : Option ℕ → ℕ
or_none None = 0
or_none (Some i) = i

-- the events of one call of the task of one thread
abbrev pub tells_call : {F T A : Type 0} → (A → ℕ) → ℕ → Call F T A → Local F T A → List Event
tells_call number limit Start t = tells_start number (starts t)
tells_call number limit DiscardRunnable t = tells_of_drop (plain_effect number (discards t))
tells_call number limit AddWaker t = CallEnds (Gained (has_room limit t)) ∷ []
tells_call number limit (Settle f polled) t = let e = settles f polled t in CallEnds (Ran (is_again e.queue)) ∷ tells (plain_effect number e)
tells_call number limit (PollTask clone same) t =
    tells_poll (or_none (number_of number clone)) (plain_answered number (if is_done t.phase then claims same t else registers clone t))
tells_call number limit call t = tells (plain_effect number (effect_of_call limit call t))

-- the events of all calls of a list, the newest first
abbrev pub tells_at : {F T A : Type 0} → (A → ℕ) → ℕ → Call F T A → Option (Local F T A) → List Event
tells_at number limit call None = []
tells_at number limit call (Some t) = tells_call number limit call t

-- the events of a list of calls, made on a new task
abbrev pub all_told : {F T A : Type 0} → (A → ℕ) → ℕ → F → List (Call F T A) → List Event
all_told number limit f [] = []
all_told number limit f (call ∷ earlier) = tells_at number limit call (all_called limit f earlier) ++ all_told number limit f earlier

-- between `start` and `settle` a run is open, which polls the future
abbrev pub open_run : Phase → List Frame
open_run phase = if is_started phase then InPoll ∷ [] else []

-- moves of the abstract task that lead to this task, and tell what the calls told
pub record IsRun {F T A : Type 0} (number : A → ℕ) (limit : ℕ) (t : Local F T A) (told : List Event) : Type 0 where
  pub moves : List Move
  pub leads : all_moved limit moves ≡ Some (record { cell = cell_of (plain_task number t); frames = open_run t.phase; told = told })

-- for every limit, and every numbering of the awaiters
abbrev pub CallsAreRuns : (F T A : Type 0) → Type 0
CallsAreRuns F T A = (number : A → ℕ) (limit : ℕ) (f : F) (calls : List (Call F T A)) (t : Local F T A) → all_called limit f calls ≡ Some t
    → IsRun number limit t (all_told number limit f calls)
