-- The paths of the calls, part by part.
use Rattle.std.proofs.Common.{◌≡◌, ◌⊎◌, ℕ, Bool, true, false, List, [], ◌∷◌, ◌++◌, Option, refl, ap, ◌∙◌, inl, inr}
use Rattle.std.specs.Prelude.{if◌then◌else◌, Result}
use Rattle.task_core.specs.Word.{State}
use Rattle.task_core.specs.declared.acts.Act.TheVariants.{EndCall, DropFuture, Unschedule, Look, HandOutOutput}
use Rattle.task_core.specs.declared.traits.Poll.{Poll}
use Rattle.task_core.specs.declared.traits.TaskPoll.{TaskPoll}
use Rattle.task_steps.specs.declared.table.Deed.{Deed}
use Rattle.task_steps.specs.Deeds.{row, act}
use Rattle.task_cell.specs.WakerPaths as waker
use Rattle.task_cell.specs.WakerPaths.{GainPath, TaskWakePath, WakeCallPath, WakerDropPath}
use Rattle.task_cell.specs.RunPaths as run
use Rattle.task_cell.specs.RunPaths.{ReleasePath, NotifyPath, WakePath, RestPath, ClosedRunPath, StorePath, ReadyPath, PendingPath, DiscardStart, DiscardPath, RunPath}
use Rattle.task_cell.specs.TaskPaths as task
use Rattle.task_cell.specs.TaskPaths.{Notice, CancelPath, DetachPath}
use Rattle.task_cell.specs.PollPaths as poll
use Rattle.task_cell.specs.PollPaths.{TakePath, TakePathIf, ClaimPath, RegisterPath, AnswerPath, PollPath, dropped_if}
use Rattle.async_task.specs.HandlePaths.{ClosesUnless}
use Rattle.task_atomic.specs.Small.{SmallAct, Gains, Drops, Orphans, Wakes, Discards, Cancels, Claims, GivesOutputUp, Detaches, Starts}
use Rattle.task_atomic.specs.Small.{EndsUnpolled, EndsReady, EndsPending, SeesClosed}
use Rattle.task_atomic.specs.Deeds.{acts_of}
use Rattle.task_atomic.specs.Paths.{polls, ends_pending, runs, PathsAreActs}

-- wakers
wakes : (handed : Bool) (path : List Deed) → TaskWakePath handed path → acts_of path ≡ Wakes ∷ []
wakes handed path (waker.is_over w fits) = refl
wakes handed path (waker.is_scheduled w fits) = refl
wakes handed path (waker.is_running w fits) = refl
wakes handed path (waker.is_idle w fits) = refl

wake_calls : {S : Type 0} (path : List Deed) → WakeCallPath S path → acts_of path ≡ Wakes ∷ []
wake_calls path (waker.hands_none same wake) = wakes false same wake
wake_calls path (waker.hands_one same wake scheduled) = wakes true same wake

gains : (limit : ℕ) (gained : Bool) (path : List Deed) → GainPath limit gained path → acts_of path ≡ Gains gained ∷ []
gains limit gained path (waker.is_gained w below) = refl
gains limit gained path (waker.finds_limit w at) = refl

waker_drops : {S : Type 0} (path : List Deed) → WakerDropPath S path → (acts_of path ≡ Drops ∷ []) ⊎ (acts_of path ≡ Drops ∷ Orphans ∷ [])
waker_drops path (waker.leaves_others w others) = inl refl
waker_drops path (waker.leaves_none w others over) = inl refl
waker_drops path (waker.leaves_orphan w v others still_open scheduled) = inr refl

-- runs: what is done to the awaiter is no act
takes_none : (due taken : Bool) (n rest : List Deed) → NotifyPath due taken n → acts_of (n ++ rest) ≡ acts_of rest
takes_none due taken n rest run.not_due = refl
takes_none due taken n rest (run.missed w fits) = refl
takes_none due taken n rest (run.none_there w v fits) = refl
takes_none due taken n rest (run.taken w v fits) = refl

wakes_awaiter : {W : Type 0} (taken : Bool) (k rest : List Deed) → WakePath W taken k → acts_of (k ++ rest) ≡ acts_of rest
wakes_awaiter taken k rest run.nobody = refl
wakes_awaiter taken k rest (run.woken fact) = refl

releases : (r rest : List Deed) → ReleasePath r → acts_of (r ++ rest) ≡ Drops ∷ acts_of rest
releases r rest (run.leaves_others w fits) = refl
releases r rest (run.leaves_none w fits) = refl

rests : {W : Type 0} (due : Bool) (path : List Deed) → RestPath W due path → acts_of path ≡ Drops ∷ []
rests _ path (run.rests due taken n r k notified released wakes_it) =
    takes_none due taken n (r ++ (k ++ act EndCall ∷ [])) notified ∙ releases r (k ++ act EndCall ∷ []) released
    ∙ ap (λ acts. Drops ∷ acts) (wakes_awaiter taken k (act EndCall ∷ []) wakes_it)

closed_runs : {W : Type 0} (path : List Deed) → ClosedRunPath W path → acts_of path ≡ EndsUnpolled ∷ Drops ∷ []
closed_runs path (run.closed_run w r rest) = ap (λ acts. EndsUnpolled ∷ acts) (rests w.awaiter r rest)

stores : (w : State) (s rest : List Deed) → StorePath w s → acts_of (s ++ rest) ≡ EndsReady ∷ acts_of rest
stores w s rest (run.kept task still_open) = refl
stores w s rest (run.not_claimed task closed) = refl
stores w s rest (run.detached task) = refl

ready_ends : {W : Type 0} (path : List Deed) → ReadyPath W path → acts_of path ≡ EndsReady ∷ Drops ∷ []
ready_ends path (run.ready w s r stored rest) = stores w s r stored ∙ ap (λ acts. EndsReady ∷ acts) (rests w.awaiter r rest)

pending_ends : {W : Type 0} {S : Bool → Type 0} (woken : Bool) (path : List Deed) (ends : PendingPath W S woken path)
    → acts_of path ≡ ends_pending woken path ends
pending_ends woken path (run.closed_meanwhile w r closed rest) = ap (λ acts. EndsPending false ∷ acts) (rests w.awaiter r rest)
pending_ends woken path (run.woken_meanwhile w still_open scheduled handed) = refl
pending_ends woken path (run.idle w still_open unscheduled left) = refl
pending_ends woken path (run.orphaned w still_open unscheduled last handed) = refl

runs_are : {T : Type 0} {P : Poll T → Type 0} {W : Type 0} {S : Bool → Type 0} (answer : Bool) (path : List Deed) (ran : RunPath P W S answer path)
    → acts_of path ≡ runs answer path ran
runs_are answer path (run.finds_closed w rest closed ends) = ap (λ acts. Starts ∷ acts) (closed_runs rest ends)
runs_are answer path (run.answers_ready w x rest still_open polled ends) = ap (λ acts. Starts ∷ acts) (ready_ends rest ends)
runs_are answer path (run.answers_pending w woken rest still_open polled ends) = ap (λ acts. Starts ∷ acts) (pending_ends woken rest ends)

discard_starts : (d : Deed) (rest : List Deed) → DiscardStart d → acts_of (d ∷ rest) ≡ Discards ∷ acts_of rest
discard_starts d rest (run.found_open w still_open) = refl
discard_starts d rest (run.found_closed w closed) = refl

discards : {W : Type 0} (path : List Deed) → DiscardPath W path → acts_of path ≡ Discards ∷ EndsUnpolled ∷ Drops ∷ []
discards path (run.discards d w taken n k r starts notified wakes_it released) =
    discard_starts d (act DropFuture ∷ row Unschedule w ∷ (n ++ (k ++ (r ++ act EndCall ∷ [])))) starts
    ∙ ap (λ acts. Discards ∷ EndsUnpolled ∷ acts)
    (takes_none w.awaiter taken n (k ++ (r ++ act EndCall ∷ [])) notified ∙ wakes_awaiter taken k (r ++ act EndCall ∷ []) wakes_it
    ∙ releases r (act EndCall ∷ []) released)

-- a cancel, and a detach after it
notices : {W : Type 0} (due : Bool) (n : List Deed) → Notice W due n → acts_of (n ++ act EndCall ∷ []) ≡ []
notices due n task.not_due = refl
notices due n (task.missed w fits) = refl
notices due n (task.found_none w v fits) = refl
notices due n (task.woke w v fits woken) = refl

notices_then : {W : Type 0} (due : Bool) (n rest : List Deed) → Notice W due n → acts_of ((n ++ act EndCall ∷ []) ++ rest) ≡ acts_of rest
notices_then due n rest task.not_due = refl
notices_then due n rest (task.missed w fits) = refl
notices_then due n rest (task.found_none w v fits) = refl
notices_then due n rest (task.woke w v fits woken) = refl

cancels : {S W : Type 0} (path : List Deed) → CancelPath S W path → acts_of path ≡ Cancels ∷ []
cancels path (task.is_over w fits) = refl
cancels path (task.is_busy w n fits notified) = ap (λ acts. Cancels ∷ acts) (notices w.awaiter n notified)
cancels path (task.is_idle w n fits scheduled notified) = ap (λ acts. Cancels ∷ acts) (notices w.awaiter n notified)

cancels_then : {S W : Type 0} (path rest : List Deed) → CancelPath S W path → acts_of (path ++ rest) ≡ Cancels ∷ acts_of rest
cancels_then path rest (task.is_over w fits) = refl
cancels_then path rest (task.is_busy w n fits notified) = ap (λ acts. Cancels ∷ acts) (notices_then w.awaiter n rest notified)
cancels_then path rest (task.is_idle w n fits scheduled notified) = ap (λ acts. Cancels ∷ acts) (notices_then w.awaiter n rest notified)

detaches : {S : Type 0} (path : List Deed) → DetachPath S path → (acts_of path ≡ Detaches ∷ []) ⊎ (acts_of path ≡ GivesOutputUp ∷ Detaches ∷ [])
detaches path (task.drops_output w v given fits) = inr refl
detaches path (task.drops_output_last w v given fits) = inr refl
detaches path (task.is_shared w fits) = inl refl
detaches path (task.is_last w fits) = inl refl
detaches path (task.is_orphaned w fits scheduled) = inl refl

drops_task : (whole rest : List SmallAct) → whole ≡ Cancels ∷ rest → (rest ≡ Detaches ∷ []) ⊎ (rest ≡ GivesOutputUp ∷ Detaches ∷ [])
    → (whole ≡ Cancels ∷ Detaches ∷ []) ⊎ (whole ≡ Cancels ∷ GivesOutputUp ∷ Detaches ∷ [])
drops_task whole rest e (inl shared) = inl (e ∙ ap (λ acts. Cancels ∷ acts) shared)
drops_task whole rest e (inr given) = inr (e ∙ ap (λ acts. Cancels ∷ acts) given)

-- polls
module _ {A K : Type 0} {woken : A → K → Type 0} {compared : A → A → Bool → Type 0} where
  takes : (awaiter : A) (taken rest : List Deed) → TakePath woken compared awaiter taken → acts_of (taken ++ rest) ≡ acts_of rest
  takes awaiter taken rest (poll.misses w fits) = refl
  takes awaiter taken rest (poll.finds_none w v fits) = refl
  takes awaiter taken rest (poll.wakes w v a told fits other fact) = refl
  takes awaiter taken rest (poll.drops w v a fits same) = refl

  sees_end : (awaiter : A) (w : State) (taken rest : List Deed) → TakePath woken compared awaiter taken
      → acts_of (row Look w ∷ taken ++ rest) ≡ SeesClosed ∷ acts_of rest
  sees_end awaiter w taken rest (poll.misses v fits) = refl
  sees_end awaiter w taken rest (poll.finds_none v u fits) = refl
  sees_end awaiter w taken rest (poll.wakes v u a told fits other fact) = refl
  sees_end awaiter w taken rest (poll.drops v u a fits same) = refl

takes_if : {A K : Type 0} (woken : A → K → Type 0) (compared : A → A → Bool → Type 0) (awaiter : A) (due : Bool) (taken rest : List Deed)
    → TakePathIf woken compared awaiter due taken → acts_of (taken ++ rest) ≡ acts_of rest
takes_if woken compared awaiter true taken rest take = takes awaiter taken rest take
takes_if woken compared awaiter false taken rest none = ap (λ l. acts_of (l ++ rest)) none

claims : {A K : Type 0} {woken : A → K → Type 0} {compared : A → A → Bool → Type 0} (awaiter : A) (w : State) (path : List Deed)
    → ClaimPath woken compared awaiter w path → acts_of path ≡ Claims ∷ []
claims {woken} {compared} awaiter w path (poll.claims taken there take) =
    ap (λ acts. Claims ∷ acts) (takes_if woken compared awaiter w.awaiter taken (act HandOutOutput ∷ act EndCall ∷ []) take)

registers : {A K : Type 0} {cloned : A → Result A K → Type 0} {woken woken_by_ref : A → K → Type 0} (awaiter : A) (w : State) (registered rest : List Deed)
    → RegisterPath cloned woken woken_by_ref awaiter registered → acts_of (row Look w ∷ registered ++ rest) ≡ acts_of rest
registers awaiter w registered rest (poll.finds_notifier v clone told there is_clone fact) = refl
registers awaiter w registered rest (poll.registers v u true clone none still is_clone) = refl
registers awaiter w registered rest (poll.registers v u false clone none still is_clone) = refl
registers awaiter w registered rest (poll.was_notified v u true clone told none now is_clone fact) = refl
registers awaiter w registered rest (poll.was_notified v u false clone told none now is_clone fact) = refl

answers : {A K T : Type 0} {woken : A → K → Type 0} {compared : A → A → Bool → Type 0} (awaiter : A) (path : List Deed) (answer : TaskPoll (Option T))
    → AnswerPath woken compared awaiter path answer → acts_of path ≡ polls answer
answers awaiter path answer (poll.waits w wait) = refl
answers awaiter path answer (poll.has_ended_since w taken ended take) = sees_end awaiter w taken (act EndCall ∷ []) take
answers awaiter path answer (poll.has_output_since w rest x (poll.claims taken there take)) = claims awaiter w rest (poll.claims taken there take)

polls_are : {A K T : Type 0} {cloned : A → Result A K → Type 0} {woken woken_by_ref : A → K → Type 0} {compared : A → A → Bool → Type 0} (awaiter : A)
    (answer : TaskPoll (Option T)) (path : List Deed) → PollPath cloned woken woken_by_ref compared awaiter path answer → acts_of path ≡ polls answer
polls_are awaiter answer path (poll.finds_output w same x claim) = claims awaiter w same claim
polls_are awaiter answer path (poll.finds_ended w taken ended take) = sees_end awaiter w taken (act EndCall ∷ []) take
polls_are awaiter answer path (poll.is_refused w told none still_open refused) = refl
polls_are awaiter answer path (poll.looks_again w registered rest same none still_open register again) =
    registers awaiter w registered rest register ∙ answers awaiter rest same again

polls_cancel : {A K T : Type 0} (S W : Type 0) {cloned : A → Result A K → Type 0} {woken woken_by_ref : A → K → Type 0} {compared : A → A → Bool → Type 0}
    (was_closed : Bool) (awaiter : A) (answer : TaskPoll (Option T)) (closing path : List Deed) → ClosesUnless was_closed (CancelPath S W) closing
    → PollPath cloned woken woken_by_ref compared awaiter path answer
    → acts_of (closing ++ path) ≡ (if was_closed then polls answer else Cancels ∷ polls answer)
polls_cancel S W true awaiter answer closing path none polled = ap (λ l. acts_of (l ++ path)) none ∙ polls_are awaiter answer path polled
polls_cancel S W false awaiter answer closing path cancel polled =
    cancels_then closing path cancel ∙ ap (λ acts. Cancels ∷ acts) (polls_are awaiter answer path polled)

pub paths_are_acts : {A K T : Type 0} {S : Bool → Type 0} {P : Poll T → Type 0} {W : Type 0} {cloned : A → Result A K → Type 0}
    {woken woken_by_ref : A → K → Type 0} {compared : A → A → Bool → Type 0} → PathsAreActs S P W cloned woken woken_by_ref compared
paths_are_acts {S} {W} = record {
  wake = wake_calls;
  gain = gains;
  drop_waker = waker_drops;
  schedule = refl;
  run = runs_are;
  drop_runnable = discards;
  is_finished = λ w. refl;
  cancel = cancels;
  detach = detaches;
  drop_task = λ closing path cancel detach. drops_task (acts_of (closing ++ path)) (acts_of path) (cancels_then closing path cancel) (detaches path detach);
  poll = polls_are;
  poll_cancel = polls_cancel (S false) W;
}
