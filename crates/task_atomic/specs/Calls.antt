-- 4 of 12: each call makes its acts, and no other: how a party comes to the end of a call.
use Rattle.std.specs.Prelude.{◌≡◌, ◌⊎◌, ℕ, Bool, true, false, nat_eq, if◌then◌else◌, List, [], ◌∷◌, Option, Some, None, option_and_then, slice_get}
use Rattle.task_core.specs.declared.acts.Act.{Act}
use Rattle.task_core.specs.declared.acts.Act.TheVariants.{EndCall}
use Rattle.task_laws.specs.declared.positions.Position.{Position}
use Rattle.task_laws.specs.declared.positions.Position.TheVariants.{At, CallEnding, Answering}
use Rattle.task_laws.specs.declared.positions.Answer.TheVariants.{Nothing, Ran, Gained, Finished}
use Rattle.task_laws.specs.declared.positions.PollAnswer.TheVariants.{IsPending, IsClosed, HasOutput, IsRefused}
use Rattle.task_laws.specs.Abstract.{Call, Run, DropRunnable, Schedule, Wake, DropWaker, Cancel, Detach, IsFinished, Gain, Poll}
use Rattle.task_laws.specs.declared.positions.Rest.TheVariants.{Lent}
use Rattle.task_laws.specs.Whole.{call_of, is_at_rest}
use Rattle.task_laws.specs.Table.{Scene, Outcome, rule}
use Rattle.task_laws.specs.Machine.{Machine, Step, opening, scene}
use Rattle.task_progress.specs.Tables.{Table, step_by, run_by}
use Rattle.task_atomic.specs.Small.{SmallAct, Gains, Drops, Orphans, Wakes, Discards, Cancels, Claims, GivesOutputUp, Detaches, Starts}
use Rattle.task_atomic.specs.Small.{EndsUnpolled, EndsReady, EndsPending, SeesFinished, SeesPending, SeesClosed, NoAct, same}
use Rattle.task_atomic.specs.Atomic.{act_of}

-- the acts of a call whose party is about to answer here, newest first; None is a deliverer, which a wake leaves to hand the Runnable over
abbrev pub are_acts_of : Option Call → Position → List SmallAct → Bool
are_acts_of None (CallEnding Nothing r) [] = true
are_acts_of (Some Wake) (CallEnding Nothing r) (Wakes ∷ []) = true
are_acts_of (Some (Gain false)) (CallEnding (Gained answer) r) (Gains gained ∷ []) = same answer gained
are_acts_of (Some (Gain true)) (CallEnding (Gained false) r) [] = true
are_acts_of (Some DropWaker) (CallEnding Nothing r) (Drops ∷ []) = true
are_acts_of (Some DropWaker) (CallEnding Nothing r) (Orphans ∷ Drops ∷ []) = true
are_acts_of (Some Schedule) (CallEnding Nothing r) [] = true
are_acts_of (Some Run) (CallEnding (Ran answer) r) (EndsPending woken ∷ Starts ∷ []) = same answer woken
are_acts_of (Some Run) (CallEnding (Ran false) r) (Drops ∷ EndsPending false ∷ Starts ∷ []) = true
are_acts_of (Some Run) (CallEnding (Ran false) r) (Drops ∷ EndsReady ∷ Starts ∷ []) = true
are_acts_of (Some Run) (CallEnding (Ran false) r) (Drops ∷ EndsUnpolled ∷ Starts ∷ []) = true
are_acts_of (Some DropRunnable) (CallEnding Nothing r) (Drops ∷ EndsUnpolled ∷ Discards ∷ []) = true
are_acts_of (Some Cancel) (CallEnding Nothing r) (Cancels ∷ []) = true
are_acts_of (Some Detach) (CallEnding Nothing r) (Detaches ∷ []) = true
are_acts_of (Some Detach) (CallEnding Nothing r) (Detaches ∷ GivesOutputUp ∷ []) = true
are_acts_of (Some IsFinished) (CallEnding (Finished answer) r) (SeesFinished finished ∷ []) = same answer finished
are_acts_of (Some (Poll j)) (Answering i IsPending) (SeesPending ∷ []) = nat_eq i j
are_acts_of (Some (Poll j)) (Answering i IsClosed) (SeesClosed ∷ []) = nat_eq i j
are_acts_of (Some (Poll j)) (Answering i HasOutput) (Claims ∷ []) = nat_eq i j
are_acts_of (Some (Poll j)) (Answering i IsRefused) [] = nat_eq i j
are_acts_of call p acts = false

-- the call that a party is in or was in last, and the acts that it made in it
pub record InCall : Type 0 where
  pub call : Option Call
  pub acts : List SmallAct

-- an act before others; a step that is no act adds none
abbrev pub and_act : SmallAct → List SmallAct → List SmallAct
and_act NoAct acts = acts
and_act act acts = act ∷ acts

-- after a step from a position to a position
abbrev pub goes_on : Act → Option Position → Option Position → InCall → InCall
goes_on act (Some (At r)) (Some next) c = record { call = Some (call_of r act); acts = and_act (act_of act next) [] }
goes_on act p (Some next) c = record c { acts = and_act (act_of act next) c.acts }
goes_on act p None c = c

-- the acts of a call after steps by a table, of all parties
abbrev pub follows : Table → ℕ → Option Machine → List Step → InCall → InCall
follows table i None steps c = c
follows table i (Some m) [] c = c
follows table i (Some m) (s ∷ steps) c =
    let now = step_by table m s in
    follows table i now steps (if nat_eq s.party i then goes_on s.act (slice_get m.parties i) (option_and_then (λ (next : Machine). slice_get next.parties i) now) c else c)

-- after every list of steps by the table, each party whose call may end by its next step has made the acts of its call
abbrev pub CallsMakeTheirActs : Table → Type 0
CallsMakeTheirActs table = (limit : ℕ) (steps : List Step) (m : Machine) → run_by table limit steps ≡ Some m → (i : ℕ) (p : Position)
    → slice_get m.parties i ≡ Some p → (left : Outcome) → table (scene m) EndCall p ≡ Some left
    → let c = follows table i (Some (opening limit)) steps (record { call = None; acts = [] }) in are_acts_of c.call p c.acts ≡ true

-- a party comes to rest by that step alone, but for the lent waker, whose look begins and ends a call
abbrev pub CallsEndByAnswers : Type 0
CallsEndByAnswers = (s : Scene) (act : Act) (p : Position) (left : Outcome) → rule s act p ≡ Some left → is_at_rest left.next ≡ true
    → (act ≡ EndCall) ⊎ (p ≡ At Lent)
