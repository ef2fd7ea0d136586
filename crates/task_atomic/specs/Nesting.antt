-- 9 of 12: calls that nest, by what the deeds of all parties show: none is made while another is open, but where that one runs foreign code.
use Rattle.std.specs.Prelude.{◌≡◌, ℕ, Bool, true, false, not, ◌&&◌, ◌||◌, nat_eq, if◌then◌else◌, List, [], ◌∷◌, Option, Some}
use Rattle.task_core.specs.Word.{State}
use Rattle.task_core.specs.declared.acts.Act.{Act}
use Rattle.task_core.specs.declared.acts.Act.TheVariants.{Look, ClaimOutput, EndNotify, EndCall, WakeIdle}
use Rattle.task_laws.specs.Abstract.{all_moved}
use Rattle.task_laws.specs.Machine.{Machine}
use Rattle.task_laws.specs.Whole.{Whole, whole, is_foreign, read}
use Rattle.task_steps.specs.declared.table.Deed.{Deed}
use Rattle.task_steps.specs.PollScripts.{has_ended}
use Rattle.task_steps.specs.Rule.{Entry, Reaches, steps_of, lender}

-- a call that is open: who makes it, its first deed, and those after it, newest first
pub record OpenCall : Type 0 where
  pub party : ℕ
  pub first : Deed
  pub later : List Deed

-- a poll of the Task begins by one of these
abbrev pub begins_poll : Act → Bool
begins_poll Look = true
begins_poll ClaimOutput = true
begins_poll act = false

-- a poll whose first look finds that the task has not ended clones its awaiter next
abbrev pub is_to_clone : Act → Option State → Bool
is_to_clone Look (Some w) = not (has_ended w)
is_to_clone act found = false

-- a poll that has taken an awaiter out asks `will_wake` of it next
abbrev pub is_to_compare : Act → Option State → Bool
is_to_compare EndNotify (Some w) = w.awaiter
is_to_compare act found = false

-- foreign code runs in a call at this point: after an act of that kind, and before a clone and a question
abbrev pub runs_after : Deed → List Deed → Bool
runs_after first [] = is_foreign first.act || is_to_clone first.act first.found
runs_after first (newest ∷ older) = is_foreign newest.act || (begins_poll first.act && is_to_compare newest.act newest.found)

-- foreign code runs in this call
abbrev pub runs_foreign : OpenCall → Bool
runs_foreign c = runs_after c.first c.later

-- a look
abbrev pub is_look : Act → Bool
is_look Look = true
is_look act = false

-- a waker that is lent by reference: the lender, and each party that a lent one has made by a look, which is a call of its own
abbrev pub is_lent : ℕ → List Entry → Bool
is_lent k [] = nat_eq k lender
is_lent k (e ∷ earlier) = (nat_eq k e.parties && (is_look e.deed.act && is_lent e.party earlier)) || is_lent k earlier

-- a call ends by its answer, or by that look
abbrev pub ends_call : Act → Bool → Bool
ends_call EndCall lent = true
ends_call Look lent = lent
ends_call act lent = false

-- without the innermost, if it is this party's
abbrev pub ended : ℕ → List OpenCall → List OpenCall
ended k [] = []
ended k (c ∷ calls) = if nat_eq k c.party then calls else c ∷ calls

-- a wake of an idle task makes a deliverer
abbrev pub makes_deliverer : Act → Bool
makes_deliverer WakeIdle = true
makes_deliverer act = false

-- a call that has begun by this deed
abbrev pub call_by : ℕ → Deed → OpenCall
call_by k d = record { party = k; first = d; later = [] }

-- Any other deed begins a call, and with a deliverer, below it, the call by which that one hands the Runnable over.
abbrev pub begun : Entry → List OpenCall → List OpenCall
begun e calls = call_by e.party e.deed ∷ (if makes_deliverer e.deed.act then call_by e.parties e.deed ∷ calls else calls)

-- a deed that begins no call is one more of the innermost
abbrev pub gone_on : Entry → List OpenCall → List OpenCall
gone_on e [] = begun e []
gone_on e (c ∷ calls) =
    if nat_eq e.party c.party then record { party = c.party; first = c.first; later = e.deed ∷ c.later } ∷ calls else begun e (c ∷ calls)

-- after a step that ends a call, or does not
abbrev pub after_entry : Entry → Bool → List OpenCall → List OpenCall
after_entry e ends calls = if ends then ended e.party calls else gone_on e calls

-- the calls that are open after an interleaving, the innermost first
abbrev pub open_calls : List Entry → List OpenCall
open_calls [] = []
open_calls (e ∷ earlier) = after_entry e (ends_call e.deed.act (is_lent e.party earlier)) (open_calls earlier)

-- this party has an open call
abbrev pub is_open : ℕ → List OpenCall → Bool
is_open k [] = false
is_open k (c ∷ calls) = nat_eq k c.party || is_open k calls

-- who makes them
abbrev pub parties_of : List OpenCall → List ℕ
parties_of [] = []
parties_of (c ∷ calls) = c.party ∷ parties_of calls

-- other code runs: the callers', or the innermost call's
abbrev pub runs_outside : List OpenCall → Bool
runs_outside [] = true
runs_outside (c ∷ calls) = runs_foreign c

-- the innermost call may go on, and while it runs foreign code, a party without an open call may begin one
abbrev pub may_follow : ℕ → List OpenCall → Bool
may_follow k [] = true
may_follow k (c ∷ calls) = nat_eq k c.party || (runs_foreign c && not (is_open k calls))

-- the calls of an interleaving nest
abbrev pub calls_nest : List Entry → Bool
calls_nest [] = true
calls_nest (e ∷ earlier) = may_follow e.party (open_calls earlier) && calls_nest earlier

-- only the innermost call may go on, if one is open
abbrev pub is_turn_of : ℕ → List OpenCall → Bool
is_turn_of k [] = true
is_turn_of k (c ∷ calls) = nat_eq k c.party

-- the calls of an interleaving are made one after another, with none inside another
abbrev pub calls_take_turns : List Entry → Bool
calls_take_turns [] = true
calls_take_turns (e ∷ earlier) = is_turn_of e.party (open_calls earlier) && calls_take_turns earlier

-- an interleaving is a whole run: it ends in this machine with the same open calls, and while other code runs, its moves are a run of the abstract task,
-- which leads to what a caller sees of the machine
pub record IsWholeRun (limit : ℕ) (log : List Entry) (m : Machine) : Type 0 where
  pub run : Whole
  pub is : whole limit (steps_of log) ≡ Some run
  pub machine : run.machine ≡ m
  pub calls : run.stack ≡ parties_of (open_calls log)
  pub cut : runs_outside (open_calls log) ≡ true → run.cut ≡ true
  pub agrees : runs_outside (open_calls log) ≡ true → all_moved limit run.moves ≡ Some (read run)

-- so it is where its calls nest
abbrev pub NestedCallsAreWhole : Type 0
NestedCallsAreWhole = (limit : ℕ) (log : List Entry) (m : Machine) → Reaches limit log m → calls_nest log ≡ true → IsWholeRun limit log m

-- a run is whole exactly where its calls nest
abbrev pub WholeRunsNest : Type 0
WholeRunsNest =
    (limit : ℕ) (log : List Entry) (m : Machine) → Reaches limit log m → (w : Whole) → whole limit (steps_of log) ≡ Some w → calls_nest log ≡ true

-- calls that take turns nest
abbrev pub CallsInTurnNest : Type 0
CallsInTurnNest = (log : List Entry) → calls_take_turns log ≡ true → calls_nest log ≡ true
