-- The table by which a cancel acts again.
use Rattle.std.proofs.Common.{◌≡◌, ℕ, zero, suc, Bool, true, false, List, [], ◌∷◌, ◌++◌, Option, Some, None, refl, sym, ap, ◌∙◌, subst, append-nil}
use Rattle.std.specs.Prelude.{slice_get, slice_set}
use Rattle.task_core.specs.Rows.{found}
use Rattle.task_core.specs.declared.acts.Act.{Act}
use Rattle.task_core.specs.declared.acts.Act.TheVariants.{CancelOver, CancelBusy, EndCall}
use Rattle.task_laws.specs.declared.positions.Position.{Position}
use Rattle.task_laws.specs.declared.positions.Position.TheVariants.{At, CallEnding}
use Rattle.task_laws.specs.declared.positions.Answer.TheVariants.{Nothing}
use Rattle.task_laws.specs.declared.positions.Rest.TheVariants.{Ended, Task}
use Rattle.task_laws.specs.Machine.{Machine, Step, opening, scene, after}
use Rattle.task_laws.specs.Table.{Outcome, when, rule}
use Rattle.task_laws.proofs.Runs.{Invariant, Stays, moves_stays, opens}
use Rattle.task_laws.proofs.Theorem.{laws_of}
use Rattle.task_progress.specs.Tables.{DiffersIn, moves_by, step_by, run_from_by, run_by}
use Rattle.task_atomic.specs.Calls.{CallsMakeTheirActs}
use Rattle.task_atomic.specs.Tables.{cancels_again, CancelsAgain}

in_one_row : DiffersIn CancelOver cancels_again
in_one_row s CancelOver p differs = absurd (differs refl)
in_one_row s other p differs = refl

-- the row that it adds leaves the machine as it is
same_put : (ps : List Position) (i : ℕ) (p : Position) → slice_get ps i ≡ Some p → slice_set ps i p ++ [] ≡ ps
same_put [] i p e = absurd (cc)
same_put (x ∷ ps) zero p e = let same : p ≡ x = cc in ap (λ q. q ∷ (ps ++ [])) same ∙ ap (λ qs. x ∷ qs) (append-nil ps)
same_put (x ∷ ps) (suc i) p e = ap (λ qs. x ∷ qs) (same_put ps i p e)

again_stays : (m : Machine) (i n : ℕ) (b : Bool) → slice_get m.parties i ≡ Some (CallEnding Nothing (Task n)) → Invariant m
    → Stays (after m i (CallEnding Nothing (Task n)) (when b (record { word = m.word; slots = m.slots; next = CallEnding Nothing (Task n); born = []; told = [] })))
again_stays m i n false e h = tt
again_stays m i n true e h =
    subst (λ (ps : List Position). Invariant (record { limit = m.limit; word = m.word; slots = m.slots; parties = ps; trace = m.trace }))
    (sym (same_put m.parties i (CallEnding Nothing (Task n)) e)) (record { holds = h.holds; shakes = h.shakes })

row_stays : (m : Machine) (i : ℕ) (act : Act) (p : Position) → slice_get m.parties i ≡ Some p → Invariant m → Stays (after m i p (rule (scene m) act p))
    → Stays (after m i p (cancels_again (scene m) act p))
row_stays m i CancelOver (CallEnding Nothing (Task n)) e h own = again_stays m i n (found m.limit CancelOver m.word) e h
row_stays m i act p e h own = own

step_stays : (m : Machine) (i : ℕ) (act : Act) (at : Option Position) → slice_get m.parties i ≡ at → Invariant m → Stays (moves_by cancels_again m i act at)
step_stays m i act None e h = tt
step_stays m i act (Some p) e h = row_stays m i act p e h (moves_stays m i act (Some p) e h)

run_stays : (o : Option Machine) (steps : List Step) → Stays o → Stays (run_from_by cancels_again o steps)
run_stays o [] h = h
run_stays None (s ∷ steps) h = tt
run_stays (Some m) (s ∷ steps) h = run_stays (step_by cancels_again m s) steps (step_stays m s.party s.act (slice_get m.parties s.party) refl h)

-- a cancel of the opening state acts twice
abbrev twice : List Step
twice = record { party = 1; act = CancelBusy } ∷ record { party = 1; act = CancelOver } ∷ []

abbrev known : Option Machine → Machine
known None = opening 0
known (Some m) = m

abbrev left_of : Option Outcome → Outcome
left_of None = record { word = (opening 0).word; slots = (opening 0).slots; next = At Ended; born = []; told = [] }
left_of (Some left) = left

is_refused : ¬ (CallsMakeTheirActs cancels_again)
is_refused claim =
    let m : Machine = known (run_by cancels_again 0 twice) in
    let once = claim 0 twice m refl 1 (CallEnding Nothing (Task 0)) refl (left_of (cancels_again (scene m) EndCall (CallEnding Nothing (Task 0)))) refl in
    absurd (cc)

pub cancels_again_refused : CancelsAgain
cancels_again_refused = record {
  one_row = in_one_row;
  laws_hold = λ limit steps m e. laws_of m (subst Stays e (run_stays (Some (opening limit)) steps (opens limit)));
  refused = is_refused;
}
