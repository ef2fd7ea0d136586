-- Each call makes its acts, and no other.
use Rattle.std.proofs.Common.{◌≡◌, ℕ, zero, suc, Bool, true, false, List, [], ◌∷◌, ◌++◌, Option, Some, None, refl, sym, ap, ◌∙◌, subst, ◌⊎◌, inl, inr}
use Rattle.std.specs.Prelude.{option_and_then, slice_get, slice_set, nat_eq, if◌then◌else◌}
use Rattle.task_core.specs.declared.acts.Act.{Act}
use Rattle.task_core.specs.declared.acts.Act.TheVariants.{EndCall}
use Rattle.task_laws.specs.declared.positions.Position.{Position}
use Rattle.task_laws.specs.declared.positions.Position.TheVariants.{At, CallEnding, Deliverer, Starting, Polling, Pending, Ready, ReadyFutureDropped}
use Rattle.task_laws.specs.declared.positions.Position.TheVariants.{OutputStored, PendingFutureDropped, FutureInHand, FutureGone, OutputInHand, GivingUp}
use Rattle.task_laws.specs.declared.positions.Position.TheVariants.{Emptier, Notifier, Taker, Releaser, AwaiterInHand, OrphanHolder, Registrar, HasClone}
use Rattle.task_laws.specs.declared.positions.Position.TheVariants.{UnusedClone, Storing, Registered, TookBack, CloneInHand, Looking, SawOutput}
use Rattle.task_laws.specs.declared.positions.Position.TheVariants.{TookOutput, OldAwaiterInHand, Answering, OutputCloser, Detacher}
use Rattle.task_laws.specs.declared.positions.NotifyingCall.TheVariants.{OfRun, OfDrop, OfCancel, OfPoll, OfClaim}
use Rattle.task_laws.specs.declared.positions.OnceDelivered.TheVariants.{ThenEnds, ThenTask, ThenNotifies}
use Rattle.task_laws.specs.declared.positions.WithoutPoll.TheVariants.{ClosedRun, DroppedRunnable}
use Rattle.task_laws.specs.declared.positions.Answer.TheVariants.{Nothing, Ran}
use Rattle.task_laws.specs.Abstract.{Run, DropRunnable, Poll}
use Rattle.task_laws.specs.Machine.{Machine, Step, opening, scene, after}
use Rattle.task_laws.specs.Table.{Outcome, Scene, rule}
use Rattle.task_laws.specs.declared.positions.Rest.TheVariants.{Ended, Lent, Task}
use Rattle.task_laws.specs.Whole.{is_at_rest}
use Rattle.task_laws.proofs.Cuts.{get_append, get_other, get_put}
use Rattle.task_laws.proofs.Rows.{Row, starts_run, Shows, by_rows}
use Rattle.task_laws.proofs.Scenes.{InEach, rules}
use Rattle.task_laws.proofs.WholeRuns.{same_number}
use Rattle.task_progress.specs.Tables.{moves_by, step_by, run_from_by}
use Rattle.task_atomic.specs.Small.{SmallAct, Drops, Orphans, Claims, Detaches, Starts, Discards, SeesClosed}
use Rattle.task_atomic.specs.Calls.{InCall, are_acts_of, goes_on, follows, CallsMakeTheirActs, CallsEndByAnswers}

-- the acts that are still to come make those of the call
abbrev polls : ℕ → List SmallAct → InCall → Type 0
polls i acts c = c ≡ record { call = Some (Poll i); acts = acts }

abbrev Does : Position → InCall → Type 0
Does (At r) c = Unit {0}
Does (CallEnding answer r) c = are_acts_of c.call (CallEnding answer r) c.acts ≡ true
Does (Deliverer woken (ThenEnds answer)) c = are_acts_of c.call (CallEnding answer Ended) c.acts ≡ true
Does (Deliverer woken (ThenTask n)) c = are_acts_of c.call (CallEnding Nothing (Task n)) c.acts ≡ true
Does (Deliverer woken (ThenNotifies n)) c = are_acts_of c.call (CallEnding Nothing (Task n)) c.acts ≡ true
Does Starting c = c ≡ record { call = Some Run; acts = Starts ∷ [] }
Does Polling c = c ≡ record { call = Some Run; acts = Starts ∷ [] }
Does Pending c = c ≡ record { call = Some Run; acts = Starts ∷ [] }
Does Ready c = c ≡ record { call = Some Run; acts = Starts ∷ [] }
Does ReadyFutureDropped c = c ≡ record { call = Some Run; acts = Starts ∷ [] }
Does OutputStored c = c ≡ record { call = Some Run; acts = Starts ∷ [] }
Does PendingFutureDropped c = c ≡ record { call = Some Run; acts = Starts ∷ [] }
Does (FutureInHand ClosedRun) c = c ≡ record { call = Some Run; acts = Starts ∷ [] }
Does (FutureInHand DroppedRunnable) c = c ≡ record { call = Some DropRunnable; acts = Discards ∷ [] }
Does (FutureGone ClosedRun) c = c ≡ record { call = Some Run; acts = Starts ∷ [] }
Does (FutureGone DroppedRunnable) c = c ≡ record { call = Some DropRunnable; acts = Discards ∷ [] }
Does (OutputInHand due) c = are_acts_of c.call (CallEnding (Ran false) Ended) (Drops ∷ c.acts) ≡ true
Does (GivingUp None answer) c = are_acts_of c.call (CallEnding answer Ended) (Drops ∷ c.acts) ≡ true
Does (GivingUp (Some i) answer) c = are_acts_of c.call (CallEnding (Ran false) Ended) (Drops ∷ c.acts) ≡ true
Does (Emptier None answer) c = are_acts_of c.call (CallEnding answer Ended) c.acts ≡ true
Does (Emptier (Some i) answer) c = are_acts_of c.call (CallEnding (Ran false) Ended) c.acts ≡ true
Does (Notifier OfRun) c = are_acts_of c.call (CallEnding (Ran false) Ended) (Drops ∷ c.acts) ≡ true
Does (Taker OfRun) c = are_acts_of c.call (CallEnding (Ran false) Ended) (Drops ∷ c.acts) ≡ true
Does (Releaser hand OfRun) c = are_acts_of c.call (CallEnding (Ran false) Ended) (Drops ∷ c.acts) ≡ true
Does (AwaiterInHand i OfRun) c = are_acts_of c.call (CallEnding (Ran false) Ended) c.acts ≡ true
Does (Notifier OfDrop) c = are_acts_of c.call (CallEnding Nothing Ended) (Drops ∷ c.acts) ≡ true
Does (Taker OfDrop) c = are_acts_of c.call (CallEnding Nothing Ended) (Drops ∷ c.acts) ≡ true
Does (Releaser hand OfDrop) c = are_acts_of c.call (CallEnding Nothing Ended) (Drops ∷ c.acts) ≡ true
Does (AwaiterInHand i OfDrop) c = are_acts_of c.call (CallEnding Nothing Ended) (Drops ∷ c.acts) ≡ true
Does (Notifier (OfCancel n)) c = are_acts_of c.call (CallEnding Nothing (Task n)) c.acts ≡ true
Does (Taker (OfCancel n)) c = are_acts_of c.call (CallEnding Nothing (Task n)) c.acts ≡ true
Does (Releaser hand (OfCancel n)) c = are_acts_of c.call (CallEnding Nothing (Task n)) c.acts ≡ true
Does (AwaiterInHand i (OfCancel n)) c = are_acts_of c.call (CallEnding Nothing (Task n)) c.acts ≡ true
Does (Notifier (OfPoll n)) c = polls n (SeesClosed ∷ []) c
Does (Taker (OfPoll n)) c = polls n (SeesClosed ∷ []) c
Does (Releaser hand (OfPoll n)) c = polls n (SeesClosed ∷ []) c
Does (AwaiterInHand i (OfPoll n)) c = polls n (SeesClosed ∷ []) c
Does (Notifier (OfClaim n)) c = polls n (Claims ∷ []) c
Does (Taker (OfClaim n)) c = polls n (Claims ∷ []) c
Does (Releaser hand (OfClaim n)) c = polls n (Claims ∷ []) c
Does (AwaiterInHand i (OfClaim n)) c = polls n (Claims ∷ []) c
Does (TookOutput n) c = polls n (Claims ∷ []) c
Does OrphanHolder c = are_acts_of c.call (CallEnding Nothing Ended) (Orphans ∷ c.acts) ≡ true
Does OutputCloser c = are_acts_of c.call (CallEnding Nothing Ended) (Detaches ∷ c.acts) ≡ true
Does Detacher c = are_acts_of c.call (CallEnding Nothing Ended) (Detaches ∷ c.acts) ≡ true
Does (Answering i answer) c = are_acts_of c.call (Answering i answer) c.acts ≡ true
Does (Registrar i) c = polls i [] c
Does (HasClone i) c = polls i [] c
Does (UnusedClone i) c = polls i [] c
Does (Storing i) c = polls i [] c
Does (OldAwaiterInHand i old) c = polls i [] c
Does (Registered i) c = polls i [] c
Does (TookBack i) c = polls i [] c
Does (CloneInHand i) c = polls i [] c
Does (Looking i) c = polls i [] c
Does (SawOutput i) c = polls i [] c

abbrev nothing : InCall
nothing = record { call = None; acts = [] }

abbrev AllDo : List Position → Type 0
AllDo [] = Unit {0}
AllDo (p ∷ ps) = Does p nothing × AllDo ps

-- the acts that the party has still to make make those of its call
abbrev DoesTo : Act → Position → InCall → Option Outcome → Type 0
DoesTo act p c None = Unit {0}
DoesTo act p c (Some left) = Does left.next (goes_on act (Some p) (Some left.next) c)

abbrev KeepsDoing : Act → Position → Scene → Option Outcome → Type 0
KeepsDoing act p scene left = (c : InCall) → Does p c → DoesTo act p c left

does_row : (act : Act) (p : Position) (put : Scene → Scene) → Row act p put → InEach (λ scene. Shows KeepsDoing act p (put scene))
does_row _ _ _ starts_run = grind rules
does_row act p put row = grind rules

does_by_rule : (act : Act) (p : Position) (scene : Scene) → KeepsDoing act p scene (rule scene act p)
does_by_rule = by_rows KeepsDoing (λ act p scene c does. tt) does_row

-- the parties that a step adds have still to make the acts of their calls
abbrev BornTo : Option Outcome → Type 0
BornTo None = Unit {0}
BornTo (Some left) = AllDo left.born

abbrev BornDo : Act → Position → Scene → Option Outcome → Type 0
BornDo act p scene left = BornTo left

born_row : (act : Act) (p : Position) (put : Scene → Scene) → Row act p put → InEach (λ scene. Shows BornDo act p (put scene))
born_row _ _ _ starts_run = grind rules
born_row act p put row = grind rules

born_by_rule : (act : Act) (p : Position) (scene : Scene) → BornTo (rule scene act p)
born_by_rule = by_rows BornDo (λ act p scene. tt) born_row

abbrev where_is : ℕ → Option Machine → Option Position
where_is i m = option_and_then (λ (now : Machine). slice_get now.parties i) m

-- a party that is not there yet has done nothing
abbrev Fits : Option Position → InCall → Type 0
Fits None c = c ≡ nothing
Fits (Some p) c = Does p c

born_fits : (born : List Position) (i : ℕ) → AllDo born → Fits (slice_get born i) nothing
born_fits [] i all = refl
born_fits (p ∷ ps) zero all = all.0
born_fits (p ∷ ps) (suc i) all = born_fits ps i all.1

later_fits : (ps born : List Position) (i : ℕ) → AllDo born → slice_get ps i ≡ None → Fits (slice_get (ps ++ born) i) nothing
later_fits [] born i all e = born_fits born i all
later_fits (p ∷ ps) born zero all e = absurd (cc)
later_fits (p ∷ ps) born (suc i) all e = later_fits ps born i all e

other_fits : (ps born : List Position) (i : ℕ) (at : Option Position) (c : InCall) → slice_get ps i ≡ at → Fits at c → AllDo born → Fits (slice_get (ps ++ born) i) c
other_fits ps born i None c e fits all = subst (Fits (slice_get (ps ++ born) i)) (sym fits) (later_fits ps born i all e)
other_fits ps born i (Some p) c e fits all = subst (λ (at : Option Position). Fits at c) (sym (get_append ps born i p e)) fits

abbrev FitsTo : ℕ → Option Machine → InCall → Type 0
FitsTo i None c = Unit {0}
FitsTo i (Some m) c = Fits (slice_get m.parties i) c

after_fits : (m : Machine) (j i : ℕ) (b : Bool) (act : Act) (p : Position) (o : Option Outcome) (c : InCall) → nat_eq j i ≡ b → slice_get m.parties j ≡ Some p
    → ((d : InCall) → Does p d → DoesTo act p d o) → BornTo o → Fits (slice_get m.parties i) c
    → FitsTo i (after m j p o) (if b then goes_on act (slice_get m.parties i) (where_is i (after m j p o)) c else c)
after_fits m j i b act p None c is at keeps born fits = tt
after_fits m j i false act p (Some o) c is at keeps born fits =
    other_fits (slice_set m.parties j o.next) o.born i (slice_get m.parties i) c (get_other m.parties j i o.next is) fits born
after_fits m j i true act p (Some o) c is at keeps born fits =
    let one : j ≡ i = same_number j i is in
    let there : slice_get m.parties i ≡ Some p = ap (slice_get m.parties) (sym one) ∙ at in
    let next : slice_get (slice_set m.parties j o.next ++ o.born) i ≡ Some o.next =
    get_append (slice_set m.parties j o.next) o.born i o.next (ap (λ k. slice_get (slice_set m.parties k o.next) i) one ∙ get_put m.parties i p o.next there) in
    subst (λ (q : Option Position). Fits q (goes_on act (slice_get m.parties i) q c)) (sym next)
    (subst (λ (q : Option Position). Does o.next (goes_on act q (Some o.next) c)) (sym there) (keeps c (subst (λ (q : Option Position). Fits q c) there fits)))

moves_fits : (m : Machine) (j i : ℕ) (act : Act) (at : Option Position) (c : InCall) → slice_get m.parties j ≡ at → Fits (slice_get m.parties i) c
    → FitsTo i (moves_by rule m j act at) (if nat_eq j i then goes_on act (slice_get m.parties i) (where_is i (moves_by rule m j act at)) c else c)
moves_fits m j i act None c e fits = tt
moves_fits m j i act (Some p) c e fits =
    after_fits m j i (nat_eq j i) act p (rule (scene m) act p) c refl e (does_by_rule act p (scene m)) (born_by_rule act p (scene m)) fits

run_fits : (i : ℕ) (o : Option Machine) (steps : List Step) (c : InCall) → FitsTo i o c → FitsTo i (run_from_by rule o steps) (follows rule i o steps c)
run_fits i None [] c fits = tt
run_fits i None (s ∷ steps) c fits = tt
run_fits i (Some m) [] c fits = fits
run_fits i (Some m) (s ∷ steps) c fits =
    run_fits i (step_by rule m s) steps (if nat_eq s.party i then goes_on s.act (slice_get m.parties i) (where_is i (step_by rule m s)) c else c)
    (moves_fits m s.party i s.act (slice_get m.parties s.party) c refl fits)

opens_fits : (limit i : ℕ) → Fits (slice_get (opening limit).parties i) nothing
opens_fits limit i = born_fits (opening limit).parties i (tt, (tt, (tt, tt)))

at_end : (p : Position) (s : Scene) (left : Outcome) (c : InCall) → rule s EndCall p ≡ Some left → Does p c → are_acts_of c.call p c.acts ≡ true
at_end (CallEnding answer r) s left c ends does = does
at_end (Answering i answer) s left c ends does = does
at_end p s left c ends does = absurd (cc)

pub calls_make_their_acts : CallsMakeTheirActs rule
calls_make_their_acts limit steps m e i p at left ends =
    let c = follows rule i (Some (opening limit)) steps nothing in
    let fits : FitsTo i (Some m) c = subst (λ (o : Option Machine). FitsTo i o c) e (run_fits i (Some (opening limit)) steps nothing (opens_fits limit i)) in
    at_end p (scene m) left c ends (subst (λ (q : Option Position). Fits q c) at fits)

-- it comes to rest by the end of a call, or is the lent waker
abbrev is_end : Act → Position → Bool
is_end EndCall p = true
is_end act (At Lent) = true
is_end act p = false

ends_so : (act : Act) (p : Position) → is_end act p ≡ true → (act ≡ EndCall) ⊎ (p ≡ At Lent)
ends_so EndCall p so = inl refl
ends_so act (At Lent) so = inr refl
ends_so act p so = absurd (cc)

abbrev EndsTo : Act → Position → Option Outcome → Type 0
EndsTo act p None = Unit {0}
EndsTo act p (Some left) = is_at_rest left.next ≡ true → is_end act p ≡ true

abbrev Ends : Act → Position → Scene → Option Outcome → Type 0
Ends act p scene left = EndsTo act p left

ends_row : (act : Act) (p : Position) (put : Scene → Scene) → Row act p put → InEach (λ scene. Shows Ends act p (put scene))
ends_row _ _ _ starts_run = grind rules
ends_row act p put row = grind rules

pub calls_end_by_answers : CallsEndByAnswers
calls_end_by_answers s act p left is rests = ends_so act p (subst (EndsTo act p) is (by_rows Ends (λ act p scene. tt) ends_row act p s) rests)
