-- A due wake is carried, row by row.
use Rattle.std.proofs.Common.{◌≡◌, ℕ, ◌+◌, ◌≤◌, ◌*◌, ◌⊎◌, Bool, true, false, not, ◌&&◌, List, [], ◌∷◌, ◌++◌, Option, Some, None, refl, sym, ap, ◌∙◌, subst, ⊎_elim, arith}
use Rattle.std.specs.Prelude.{slice_get, slice_set}
use Rattle.task_core.specs.Word.{State, bit, is_open}
use Rattle.task_core.specs.declared.acts.Act.{Act}
use Rattle.task_laws.specs.declared.positions.Position.{Position}
use Rattle.task_laws.specs.declared.positions.Rest.TheVariants.{Runnable}
use Rattle.task_laws.specs.Event.{Event}
use Rattle.task_laws.specs.Machine.{Machine, Step, begins, after, moves, scene, step, run_from, how_many}
use Rattle.task_laws.specs.Table.{Outcome, Scene, Slots, rule}
use Rattle.task_laws.specs.Laws.{wake_is_due}
use Rattle.task_laws.proofs.Census.{Census, census, plus, weigh}
use Rattle.task_laws.proofs.Invariant.{Holds}
use Rattle.task_laws.proofs.Rows.{Row, starts_run, ends_call, Shows, by_rows}
use Rattle.task_laws.proofs.Runs.{Invariant, Stays, always, others, split, put_born}
use Rattle.task_laws.proofs.Scenes.{InEach, rules}
use Rattle.task_progress.specs.StepsLeft.{total}
use Rattle.task_progress.proofs.Sums.{total_put}
use Rattle.task_progress.specs.Carried.{distance, carries, is_aside, is_starting, is_start_poll, IsOwed, DueWakesAreCarried, starts_none, is_carried, carried, DueWakesLeadToPolls}
use Rattle.task_progress.proofs.Waits.{InOrder, StaysInOrder, step_in_order, always_in_order}
use Rattle.task_progress.proofs.ComesToRest.{Onward, onward, in_order}

-- a poll is owed, by the word, the trace and how many runs have not polled yet
abbrev Owed : State → List Event → ℕ → Type 0
Owed w t starting = (is_open w ≡ true) × ((wake_is_due t ≡ true) ⊎ (1 ≤ starting))

abbrev FallsTo : Act → Position → List Event → Census → Option Outcome → Type 0
FallsTo act p t rest None = Unit {0}
FallsTo act p t rest (Some left) = is_start_poll act ≡ false → is_open left.word ≡ true
    → Owed left.word (left.told ++ (begins p ++ t)) ((census (left.next ∷ left.born)).starting + rest.starting)
    × (total distance (left.next ∷ left.born) + bit (carries p && not (is_aside act p)) ≤ distance p)

abbrev Falls : Act → Position → Scene → Option Outcome → Type 0
Falls act p scene left = (t : List Event) (rest : Census) → Holds scene.limit scene.word scene.slots t (plus (weigh p) rest) → Owed scene.word t ((weigh p).starting + rest.starting) → FallsTo act p t rest left

falls_row : (act : Act) (p : Position) (put : Scene → Scene) → Row act p put → InEach (λ scene. Shows Falls act p (put scene))
falls_row _ _ _ starts_run = grind rules
falls_row _ _ _ (ends_call answer Runnable) = grind rules
falls_row act p put row = grind rules

falls_by_rule : (act : Act) (p : Position) (scene : Scene) → Falls act p scene (rule scene act p)
falls_by_rule = by_rows Falls (λ act p scene t rest holds owed. tt) falls_row

starting_one : (p : Position) → bit (is_starting p) ≡ (weigh p).starting
starting_one p = grind arith

starting : (ps : List Position) → how_many is_starting ps ≡ (census ps).starting
starting [] = refl
starting (p ∷ ps) = let a = starting_one p in let b = starting ps in omega arith

abbrev carrying : Census → ℕ
carrying c = c.queued + c.starting + c.polling + c.pending + c.ready + c.unstored + c.stored

carriers_one : (p : Position) → bit (carries p) ≡ carrying (weigh p)
carriers_one p = grind rules

carriers : (ps : List Position) → how_many carries ps ≡ carrying (census ps)
carriers [] = refl
carriers (p ∷ ps) = let a = carriers_one p in let b = carriers ps in omega arith

one_carries : (limit : ℕ) (w : State) (slots : Slots) (t : List Event) (c : Census) → Holds limit w slots t c → Owed w t c.starting → carrying c ≡ 1
one_carries limit w slots t c h (now, owed) = ⊎_elim
    (λ (due : wake_is_due t ≡ true). by_due limit w slots t c h now due)
    (λ (some : 1 ≤ c.starting). let one = h.one in omega arith)
    owed
  where
    by_due : (limit : ℕ) (w : State) (slots : Slots) (t : List Event) (c : Census) → Holds limit w slots t c → is_open w ≡ true → wake_is_due t ≡ true → carrying c ≡ 1
    by_due limit w slots t c h now due = grind arith

-- what is owed of a machine, by its census
owed_is : (m : Machine) → IsOwed m → Owed m.word m.trace (census m.parties).starting
owed_is m o = subst (Owed m.word m.trace) (starting m.parties) o

abbrev StepCarries : Machine → Act → Position → Option Machine → Type 0
StepCarries m act p None = Unit {0}
StepCarries m act p (Some now) = is_start_poll act ≡ false → is_open now.word ≡ true
    → IsOwed now × (total distance now.parties + bit (carries p && not (is_aside act p)) ≤ total distance m.parties)

after_carries : (m : Machine) (i : ℕ) (act : Act) (p : Position) (o : Option Outcome) → slice_get m.parties i ≡ Some p → FallsTo act p m.trace (census (others m.parties i)) o
    → StepCarries m act p (after m i p o)
after_carries m i act p None e h = tt
after_carries m i act p (Some o) e h = λ polls now. let x = h polls now in
    let born : (census (slice_set m.parties i o.next ++ o.born)).starting ≡ (census (o.next ∷ o.born)).starting + (census (others m.parties i)).starting = ap (λ (c : Census). c.starting) (put_born m.parties i p o.next o.born e) in (
      subst (Owed o.word (o.told ++ (begins p ++ m.trace))) (sym (starting (slice_set m.parties i o.next ++ o.born) ∙ born)) x.0,
      omega (arith, x.1, total_put distance m.parties i p o.next o.born e),
    )

moves_carries : (m : Machine) (i : ℕ) (act : Act) (p : Position) → slice_get m.parties i ≡ Some p → Invariant m → IsOwed m → StepCarries m act p (moves m i act (Some p))
moves_carries m i act p e h owed =
    let holds = subst (Holds m.limit m.word m.slots m.trace) (split m.parties i p e) h.holds in
    let due : Owed m.word m.trace ((weigh p).starting + (census (others m.parties i)).starting) = subst (λ (c : Census). Owed m.word m.trace c.starting) (split m.parties i p e) (owed_is m owed) in
    after_carries m i act p (rule (scene m) act p) e (falls_by_rule act p (scene m) m.trace (census (others m.parties i)) holds due)

pub due_wakes_are_carried : DueWakesAreCarried
due_wakes_are_carried limit steps m e owed = let h : Invariant m = subst Stays e (always limit steps) in (
  carriers m.parties ∙ one_carries m.limit m.word m.slots m.trace (census m.parties) h.holds (owed_is m owed),
  λ s p now at is. subst (StepCarries m s.act p) (sym (ap (moves m s.party s.act) at) ∙ is) (moves_carries m s.party s.act p at h owed),
)

-- what is owed over a list of steps
abbrev Led : Machine → List Step → Machine → Type 0
Led m later now = IsOwed now × (total distance now.parties + carried (Some m) later ≤ total distance m.parties)

parts : (a b : Bool) → (not a && b) ≡ true → (a ≡ false) × (b ≡ true)
parts true b e = absurd (cc)
parts false b e = (refl, e)

stopped : (later : List Step) (now : Machine) → run_from None later ≡ Some now → ⊥
stopped [] now e = cc
stopped (s ∷ later) now e = cc

open_before : (b : Bool) (m now : Machine) → is_open m.word ≡ b → Onward m now → is_open now.word ≡ true → is_open m.word ≡ true
open_before true m now e on opened = e
open_before false m now e on opened = let over = on.over e in absurd (cc)

adds_led : (m : Machine) (s : Step) (m1 : Machine) (later : List Step) (now : Machine) (p : Position) → slice_get m.parties s.party ≡ Some p → step m s ≡ Some m1
    → total distance m1.parties + bit (carries p && not (is_aside s.act p)) ≤ total distance m.parties → Led m1 later now → Led m (s ∷ later) now
adds_led m s m1 later now p at is one led =
    let here : is_carried (slice_get m.parties s.party) s.act ≡ bit (carries p && not (is_aside s.act p)) = ap (λ (q : Option Position). is_carried q s.act) at in
    let there : carried (step m s) later ≡ carried (Some m1) later = ap (λ (o : Option Machine). carried o later) is in
    (led.0, omega (arith, led.1, one, here, there))

step_led : (m : Machine) (s : Step) (at : Option Position) (o : Option Machine) (later : List Step) (now : Machine) → slice_get m.parties s.party ≡ at → step m s ≡ o
    → InOrder m → StaysInOrder o → IsOwed m → run_from o later ≡ Some now → is_start_poll s.act ≡ false → is_open now.word ≡ true
    → ((m1 : Machine) → InOrder m1 → IsOwed m1 → run_from (Some m1) later ≡ Some now → Led m1 later now) → Led m (s ∷ later) now
step_led m s at None later now e is h h1 owed leads polls opened rest = absurd (stopped later now leads)
step_led m s None (Some m1) later now e is h h1 owed leads polls opened rest = let none = ap (moves m s.party s.act) e in absurd (cc)
step_led m s (Some p) (Some m1) later now e is h h1 owed leads polls opened rest =
    let x = subst (StepCarries m s.act p) (sym (ap (moves m s.party s.act) e) ∙ is) (moves_carries m s.party s.act p e h.holds owed) polls
    (open_before (is_open m1.word) m1 now refl (onward m1 later now h1 leads) opened) in
    adds_led m s m1 later now p e is x.1 (rest m1 h1 x.0 leads)

led : (m : Machine) (later : List Step) (now : Machine) → InOrder m → IsOwed m → run_from (Some m) later ≡ Some now → starts_none later ≡ true → is_open now.word ≡ true
    → Led m later now
led m [] now h owed e none opened = let same : m ≡ now = cc in subst (Led m []) same (owed, omega arith)
led m (s ∷ later) now h owed e none opened =
    let both = parts (is_start_poll s.act) (starts_none later) none in
    step_led m s (slice_get m.parties s.party) (step m s) later now refl refl h (step_in_order m s h) owed e both.0 opened
    (λ m1 h1 owed1 leads. led m1 later now h1 owed1 leads both.1 opened)

-- the party that carries it is five steps away at most, and one at least
near_one : (p : Position) → (distance p ≤ 5 * bit (carries p)) × (bit (carries p) ≤ distance p)
near_one p = (grind rules, grind rules)

near_all : (ps : List Position) → (total distance ps ≤ 5 * how_many carries ps) × (how_many carries ps ≤ total distance ps)
near_all [] = (omega arith, omega arith)
near_all (p ∷ ps) = let a = near_one p in let b = near_all ps in (omega (arith, a.0, b.0), omega (arith, a.1, b.1))

pub due_wakes_lead_to_polls : DueWakesLeadToPolls
due_wakes_lead_to_polls limit steps m e owed later now f none opened =
    let h : InOrder m = subst StaysInOrder e (always_in_order limit steps) in
    let l = led m later now h owed f none opened in
    let h1 : Invariant now = (in_order m later now h f).holds in
    let first : how_many carries m.parties ≡ 1 = (due_wakes_are_carried limit steps m e owed).0 in
    let last : how_many carries now.parties ≡ 1 = carriers now.parties ∙ one_carries now.limit now.word now.slots now.trace (census now.parties) h1.holds (owed_is now l.0) in
    (l.0, omega (arith, l.1, (near_all m.parties).0, (near_all now.parties).1, first, last))
