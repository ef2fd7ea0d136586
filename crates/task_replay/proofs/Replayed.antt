-- What a replay rests on: the steps of the machine without its trace, and bounds on its word and its polls.
use Rattle.std.proofs.Common.{◌≡◌, ℕ, ◌+◌, ◌<◌, ◌≤◌, ◌∙◌, ◌⊎◌, Bool, true, false, zero, suc, List, [], ◌∷◌, ◌++◌, Option, Some, None, refl, sym, ap, subst, inl, inr, arith, length, take, add-one, slice_index_or}
use Rattle.std.proofs.lemmas.List.{set-append_left}
use Rattle.std.specs.Prelude.{if◌then◌else◌, slice_get, slice_set, IsSome}
use Rattle.task_core.specs.Word.{State}
use Rattle.task_laws.specs.declared.positions.Position.{Position}
use Rattle.task_core.specs.declared.acts.Act.{Act}
use Rattle.task_laws.specs.declared.positions.Position.TheVariants.{At}
use Rattle.task_laws.specs.declared.positions.Rest.TheVariants.{Task}
use Rattle.task_laws.specs.Table.{Scene, Outcome, rule}
use Rattle.task_laws.specs.Machine.{Machine, Step, opening, scene, begins, after, moves, step, run_from, run}
use Rattle.task_laws.specs.Laws.{count, is_task_poll}
use Rattle.std.specs.Option.{option_map}
use Rattle.task_replay.specs.Line.{listed}
use Rattle.task_replay.specs.Replay.{Standing, standing, stands, scene_at, begun, slots_of, untold, outcome_of}
use Rattle.task_replay.specs.declared.machine.Slots.{Slots as SlotsHeld}
use Rattle.task_replay.specs.declared.table.Effect.{Effect}
use Rattle.task_laws.proofs.Awaiting.{Awaiting, await, awaiting, join}
use Rattle.task_laws.proofs.Runs.{Invariant, Stays, always, others, split_awaiting}
use Rattle.task_laws.proofs.Theorem.{laws_hold}
use Rattle.task_laws.proofs.WholeRuns.{count-append}
use Rattle.task_laws.proofs.Scenes.{rules, InEach}
use Rattle.task_laws.proofs.Rows.{Row, starts_run, Shows, by_rows}

-- what is told of a step is no part of how the machine stands
abbrev pub left_at : Standing → ℕ → Option Outcome → Option Standing
left_at n i None = None
left_at n i (Some o) = Some (record { limit = n.limit; word = o.word; slots = o.slots; parties = slice_set n.parties i o.next ++ o.born })

left_untold : (n : Standing) (i : ℕ) (o : Option Outcome) → left_at n i o ≡ left_at n i (untold o)
left_untold n i None = refl
left_untold n i (Some o) = refl

after_at : (m : Machine) (i : ℕ) (p : Position) (o : Option Outcome) → stands (after m i p o) ≡ left_at (standing m) i o
after_at m i p None = refl
after_at m i p (Some o) = refl

moves_at : (m : Machine) (i : ℕ) (act : Act) (at : Option Position) (p : Position) → at ≡ Some p → stands (moves m i act at) ≡ left_at (standing m) i (rule (scene m) act p)
moves_at m i act None p e = cc
moves_at m i act (Some q) p e = let same : q ≡ p = cc in rw same (after_at m i p (rule (scene m) act p))

pub steps_at : (m : Machine) (s : Step) (now : Standing) (p : Position) → standing m ≡ now → slice_get now.parties s.party ≡ Some p → stands (step m s) ≡ left_at now s.party (rule (scene_at now) s.act p)
steps_at m s now p e at = subst (λ (n : Standing). slice_get n.parties s.party ≡ Some p → stands (step m s) ≡ left_at n s.party (rule (scene_at n) s.act p)) e (λ (h : slice_get m.parties s.party ≡ Some p). moves_at m s.party s.act (slice_get m.parties s.party) p h) at

-- the machine that stands so
pub record Shown (o : Option Machine) (now : Standing) : Type 0 where
  pub machine : Machine
  pub is : o ≡ Some machine
  pub stands_so : standing machine ≡ now

pub shown : (o : Option Machine) (now : Standing) → stands o ≡ Some now → Shown o now
shown None now e = absurd (cc)
shown (Some m) now e = record { machine = m; is = refl; stands_so = cc }

pub nothing_shown : (o : Option Machine) → stands o ≡ None → o ≡ None
nothing_shown None e = refl
nothing_shown (Some m) e = absurd (cc)

-- one step more
abbrev pub then_step : Option Machine → Step → Option Machine
then_step None s = None
then_step (Some m) s = step m s

run_none : (steps : List Step) → run_from None steps ≡ None
run_none [] = refl
run_none (s ∷ steps) = refl

pub run_one : (o : Option Machine) (s : Step) (steps : List Step) → run_from o (s ∷ steps) ≡ run_from (then_step o s) steps
run_one None s steps = sym (run_none steps)
run_one (Some m) s steps = refl

run_more : (o : Option Machine) (steps : List Step) (i : ℕ) (s : Step) → i < length steps → s ≡ slice_index_or steps i s → run_from o (take (suc i) steps) ≡ then_step (run_from o (take i steps)) s
run_more o [] i s h e = absurd (omega arith)
run_more o (x ∷ xs) zero s h e = let same : x ≡ s = cc in rw (← same) (run_one o x [])
run_more o (x ∷ xs) (suc i) s h e =
    let below : i < length xs = omega arith in
    run_one o x (take (suc i) xs) ∙ (run_more (then_step o x) xs i s below e ∙ ap (λ m. then_step m s) (sym (run_one o x (take i xs))))

pub plays : (limit i : ℕ) (steps : List Step) (s : Step) (now : Standing) (next : Option Standing) → i < length steps → s ≡ slice_index_or steps i s → stands (run limit (take i steps)) ≡ Some now
    → ((m : Machine) → standing m ≡ now → stands (step m s) ≡ next) → stands (run limit (take (i + 1) steps)) ≡ next
plays limit i steps s now next h e e' does =
    let known = shown (run limit (take i steps)) now e' in
    rw add-one (ap stands (run_more (Some (opening limit)) steps i s h e ∙ ap (λ m. then_step m s) known.is) ∙ does known.machine known.stands_so)

-- a step tells of one poll at most
abbrev polls_told : Option Outcome → ℕ
polls_told None = 0
polls_told (Some o) = count is_task_poll o.told

abbrev IsModest : Act → Position → Scene → Option Outcome → Type 0
IsModest act p s left = polls_told left ≤ 1

modest_row : (act : Act) (p : Position) (put : Scene → Scene) → Row act p put → InEach (λ scene. Shows IsModest act p (put scene))
modest_row _ _ _ starts_run = grind rules
modest_row act p put row = grind rules

modest : (act : Act) (p : Position) (s : Scene) → polls_told (rule s act p) ≤ 1
modest = by_rows IsModest (λ act p s. grind rules) modest_row

-- a replay leaves the limit
abbrev pub Bounded : ℕ → Option Machine → ℕ → Type 0
Bounded limit None n = Unit {0}
Bounded limit (Some m) n = (m.limit ≡ limit) × (count is_task_poll m.trace ≤ n)

no_poll : (p : Position) → count is_task_poll (begins p) ≡ 0
no_poll (At r) = refl
no_poll p = refl

after_bounded : (limit : ℕ) (m : Machine) (i n : ℕ) (p : Position) (o : Option Outcome) → polls_told o ≤ 1 → Bounded limit (Some m) n → Bounded limit (after m i p o) (n + 1)
after_bounded limit m i n p None modest bound = tt
after_bounded limit m i n p (Some o) modest bound = (bound.0, omega (arith, bound.1, count-append is_task_poll o.told (begins p ++ m.trace), count-append is_task_poll (begins p) m.trace, no_poll p, modest))

moves_bounded : (limit : ℕ) (m : Machine) (i n : ℕ) (act : Act) (at : Option Position) → Bounded limit (Some m) n → Bounded limit (moves m i act at) (n + 1)
moves_bounded limit m i n act None bound = tt
moves_bounded limit m i n act (Some p) bound = after_bounded limit m i n p (rule (scene m) act p) (modest act p (scene m)) bound

run_bounded : (limit : ℕ) (o : Option Machine) (n : ℕ) (steps : List Step) → Bounded limit o n → Bounded limit (run_from o steps) (n + length steps)
run_bounded limit None n [] bound = tt
run_bounded limit (Some m) n [] bound = (bound.0, omega (arith, bound.1))
run_bounded limit None n (s ∷ steps) bound = tt
run_bounded limit (Some m) n (s ∷ steps) bound =
    let sum : n + 1 + length steps ≡ n + length (s ∷ steps) = omega arith in
    subst (Bounded limit (run_from (step m s) steps)) sum (run_bounded limit (step m s) (n + 1) steps (moves_bounded limit m s.party n s.act (slice_get m.parties s.party) bound))

bounded : (limit : ℕ) (steps : List Step) → Bounded limit (run limit steps) (0 + length steps)
bounded limit steps = run_bounded limit (Some (opening limit)) 0 steps (refl, omega arith)

pub limit_stays : (limit : ℕ) (steps : List Step) (now : Standing) → stands (run limit steps) ≡ Some now → now.limit ≡ limit
limit_stays limit steps now e =
    let known = shown (run limit steps) now e in
    let bound : Bounded limit (Some known.machine) (0 + length steps) = subst (λ o. Bounded limit o (0 + length steps)) known.is (bounded limit steps) in
    sym (ap (λ (n : Standing). n.limit) known.stands_so) ∙ bound.0

-- the Task knows how many polls it has begun, and these were told
begun_await : (p : Position) → (begun p ≡ 0) ⊎ (((await 0 p).numbered ≡ 1) × ((await 0 p).number ≡ begun p))
begun_await (At (Task n)) = inr (refl, refl)
begun_await p = inl refl

begun_told : (m : Machine) (i : ℕ) (p : Position) → slice_get m.parties i ≡ Some p → Invariant m → begun p ≤ count is_task_poll m.trace
begun_told m i p e h = by_number (begun_await p) (h.shakes 0).numbers
  where
    parts : awaiting 0 m.parties ≡ join (await 0 p) (awaiting 0 (others m.parties i))
    parts = split_awaiting 0 m.parties i p e

    by_number : (begun p ≡ 0) ⊎ (((await 0 p).numbered ≡ 1) × ((await 0 p).number ≡ begun p)) → ((awaiting 0 m.parties).numbered ≡ 0) ⊎ ((awaiting 0 m.parties).number ≡ count is_task_poll m.trace) → begun p ≤ count is_task_poll m.trace
    by_number (inl none) numbers = omega arith
    by_number (inr one) (inl no_number) = omega (arith, one.0, one.1, ap (λ (a : Awaiting). a.numbered) parts)
    by_number (inr one) (inr is_number) = omega (arith, one.0, one.1, ap (λ (a : Awaiting). a.number) parts)

pub few_begun : (limit : ℕ) (steps : List Step) (now : Standing) (i : ℕ) (p : Position) → stands (run limit steps) ≡ Some now → slice_get now.parties i ≡ Some p → begun p ≤ length steps
few_begun limit steps now i p e at =
    let known = shown (run limit steps) now e in
    let bound : Bounded limit (Some known.machine) (0 + length steps) = subst (λ o. Bounded limit o (0 + length steps)) known.is (bounded limit steps) in
    let there : slice_get known.machine.parties i ≡ Some p = subst (λ (n : Standing). slice_get n.parties i ≡ Some p) (sym known.stands_so) at in
    omega (arith, bound.1, begun_told known.machine i p there (subst Stays known.is (always limit steps)))

pub few_references : (limit : ℕ) (steps : List Step) (now : Standing) → stands (run limit steps) ≡ Some now → now.word.references ≤ limit + 1
few_references limit steps now e =
    let known = shown (run limit steps) now e in
    let bound : Bounded limit (Some known.machine) (0 + length steps) = subst (λ o. Bounded limit o (0 + length steps)) known.is (bounded limit steps) in
    let within : known.machine.word.references ≤ known.machine.limit + 1 = (laws_hold limit steps known.machine known.is).within_limit in
    let same : known.machine.word.references ≡ now.word.references = ap (λ (n : Standing). n.word.references) known.stands_so in
    omega (arith, bound.0, within, same)

-- what the code leaves, where it finds such a scene
pub leaves : (m : Machine) (s : Step) (now : Standing) (seen : Scene) (p : Position) (left : Option Effect) → standing m ≡ now → seen ≡ scene_at now → slice_get now.parties s.party ≡ Some p
    → untold (rule seen s.act p) ≡ option_map outcome_of left → stands (step m s) ≡ left_at now s.party (option_map outcome_of left)
leaves m s now seen p left stands_so is_seen at is_left =
    steps_at m s now p stands_so at ∙ (ap (λ (x : Scene). left_at now s.party (rule x s.act p)) (sym is_seen)
    ∙ (left_untold now s.party (rule seen s.act p) ∙ ap (left_at now s.party) is_left))

-- what the code leaves and writes, where the party that it adds was listed first
pub left_so : (now : Standing) (limit : ℕ) (word : State) (slots : SlotsHeld) (parties : List Position) (i : ℕ) (left : Effect)
    → record { limit = limit; word = word; slots = slots_of slots; parties = parties } ≡ record now { parties = now.parties ++ listed left.added } → i < length now.parties
    → left_at now i (Some (outcome_of left)) ≡ Some (record { limit = limit; word = left.word; slots = slots_of left.slots; parties = slice_set parties i left.next })
left_so now limit word slots parties i left fields within =
    let standing_of : ℕ → List Position → Standing = λ l ps. record { limit = l; word = left.word; slots = slots_of left.slots; parties = ps } in
    ap (λ ps. Some (standing_of now.limit ps)) (sym (set-append_left now.parties (listed left.added) i left.next within))
    ∙ ap (λ (x : Standing). Some (standing_of x.limit (slice_set x.parties i left.next))) (sym fields)

pub at_view : (m : Machine) (inside s : Step) (x : Option Standing) → inside ≡ s → stands (step m inside) ≡ x → stands (step m s) ≡ x
at_view m inside s x e h = subst (λ (t : Step). stands (step m t) ≡ x) e h

-- what a step answers, yes or no
pub where_yes : (yes : Bool) (x : Standing) → yes ≡ true → (if yes then Some x else None) ≡ Some x
where_yes true x e = refl
where_yes false x e = cc

pub where_no : (yes : Bool) (x : Standing) → yes ≡ false → (if yes then Some x else None) ≡ None
where_no true x e = cc
where_no false x e = refl

pub where_counted : (yes : Bool) (n : ℕ) → yes ≡ true → (if yes then n + 1 else n) ≡ n + 1
where_counted true n e = refl
where_counted false n e = absurd (cc)

pub is_some : (o : Option Machine) (now : Standing) → stands o ≡ Some now → IsSome o
is_some None now e = absurd (cc)
is_some (Some m) now e = refl
