-- What the Task has seen is kept by the rows of all other parties.
use Rattle.std.proofs.Common.{◌≡◌, ℕ, Option, Some, None, arith, ◌∙◌, false, sym, ap, subst}
use Rattle.std.specs.Prelude.{slice_get}
use Rattle.task_progress.proofs.Vocabulary.{State, bit, Act, Position, Scene, Outcome, rule, Census, plus, weigh, census, Awaiting, join, await, awaiting, rules, InEach}
use Rattle.task_progress.proofs.Vocabulary.{completed, closed, by_flag, Row, wakes_running_waker, wakes_running_lent, wakes_idle_waker}
use Rattle.task_progress.proofs.Vocabulary.{cancels_idle_awaited, cancels_idle, Shows, by_rows, Machine, scene, after, moves, Holds, HandshakeHolds, others, split}
use Rattle.task_progress.proofs.Vocabulary.{split_awaiting}
use Rattle.task_progress.specs.Waiting.{is_task, StaysAsSeen, WhatTaskSawStays}
use Rattle.task_progress.proofs.Relied.{Around, CountedAsTask, counted_as_task}
use Rattle.task_progress.proofs.Waits.{InOrder, StaysInOrder, around, always_in_order}

pub task_one : (p : Position) → bit (is_task p) ≡ (weigh p).tasks
task_one p = grind arith

abbrev pub KeptIn : State → Option Outcome → Type 0
KeptIn w None = Unit {0}
KeptIn w (Some left) = StaysAsSeen w left.word

abbrev KeepsSeen : Act → Position → Scene → Option Outcome → Type 0
KeepsSeen act p scene left = (rest : Census) (others : Awaiting) (claimed detached : ℕ) → CountedAsTask rest others claimed detached → (weigh p).tasks ≡ 0
    → Around scene.word (plus (weigh p) rest) (join (await 0 p) others) → KeptIn scene.word left

seen_row : (act : Act) (p : Position) (put : Scene → Scene) → Row act p put → InEach (λ scene. Shows KeepsSeen act p (put scene))
seen_row _ _ _ wakes_running_waker = by_flag closed (grind rules) (by_flag completed (grind rules) (grind rules))
seen_row _ _ _ wakes_running_lent = by_flag closed (grind rules) (by_flag completed (grind rules) (grind rules))
seen_row _ _ _ wakes_idle_waker = by_flag closed (grind rules) (grind rules)
seen_row _ _ _ (cancels_idle_awaited n) = by_flag closed (grind rules) (grind rules)
seen_row _ _ _ (cancels_idle n) = by_flag closed (grind rules) (grind rules)
seen_row act p put row = grind rules

pub seen_by_rule : (act : Act) (p : Position) (scene : Scene) → KeepsSeen act p scene (rule scene act p)
seen_by_rule = by_rows KeepsSeen (λ act p scene rest others claimed detached counted_as_task not_task around. tt) seen_row

abbrev KeptTo : State → Option Machine → Type 0
KeptTo w None = Unit {0}
KeptTo w (Some now) = StaysAsSeen w now.word

after_seen : (m : Machine) (i : ℕ) (p : Position) (o : Option Outcome) → KeptIn m.word o → KeptTo m.word (after m i p o)
after_seen m i p None h = tt
after_seen m i p (Some o) h = h

moves_seen : (m : Machine) (i : ℕ) (act : Act) (at : Option Position) (p : Position) → InOrder m → slice_get m.parties i ≡ Some p → at ≡ Some p
    → is_task p ≡ false → KeptTo m.word (moves m i act at)
moves_seen m i act None p h e is other = tt
moves_seen m i act (Some q) p h e is other =
    let same : q ≡ p = cc in
    let h1 = subst (Holds m.limit m.word m.slots m.trace) (split m.parties i p e) h.holds.holds in
    let k1 = subst (HandshakeHolds 0 m.word m.slots m.trace) (split_awaiting 0 m.parties i p e) (h.holds.shakes 0) in
    rw same (after_seen m i p (rule (scene m) act p)
    (seen_by_rule act p (scene m) (census (others m.parties i)) (awaiting 0 (others m.parties i)) _ _ (counted_as_task (others m.parties i))
    (sym (task_one p) ∙ ap bit other) (around m.limit m.word m.slots m.trace _ _ h1 k1)))

pub what_task_saw_stays : WhatTaskSawStays
what_task_saw_stays limit steps m e s p at other now f =
    subst (KeptTo m.word) f (moves_seen m s.party s.act (slice_get m.parties s.party) p (subst StaysInOrder e (always_in_order limit steps)) at at other)
