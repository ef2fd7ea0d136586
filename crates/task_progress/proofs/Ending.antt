-- Calls end.
use Rattle.std.proofs.Common.{◌≡◌, ℕ, ◌+◌, ◌*◌, ◌≤◌, ◌⊎◌, inl, inr, zero, suc, true, refl, ap, ◌∙◌, subst, List, [], ◌∷◌, ◌++◌, Option, Some, None, arith}
use Rattle.std.specs.Prelude.{is_some, slice_get, slice_set}
use Rattle.task_progress.proofs.Vocabulary.{Rest, Position, At, Act, Outcome, rule, Machine, scene, begins, after, moves, step, run_from, Event, is_event, how_often}
use Rattle.task_laws.proofs.Cuts.{get_put as put_there, get_append}
use Rattle.task_progress.specs.StepsLeft.{total, in_call, steps_left}
use Rattle.task_progress.specs.Waiting.{next_act}
use Rattle.task_progress.specs.Ending.{alone, EndsCall, EachEndsAlone, NoCallInProgress, CallsEnd, AllCallsEnd, HasStep, NeverStuck}
use Rattle.task_progress.proofs.Rows.{NearTo, near}
use Rattle.task_progress.proofs.Sums.{total_put, told}
use Rattle.task_progress.proofs.Waits.{InOrder, StaysInOrder, step_in_order, may_step, always_in_order}

-- between two calls, or in one
pub data Place (p : Position) : Type 0 where
  Rests : (r : Rest) → p ≡ At r → Place p
  Works : in_call p ≡ 1 → Place p

pub place : (p : Position) → Place p
place (At r) = Rests r refl
place p = Works refl

one_left : (p : Position) → in_call p ≤ steps_left p
one_left p = grind arith

pub get_put : (ps : List Position) (i : ℕ) (p q : Position) (born : List Position) → slice_get ps i ≡ Some p → slice_get (slice_set ps i q ++ born) i ≡ Some q
get_put ps i p q born e = get_append (slice_set ps i q) born i q (put_there ps i p q e)

-- what the step of a party in a call leaves
pub record Moved (m : Machine) (i : ℕ) (p : Position) (now : Machine) : Type 0 where
  pub next : Position
  pub at : slice_get now.parties i ≡ Some next
  pub nearer : steps_left next + 1 ≤ steps_left p
  pub all_nearer : total steps_left now.parties + 1 ≤ total steps_left m.parties
  pub begun : how_often Event.CallBegins now.trace ≡ how_often Event.CallBegins m.trace

abbrev MovedTo : Machine → ℕ → Position → Option Machine → Type 0
MovedTo m i p None = Unit {0}
MovedTo m i p (Some now) = Moved m i p now

none_begun : (c b : ℕ) → c ≡ 1 → c * b ≡ 0 → b ≡ 0
none_begun c b e h = let h1 : 1 * b ≡ 0 = subst (λ (n : ℕ). n * b ≡ 0) e h in omega (arith, h1)

after_moved : (m : Machine) (i : ℕ) (act : Act) (p : Position) (o : Option Outcome) → slice_get m.parties i ≡ Some p → in_call p ≡ 1 → NearTo act p o
    → MovedTo m i p (after m i p o)
after_moved m i act p None e busy near = tt
after_moved m i act p (Some o) e busy near =
    let none = none_begun (in_call p) _ busy near.inner in
    record {
      next = o.next;
      at = get_put m.parties i p o.next o.born e;
      nearer = omega (arith, near.steps, none);
      all_nearer = omega (arith, near.steps, none, total_put steps_left m.parties i p o.next o.born e);
      begun = omega (arith, none, told (is_event Event.CallBegins) o.told (begins p) m.trace);
    }

moves_moved : (m : Machine) (i : ℕ) (act : Act) (at : Option Position) (p : Position) → slice_get m.parties i ≡ at → at ≡ Some p → in_call p ≡ 1
    → MovedTo m i p (moves m i act at)
moves_moved m i act None p e is busy = tt
moves_moved m i act (Some q) p e is busy =
    let same : q ≡ p = cc in rw same (after_moved m i act p (rule (scene m) act p) (e ∙ is) busy (near act p (scene m)))

-- a party in a call makes its next act
pub record Steps (m : Machine) (i : ℕ) (p : Position) : Type 0 where
  pub now : Machine
  pub is : step m (record { party = i; act = next_act m.word p }) ≡ Some now
  pub order : InOrder now
  pub moved : Moved m i p now

made_some : (m : Machine) (i : ℕ) (p : Position) (o : Option Machine) → step m (record { party = i; act = next_act m.word p }) ≡ o → is_some o ≡ true
    → StaysInOrder o → MovedTo m i p o → Steps m i p
made_some m i p None e some order moved = absurd (cc)
made_some m i p (Some now) e some order moved = record { now = now; is = e; order = order; moved = moved }

pub makes_step : (m : Machine) → InOrder m → (i : ℕ) (p : Position) → slice_get m.parties i ≡ Some p → in_call p ≡ 1 → Steps m i p
makes_step m h i p e busy =
    made_some m i p (step m (record { party = i; act = next_act m.word p })) refl (may_step m h i p e busy) (step_in_order m (record { party = i; act = next_act m.word p }) h)
    (moves_moved m i (next_act m.word p) (slice_get m.parties i) p refl e busy)

adds_act : (m : Machine) (i : ℕ) (p : Position) → (s : Steps m i p) → EndsCall s.now i s.moved.next → EndsCall m i p
adds_act m i p s later = record {
  acts = next_act m.word p ∷ later.acts;
  now = later.now;
  rest = later.rest;
  short = omega (arith, later.short, s.moved.nearer);
  leads = ap (λ o. run_from o (alone i later.acts)) s.is ∙ later.leads;
  ends = later.ends;
  begun = later.begun ∙ s.moved.begun;
}

stands : (m : Machine) (i : ℕ) (p : Position) (r : Rest) → slice_get m.parties i ≡ Some p → p ≡ At r → EndsCall m i p
stands m i p r e is = record { acts = []; now = m; rest = r; short = omega arith; leads = refl; ends = e ∙ ap (λ x. Some x) is; begun = refl }

ends_none : (m : Machine) (i : ℕ) (p : Position) → slice_get m.parties i ≡ Some p → steps_left p ≤ 0 → Place p → EndsCall m i p
ends_none m i p e enough (Rests r is) = stands m i p r e is
ends_none m i p e enough (Works works) = absurd (omega (arith, one_left p, works, enough))

ends_more : (fuel : ℕ) (m : Machine) → InOrder m → (i : ℕ) (p : Position) → slice_get m.parties i ≡ Some p → steps_left p ≤ suc fuel → Place p
    → ((next : Machine) → InOrder next → (q : Position) → slice_get next.parties i ≡ Some q → steps_left q ≤ fuel → EndsCall next i q) → EndsCall m i p
ends_more fuel m h i p e enough (Rests r is) later = stands m i p r e is
ends_more fuel m h i p e enough (Works works) later =
    let s = makes_step m h i p e works in adds_act m i p s (later s.now s.order s.moved.next s.moved.at (omega (arith, s.moved.nearer, enough)))

ends_alone : (fuel : ℕ) (m : Machine) → InOrder m → (i : ℕ) (p : Position) → slice_get m.parties i ≡ Some p → steps_left p ≤ fuel → EndsCall m i p
ends_alone zero m h i p e enough = ends_none m i p e enough (place p)
ends_alone (suc fuel) m h i p e enough = ends_more fuel m h i p e enough (place p) (λ next order q at less. ends_alone fuel next order i q at less)

pub each_ends_alone : EachEndsAlone
each_ends_alone limit steps m e i p at = ends_alone (steps_left p) m (subst StaysInOrder e (always_in_order limit steps)) i p at (omega arith)

-- a party in a call, if there is one
pub data Busy (ps : List Position) : Type 0 where
  Nobody : total in_call ps ≡ 0 → Busy ps
  Somebody : (i : ℕ) (p : Position) → slice_get ps i ≡ Some p → in_call p ≡ 1 → Busy ps

pub busy : (ps : List Position) → Busy ps
busy [] = Nobody refl
busy (p ∷ ps) = by_place (place p) (busy ps)
  where
    by_place : Place p → Busy ps → Busy (p ∷ ps)
    by_place (Works works) later = Somebody zero p refl works
    by_place (Rests r is) (Somebody i q e works) = Somebody (suc i) q e works
    by_place (Rests r is) (Nobody none) = Nobody (let rests : in_call p ≡ 0 = ap in_call is in omega (arith, rests, none))

adds_step : (m : Machine) (i : ℕ) (p : Position) → (s : Steps m i p) → CallsEnd s.now → CallsEnd m
adds_step m i p s later = record {
  steps = record { party = i; act = next_act m.word p } ∷ later.steps;
  now = later.now;
  short = omega (arith, later.short, s.moved.all_nearer);
  leads = ap (λ o. run_from o later.steps) s.is ∙ later.leads;
  none_in_progress = later.none_in_progress;
  begun = later.begun ∙ s.moved.begun;
}

settled : (m : Machine) → total in_call m.parties ≡ 0 → CallsEnd m
settled m none = record { steps = []; now = m; short = omega arith; leads = refl; none_in_progress = none; begun = refl }

settles_none : (m : Machine) → InOrder m → total steps_left m.parties ≤ 0 → Busy m.parties → CallsEnd m
settles_none m h enough (Nobody none) = settled m none
settles_none m h enough (Somebody i p e works) = let s = makes_step m h i p e works in absurd (omega (arith, s.moved.all_nearer, enough))

settles_more : (fuel : ℕ) (m : Machine) → InOrder m → total steps_left m.parties ≤ suc fuel → Busy m.parties
    → ((next : Machine) → InOrder next → total steps_left next.parties ≤ fuel → CallsEnd next) → CallsEnd m
settles_more fuel m h enough (Nobody none) later = settled m none
settles_more fuel m h enough (Somebody i p e works) later =
    let s = makes_step m h i p e works in adds_step m i p s (later s.now s.order (omega (arith, s.moved.all_nearer, enough)))

settles : (fuel : ℕ) (m : Machine) → InOrder m → total steps_left m.parties ≤ fuel → CallsEnd m
settles zero m h enough = settles_none m h enough (busy m.parties)
settles (suc fuel) m h enough = settles_more fuel m h enough (busy m.parties) (λ next order less. settles fuel next order less)

pub end_calls : (m : Machine) → InOrder m → CallsEnd m
end_calls m h = settles (total steps_left m.parties) m h (omega arith)

pub all_calls_end : AllCallsEnd
all_calls_end limit steps m e = end_calls m (subst StaysInOrder e (always_in_order limit steps))

goes_on : (m : Machine) → InOrder m → Busy m.parties → NoCallInProgress m ⊎ HasStep m
goes_on m h (Nobody none) = inl none
goes_on m h (Somebody i p e works) =
    let s = makes_step m h i p e works in inr (record { by = record { party = i; act = next_act m.word p }; now = s.now; leads = s.is; begun = s.moved.begun })

pub never_stuck : NeverStuck
never_stuck limit steps m e = goes_on m (subst StaysInOrder e (always_in_order limit steps)) (busy m.parties)
