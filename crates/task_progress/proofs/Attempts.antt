-- The misses of a list of attempts.
use Rattle.std.proofs.Common.{◌≡◌, ℕ, ◌+◌, ◌*◌, ◌≤◌, zero, suc, Bool, true, false, not, List, [], ◌∷◌, Option, Some, None, refl, subst, sym, ap, ◌∙◌, arith}
use Rattle.std.specs.Prelude.{slice_get, nat_eq, if◌then◌else◌}
use Rattle.std.proofs.lemmas.Bool.Decides.{nat_tests}
use Rattle.task_progress.proofs.Vocabulary.{State, bit, number_of, written, Position, Act, GainReference, Outcome, rule, Machine, Step, scene, after, moves, step, run_from, rule_word}
use Rattle.task_core.specs.Rows.{writes_word}
use Rattle.task_progress.specs.StepsLeft.{writes_in}
use Rattle.task_progress.specs.Attempts.{Attempt, Looks, Makes, Misses, WithSeen, is_same_word, sees, makes, unless_seen, misses, attempts_from, made, misses_of, writes_by_others, is_stale, misses_below, LockFree, MissesAfterLook}
use Rattle.task_progress.proofs.Sums.{open_calls_bound_steps}

-- a word just seen is not stale
fresh : (w : State) → is_stale (Some w) w ≡ 0
fresh w = at (number_of w)
  where
    at : (n : ℕ) → bit (not (nat_eq n n)) ≡ 0
    at n = grind (arith, nat_tests)

stale_bit : (o : Option State) (w : State) → is_stale o w ≤ 1
stale_bit None w = omega arith
stale_bit (Some v) w = at (is_same_word v w)
  where
    at : (b : Bool) → bit (not b) ≤ 1
    at true = omega arith
    at false = omega arith

-- a step that writes nothing leaves the word
same_word : (act : Act) (w : State) → writes_word act ≡ false → written act w ≡ w
same_word GainReference w e = cc
same_word act w e = cc

abbrev LeavesWord : State → Act → Option Machine → Type 0
LeavesWord w act None = Unit {0}
LeavesWord w act (Some m) = writes_word act ≡ false → m.word ≡ w

after_word : (m : Machine) (i : ℕ) (act : Act) (p : Position) (o : Option Outcome) → ((left : Outcome) → o ≡ Some left → left.word ≡ written act m.word) → LeavesWord m.word act (after m i p o)
after_word m i act p None h = tt
after_word m i act p (Some o) h = λ e. h o refl ∙ same_word act m.word e

moves_word : (m : Machine) (i : ℕ) (act : Act) (at : Option Position) → LeavesWord m.word act (moves m i act at)
moves_word m i act None = tt
moves_word m i act (Some p) = after_word m i act p (rule (scene m) act p) (rule_word (scene m) act p)

-- so what was seen becomes stale only by a write
stales : (o : Option State) (w v : State) (writes : Bool) → (writes ≡ false → v ≡ w) → is_stale o v ≤ is_stale o w + bit writes
stales o w v true same = omega (arith, stale_bit o v)
stales o w v false same = let e : v ≡ w = same refl in rw e (omega arith)

-- the party that has just seen the word, and each other
looked : (b : Bool) (o : Option State) (w : State) → is_stale (if b then Some w else o) w ≤ is_stale o w
looked true o w = omega (arith, fresh w)
looked false o w = omega arith

stepped : (b : Bool) (o : Option State) (w v : State) (writes : Bool) → (writes ≡ false → v ≡ w)
    → is_stale (if b then Some v else o) v ≤ is_stale o w + (if b then 0 else bit writes)
stepped true o w v writes same = omega (arith, fresh v)
stepped false o w v writes same = stales o w v writes same

same_number : (j i : ℕ) → nat_eq j i ≡ true → j ≡ i
same_number j i e = grind (arith, nat_tests)

missed_one : (b : Bool) (o : Option State) (v w : State) → (b ≡ true → o ≡ Some v) → is_same_word v w ≡ false
    → bit b + is_stale (if b then Some w else o) w ≤ is_stale o w
missed_one true o v w is e = let f : o ≡ Some v = is refl in rw f (rw e (omega (arith, fresh w)))
missed_one false o v w is e = omega arith

pub record Counted (i : ℕ) (c : WithSeen) (attempts : List Attempt) (now : WithSeen) : Type 0 where
  pub machine : run_from (Some c.machine) (made attempts) ≡ Some now.machine
  pub each : misses_of i attempts + is_stale (now.seen i) now.machine.word ≤ is_stale (c.seen i) c.machine.word + writes_by_others i attempts

abbrev CountedTo : ℕ → WithSeen → List Attempt → Option WithSeen → Type 0
CountedTo i c attempts None = Unit {0}
CountedTo i c attempts (Some now) = Counted i c attempts now

nothing_attempted : (i : ℕ) (c : WithSeen) (attempts later : List Attempt) → CountedTo i c attempts (attempts_from None later)
nothing_attempted i c attempts [] = tt
nothing_attempted i c attempts (a ∷ later) = tt

looks_adds : (i : ℕ) (c : WithSeen) (j : ℕ) (attempts : List Attempt) (last : Option WithSeen)
    → CountedTo i (record { machine = c.machine; seen = sees c.seen j c.machine.word }) attempts last → CountedTo i c (Looks j ∷ attempts) last
looks_adds i c j attempts None h = tt
looks_adds i c j attempts (Some now) h = record { machine = h.machine; each = omega (arith, h.each, looked (nat_eq j i) (c.seen i) c.machine.word) }

makes_adds_to : (i : ℕ) (c : WithSeen) (s : Step) (m : Machine) (attempts : List Attempt) (last : Option WithSeen) → step c.machine s ≡ Some m
    → (writes_word s.act ≡ false → m.word ≡ c.machine.word)
    → CountedTo i (record { machine = m; seen = sees c.seen s.party m.word }) attempts last → CountedTo i c (Makes s ∷ attempts) last
makes_adds_to i c s m attempts None e same h = tt
makes_adds_to i c s m attempts (Some now) e same h = record {
  machine = ap (λ o. run_from o (made attempts)) e ∙ h.machine;
  each = omega (arith, h.each, stepped (nat_eq s.party i) (c.seen i) c.machine.word m.word (writes_word s.act) same);
}

makes_adds : (i : ℕ) (c : WithSeen) (s : Step) (o : Option Machine) (attempts : List Attempt) → step c.machine s ≡ o → LeavesWord c.machine.word s.act o
    → ((next : WithSeen) → CountedTo i next attempts (attempts_from (Some next) attempts))
    → CountedTo i c (Makes s ∷ attempts) (attempts_from (makes c s.party o) attempts)
makes_adds i c s None attempts e same rest = nothing_attempted i c (Makes s ∷ attempts) attempts
makes_adds i c s (Some m) attempts e same rest =
    makes_adds_to i c s m attempts (attempts_from (makes c s.party (Some m)) attempts) e same (rest (record { machine = m; seen = sees c.seen s.party m.word }))

misses_adds_to : (i : ℕ) (c : WithSeen) (j : ℕ) (v : State) (attempts : List Attempt) (last : Option WithSeen) → c.seen j ≡ Some v
    → is_same_word v c.machine.word ≡ false
    → CountedTo i (record { machine = c.machine; seen = sees c.seen j c.machine.word }) attempts last → CountedTo i c (Misses j ∷ attempts) last
misses_adds_to i c j v attempts None e other h = tt
misses_adds_to i c j v attempts (Some now) e other h =
    let there : nat_eq j i ≡ true → c.seen i ≡ Some v = λ same. ap c.seen (sym (same_number j i same)) ∙ e in
    record { machine = h.machine; each = omega (arith, h.each, missed_one (nat_eq j i) (c.seen i) v c.machine.word there other) }

misses_adds_by : (i : ℕ) (c : WithSeen) (j : ℕ) (v : State) (b : Bool) (attempts : List Attempt) → c.seen j ≡ Some v → is_same_word v c.machine.word ≡ b
    → ((next : WithSeen) → CountedTo i next attempts (attempts_from (Some next) attempts))
    → CountedTo i c (Misses j ∷ attempts) (attempts_from (unless_seen c j b) attempts)
misses_adds_by i c j v true attempts e other rest = nothing_attempted i c (Misses j ∷ attempts) attempts
misses_adds_by i c j v false attempts e other rest =
    misses_adds_to i c j v attempts (attempts_from (unless_seen c j false) attempts) e other (rest (record { machine = c.machine; seen = sees c.seen j c.machine.word }))

misses_adds : (i : ℕ) (c : WithSeen) (j : ℕ) (o : Option State) (attempts : List Attempt) → c.seen j ≡ o
    → ((next : WithSeen) → CountedTo i next attempts (attempts_from (Some next) attempts))
    → CountedTo i c (Misses j ∷ attempts) (attempts_from (misses c j o) attempts)
misses_adds i c j None attempts e rest = nothing_attempted i c (Misses j ∷ attempts) attempts
misses_adds i c j (Some v) attempts e rest = misses_adds_by i c j v (is_same_word v c.machine.word) attempts e refl rest

counts : (i : ℕ) (c : WithSeen) (attempts : List Attempt) → CountedTo i c attempts (attempts_from (Some c) attempts)
counts i c [] = record { machine = refl; each = omega arith }
counts i c (Looks j ∷ attempts) =
    let next : WithSeen = record { machine = c.machine; seen = sees c.seen j c.machine.word } in looks_adds i c j attempts (attempts_from (Some next) attempts) (counts i next attempts)
counts i c (Makes s ∷ attempts) =
    makes_adds i c s (step c.machine s) attempts refl (moves_word c.machine s.party s.act (slice_get c.machine.parties s.party)) (λ next. counts i next attempts)
counts i c (Misses j ∷ attempts) = misses_adds i c j (c.seen j) attempts refl (λ next. counts i next attempts)

pub counted : (i : ℕ) (c : WithSeen) (attempts : List Attempt) (now : WithSeen) → attempts_from (Some c) attempts ≡ Some now → Counted i c attempts now
counted i c attempts now e = subst (CountedTo i c attempts) e (counts i c attempts)

-- others write no more than all
at_most : (b : Bool) (n : ℕ) → (if b then 0 else n) ≤ n
at_most true n = omega arith
at_most false n = omega arith

beside : (i : ℕ) (attempts : List Attempt) → writes_by_others i attempts ≤ writes_in (made attempts)
beside i [] = omega arith
beside i (Looks j ∷ attempts) = beside i attempts
beside i (Makes s ∷ attempts) = omega (arith, at_most (nat_eq s.party i) (bit (writes_word s.act)), beside i attempts)
beside i (Misses j ∷ attempts) = beside i attempts

below : (n w : ℕ) (attempts : List Attempt) → ((i : ℕ) → misses_of i attempts ≤ 1 + w) → misses_below n attempts ≤ n * (1 + w)
below zero w attempts each = omega arith
below (suc n) w attempts each = let a = each n in let b = below n w attempts each in step_of (misses_of n attempts) (misses_below n attempts) n w a b
  where
    step_of : (x y n w : ℕ) → x ≤ 1 + w → y ≤ n * (1 + w) → x + y ≤ suc n * (1 + w)
    step_of x y n w a b = grind arith

one_more : (i : ℕ) (c : WithSeen) (attempts : List Attempt) (now : WithSeen) → attempts_from (Some c) attempts ≡ Some now
    → misses_of i attempts ≤ 1 + writes_in (made attempts)
one_more i c attempts now e = omega (arith, (counted i c attempts now e).each, stale_bit (c.seen i) c.machine.word, beside i attempts)

pub lock_free : LockFree
lock_free c attempts now e =
    let bound = open_calls_bound_steps c.machine (made attempts) now.machine (counted 0 c attempts now e).machine in
    record {
      machine = (counted 0 c attempts now e).machine;
      misses_each = λ i. (counted i c attempts now e).each;
      steps = bound.steps;
      missed = λ i. omega (arith, one_more i c attempts now e, bound.writes);
      all_missed = λ n. below n (writes_in (made attempts)) attempts (λ i. one_more i c attempts now e);
    }

same_party : (i : ℕ) → nat_eq i i ≡ true
same_party i = grind (arith, nat_tests)

just_seen : (c : WithSeen) (i : ℕ) → is_stale (sees c.seen i c.machine.word i) c.machine.word ≡ 0
just_seen c i = ap (λ b. is_stale (if b then Some c.machine.word else c.seen i) c.machine.word) (same_party i) ∙ fresh c.machine.word

pub misses_after_look : MissesAfterLook
misses_after_look c i attempts now e =
    let next : WithSeen = record { machine = c.machine; seen = sees c.seen i c.machine.word } in omega (arith, (counted i next attempts now e).each, just_seen c i)
