-- What the machine's invariant says to a party that knows its own place.
use Rattle.std.proofs.Common.{◌≡◌, ℕ, zero, suc, ◌+◌, ◌*◌, ◌/◌, ◌%◌, ◌≤◌, Bool, true, false, Some, List, [], ◌∷◌, ◌++◌, set, sym, refl, ap, subst, arith}
use mathlib.Core.Option.{some, some-injective, some-ne-none}
use lib.ListN.{get_elem?}
use Rattle.task_steps.proofs.Vocabulary.{State, bit, number_of, Position, At, Runnable, Slots, Outcome, where_found, when, Event, Machine, how_many, Census, weigh, census, plus, runs, closers, Awaiting, join, await, awaiting, fits, Holds, Invariant, Stays, always}
use Rattle.task_steps.specs.Rule.{Entry, Reaches, steps_of, has_work}
use Rattle.task_steps.proofs.Explains as told

pub law : (limit : ℕ) (log : List Entry) (m : Machine) → Reaches limit log m → Invariant m
law limit log m r = subst Stays (told.runs limit log m r) (always limit (steps_of log))

pub bit_le : (b : Bool) → bit b ≤ 1
bit_le b = grind arith

pub is_clear : (b : Bool) → bit b ≡ 0 → b ≡ false
is_clear b e = grind arith

-- the flags of a word, by its number
pub record Reads (f : ℕ) (w : State) : Type 0 where
  pub scheduled : f % 2 ≡ bit w.scheduled
  pub running : f / 2 % 2 ≡ bit w.running
  pub over : f / 4 % 4 ≡ bit w.completed + 2 * bit w.closed
  pub closed : f / 8 % 2 ≡ bit w.closed
  pub task : f / 16 % 2 ≡ bit w.task
  pub count : f / 256 ≡ w.references

pub reads : (f : ℕ) (w : State) → f ≡ number_of w → Reads f w
reads f w is = let h1 = bit_le w.scheduled in let h2 = bit_le w.running in let h3 = bit_le w.completed in let h4 = bit_le w.closed in let h5 = bit_le w.task in let h6 = bit_le w.awaiter in let h7 = bit_le w.registering in let h8 = bit_le w.notifying in record {
  scheduled = omega arith;
  running = omega arith;
  over = omega arith;
  closed = omega arith;
  task = omega arith;
  count = omega arith;
}

pub many_at : (f : Position → Bool) (ps : List Position) (k : ℕ) (p : Position) → get_elem? ps k ≡ some p → bit (f p) ≤ how_many f ps
many_at f [] k p e = absurd (some-ne-none p (sym e))
many_at f (x ∷ xs) zero p e = let is : bit (f x) ≡ bit (f p) = ap (λ y. bit (f y)) (some-injective x p e) in omega arith
many_at f (x ∷ xs) (suc k) p e = let h = many_at f xs k p e in omega arith

-- a count of the census that a party at p is part of
pub counted : (count : Census → ℕ) → ((a b : Census) → count (plus a b) ≡ count a + count b) → (ps : List Position) (k : ℕ) (p : Position) → get_elem? ps k ≡ some p → count (weigh p) ≤ count (census ps)
counted count sums [] k p e = absurd (some-ne-none p (sym e))
counted count sums (x ∷ xs) zero p e = let is : count (weigh x) ≡ count (weigh p) = ap (λ y. count (weigh y)) (some-injective x p e) in omega (arith, sums (weigh x) (census xs))
counted count sums (x ∷ xs) (suc k) p e = let h = counted count sums xs k p e in omega (arith, sums (weigh x) (census xs))

-- the same for a count of the handshake
pub counted_awaiting : (count : Awaiting → ℕ) → ((a b : Awaiting) → count (join a b) ≡ count a + count b) → (i : ℕ) (ps : List Position) (k : ℕ) (p : Position) → get_elem? ps k ≡ some p → count (await i p) ≤ count (awaiting i ps)
counted_awaiting count sums i [] k p e = absurd (some-ne-none p (sym e))
counted_awaiting count sums i (x ∷ xs) zero p e = let is : count (await i x) ≡ count (await i p) = ap (λ y. count (await i y)) (some-injective x p e) in omega (arith, sums (await i x) (awaiting i xs))
counted_awaiting count sums i (x ∷ xs) (suc k) p e = let h = counted_awaiting count sums i xs k p e in omega (arith, sums (await i x) (awaiting i xs))

-- who knows the number of its poll is the Task, so nobody else knows one
pub number_is : (i : ℕ) (ps : List Position) (k : ℕ) (p : Position) → get_elem? ps k ≡ some p → 1 ≤ (await i p).numbered → (awaiting i ps).numbered ≤ 1 → (awaiting i ps).number ≡ (await i p).number
number_is i [] k p e has one = absurd (some-ne-none p (sym e))
number_is i (x ∷ xs) zero p e has one = let same : await i x ≡ await i p = ap (await i) (some-injective x p e) in let knows : (await i x).numbered ≡ (await i p).numbered = ap (λ b. b.numbered) same in
    let is : (await i x).number ≡ (await i p).number = ap (λ b. b.number) same in let none = (fits i xs).number (omega (arith, knows, has, one)) in omega (arith, is, none)
number_is i (x ∷ xs) (suc k) p e has one = let here = counted_awaiting (λ b. b.numbered) (λ a b. refl) i xs k p e in let h = number_is i xs k p e has (omega (arith, one)) in
    let none = (fits i (x ∷ [])).number (omega (arith, here, has, one)) in omega (arith, h, none)

-- how many parties after an act
pub many_set : (f : Position → Bool) (ps : List Position) (k : ℕ) (p q : Position) → get_elem? ps k ≡ some p → how_many f (set ps k q) + bit (f p) ≡ how_many f ps + bit (f q)
many_set f [] k p q e = absurd (some-ne-none p (sym e))
many_set f (x ∷ xs) zero p q e = let is : bit (f x) ≡ bit (f p) = ap (λ y. bit (f y)) (some-injective x p e) in omega arith
many_set f (x ∷ xs) (suc k) p q e = let h = many_set f xs k p q e in omega arith

pub many_append : (f : Position → Bool) (ps qs : List Position) → how_many f (ps ++ qs) ≡ how_many f ps + how_many f qs
many_append f [] qs = omega arith
many_append f (x ∷ xs) qs = let h = many_append f xs qs in omega arith

pub many_next : (f : Position → Bool) (ps : List Position) (k : ℕ) (p q : Position) (born : List Position) → get_elem? ps k ≡ some p → how_many f (set ps k q ++ born) + bit (f p) ≡ how_many f ps + bit (f q) + how_many f born
many_next f ps k p q born e = omega (arith, many_append f (set ps k q) born, many_set f ps k p q e)

work_one : (p : Position) → bit (has_work p) ≤ runs (weigh p) + closers (weigh p) + (weigh p).outputs + (weigh p).claims
work_one p = grind arith

pub works : (ps : List Position) → how_many has_work ps ≤ runs (census ps) + closers (census ps) + (census ps).outputs + (census ps).claims
works [] = omega arith
works (p ∷ ps) = omega (arith, work_one p, works ps)

pub low : (m : Machine) → Invariant m → m.word.references ≤ m.limit + 1
low m i = let h = i.holds in let a = h.references in let b = h.one in let c = h.few in omega arith

-- while a Runnable exists
pub record Queued (m : Machine) : Type 0 where
  pub scheduled : m.word.scheduled ≡ true
  pub running : m.word.running ≡ false
  pub future : m.slots.future ≡ true
  pub home : how_many has_work m.parties ≡ 0

queued_facts : (limit : ℕ) (w : State) (slots : Slots) (t : List Event) (c : Census) → Holds limit w slots t c → 1 ≤ c.queued
    → (w.scheduled ≡ true) × (w.running ≡ false) × (slots.future ≡ true) × (runs c + closers c + c.outputs + c.claims ≡ 0)
queued_facts limit w slots t c h q = (grind arith, grind arith, grind arith, grind arith)

pub queued : (m : Machine) (k : ℕ) → Invariant m → get_elem? m.parties k ≡ some (At Runnable) → Queued m
queued m k i at = let f = queued_facts m.limit m.word m.slots m.trace (census m.parties) i.holds (counted (λ c. c.queued) (λ a b. refl) m.parties k (At Runnable) at) in
    record { scheduled = f.0; running = f.1; future = f.2; home = omega (arith, works m.parties, f.3) }

-- what a row finds
pub allowed : (g h : Bool) (o : Outcome) → g ≡ true → h ≡ true → where_found g (when h o) ≡ Some o
allowed true true o e f = refl
allowed true false o e f = cc
allowed false h o e f = cc

few_works : (limit : ℕ) (w : State) (slots : Slots) (t : List Event) (c : Census) → Holds limit w slots t c → runs c + closers c + c.outputs + c.claims ≤ 1
few_works limit w slots t c h = grind arith

-- one party at most has place 0
pub one_work : (m : Machine) → Invariant m → how_many has_work m.parties ≤ 1
one_work m i = omega (arith, works m.parties, few_works m.limit m.word m.slots m.trace (census m.parties) i.holds)
