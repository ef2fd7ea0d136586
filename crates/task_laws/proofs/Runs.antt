-- The invariant holds after every list of steps that the machine allows.
use Rattle.std.proofs.Common.{◌≡◌, ℕ, zero, suc, List, [], ◌∷◌, ◌++◌, Option, Some, None, refl, sym, subst, arith}
use Rattle.std.specs.Prelude.{slice_get, slice_set}
use Rattle.std.proofs.lemmas.Bool.Decides.{nat_tests}
use Rattle.task_laws.proofs.Vocabulary.{Position, Act, Outcome, rule, Machine, Step, opening, scene, begins, after, moves, step, run_from, run, opening_word}
use Rattle.task_laws.proofs.Census.{plus, weigh, census}
use Rattle.task_laws.proofs.Invariant.{Holds, Kept, kept_by_rule}
use Rattle.task_laws.proofs.Awaiting.{join, await, awaiting, fits}
use Rattle.task_laws.proofs.Handshake.{HandshakeHolds, HandshakeKept, handshake_kept_by_rule}

-- all parties but number i
abbrev pub others : List Position → ℕ → List Position
others [] i = []
others (p ∷ ps) zero = ps
others (p ∷ ps) (suc i) = p ∷ others ps i

census-append : (ps qs : List Position) → census (ps ++ qs) ≡ plus (census ps) (census qs)
census-append [] qs = grind arith
census-append (p ∷ ps) qs = grind (arith, census-append ps qs)

pub split : (ps : List Position) (i : ℕ) (p : Position) → slice_get ps i ≡ Some p → census ps ≡ plus (weigh p) (census (others ps i))
split [] i p e = cc
split (x ∷ ps) zero p e = cc
split (x ∷ ps) (suc i) p e = grind (arith, split ps i p e)

pub put_born : (ps : List Position) (i : ℕ) (p q : Position) (born : List Position) → slice_get ps i ≡ Some p → census (slice_set ps i q ++ born) ≡ plus (census (q ∷ born)) (census (others ps i))
put_born [] i p q born e = cc
put_born (x ∷ ps) zero p q born e = grind (arith, census-append ps born)
put_born (x ∷ ps) (suc i) p q born e = grind (arith, put_born ps i p q born e)

-- the handshake of all parties but number i
awaiting-append : (i : ℕ) (ps qs : List Position) → awaiting i (ps ++ qs) ≡ join (awaiting i ps) (awaiting i qs)
awaiting-append i [] qs = grind arith
awaiting-append i (p ∷ ps) qs = grind (arith, awaiting-append i ps qs)

pub split_awaiting : (k : ℕ) (ps : List Position) (i : ℕ) (p : Position) → slice_get ps i ≡ Some p → awaiting k ps ≡ join (await k p) (awaiting k (others ps i))
split_awaiting k [] i p e = cc
split_awaiting k (x ∷ ps) zero p e = cc
split_awaiting k (x ∷ ps) (suc i) p e = grind (arith, split_awaiting k ps i p e)

put_born_awaiting : (k : ℕ) (ps : List Position) (i : ℕ) (p q : Position) (born : List Position) → slice_get ps i ≡ Some p → awaiting k (slice_set ps i q ++ born) ≡ join (awaiting k (q ∷ born)) (awaiting k (others ps i))
put_born_awaiting k [] i p q born e = cc
put_born_awaiting k (x ∷ ps) zero p q born e = grind (arith, awaiting-append k ps born)
put_born_awaiting k (x ∷ ps) (suc i) p q born e = grind (arith, put_born_awaiting k ps i p q born e)

pub record Invariant (m : Machine) : Type 0 where
  pub holds : Holds m.limit m.word m.slots m.trace (census m.parties)
  pub shakes : (i : ℕ) → HandshakeHolds i m.word m.slots m.trace (awaiting i m.parties)

abbrev pub Stays : Option Machine → Type 0
Stays None = Unit {0}
Stays (Some m) = Invariant m

opens_holds : (limit : ℕ) → Holds limit opening_word (opening limit).slots (opening limit).trace (census (opening limit).parties)
opens_holds limit = grind (arith, nat_tests)

opens_shakes : (limit i : ℕ) → HandshakeHolds i opening_word (opening limit).slots (opening limit).trace (awaiting i (opening limit).parties)
opens_shakes limit i = grind (arith, nat_tests)

pub opens : (limit : ℕ) → Invariant (opening limit)
opens limit = record { holds = opens_holds limit; shakes = opens_shakes limit }

after_stays : (m : Machine) (i : ℕ) (p : Position) (o : Option Outcome) → slice_get m.parties i ≡ Some p
    → Kept m.limit m.trace (census (others m.parties i)) p o → ((k : ℕ) → HandshakeKept k m.trace (awaiting k (others m.parties i)) p o) → Stays (after m i p o)
after_stays m i p None e k l = tt
after_stays m i p (Some o) e k l = record {
  holds = subst (Holds m.limit o.word o.slots (o.told ++ (begins p ++ m.trace))) (sym (put_born m.parties i p o.next o.born e)) k;
  shakes = λ j. subst (HandshakeHolds j o.word o.slots (o.told ++ (begins p ++ m.trace))) (sym (put_born_awaiting j m.parties i p o.next o.born e)) (l j);
}

pub moves_stays : (m : Machine) (i : ℕ) (act : Act) (o : Option Position) → slice_get m.parties i ≡ o → Invariant m → Stays (moves m i act o)
moves_stays m i act None e h = tt
moves_stays m i act (Some p) e h =
    let holds = subst (Holds m.limit m.word m.slots m.trace) (split m.parties i p e) h.holds in
    after_stays m i p (rule (scene m) act p) e
    (kept_by_rule act p (scene m) m.trace (census (others m.parties i)) holds)
    (λ k. handshake_kept_by_rule act p (scene m) k m.trace (census (others m.parties i)) (awaiting k (others m.parties i)) (fits k (others m.parties i)) holds
    (subst (HandshakeHolds k m.word m.slots m.trace) (split_awaiting k m.parties i p e) (h.shakes k)))

run_stays : (m : Option Machine) (steps : List Step) → Stays m → Stays (run_from m steps)
run_stays m [] h = h
run_stays None (s ∷ steps) h = tt
run_stays (Some m) (s ∷ steps) h = run_stays (step m s) steps (moves_stays m s.party s.act (slice_get m.parties s.party) refl h)

pub always : (limit : ℕ) (steps : List Step) → Stays (run limit steps)
always limit steps = run_stays (Some (opening limit)) steps (opens limit)
