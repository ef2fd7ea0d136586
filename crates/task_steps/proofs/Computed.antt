-- What acts in a row leave, computed by the table, and whether it allows them: an obligation names no outcome.
use Rattle.std.proofs.Common.{◌≡◌, ℕ, Bool, true, false, ◌&&◌, Option, Some, None, List, [], ◌∷◌, ◌++◌, refl, sym, ap, ◌∙◌, arith}
use Rattle.task_steps.proofs.Vocabulary.{how_many, owns_awaiter, State, number_of, found, written, Position, Act, Scene, Outcome, when, where_found, leaves_slots, Machine, scene, TaskPlace}
use Rattle.task_laws.specs.Line.{Line, holds, edited, next_of, told_of, leaves}
use Rattle.task_laws.specs.Lines.{line}
use Rattle.task_steps.specs.Rule.{has_work}
use Rattle.task_steps.specs.Steps.{spot, then_leaves, and_then}
use Rattle.task_steps.specs.Attempt.{word_after}
use Rattle.task_steps.proofs.Acts.{leads, leads_word}
use Rattle.task_steps.specs.Values.{Values}
use Rattle.task_steps.proofs.Advance.{Steps, Placing, keeps_places, places_after, places_before}

abbrev left_by : Scene → State → Line → Outcome
left_by s v l = record { word = v; slots = edited l.slots s.slots; next = next_of s l.next; born = l.born; told = told_of s l.also l.told }

abbrev may_by : Scene → Act → Option Line → (Scene → Position → Bool) → Bool
may_by s a None more = false
may_by s a (Some l) more = (found s.limit a s.word && holds s l.guard) && more (spot s.limit (written a s.word) (edited l.slots s.slots)) (next_of s l.next)

-- the table allows the acts
abbrev pub may : Scene → List Act → Position → Bool
may s [] p = true
may s (a ∷ more) p = may_by s a (line a p) (λ s p. may s more p)

abbrev total_by : Scene → Act → Option Line → (Scene → Position → Outcome) → Position → Outcome
total_by s a None more p = leaves_slots s s.word p [] []
total_by s a (Some l) more p = let o = left_by s (written a s.word) l in let x = more (spot s.limit o.word o.slots) o.next in
    record { word = x.word; slots = x.slots; next = x.next; born = o.born ++ x.born; told = x.told ++ o.told }

-- what they leave
abbrev pub total : Scene → List Act → Position → Outcome
total s [] p = leaves_slots s s.word p [] []
total s (a ∷ more) p = total_by s a (line a p) (λ s p. total s more p) p

left : (a b : Bool) → (a && b) ≡ true → a ≡ true
left a b e = grind arith

right : (a b : Bool) → (a && b) ≡ true → b ≡ true
right a b e = grind arith

passes : (b g : Bool) (o : Outcome) → (b && g) ≡ true → where_found b (when g o) ≡ Some o
passes true true o e = refl
passes true false o e = absurd (cc)
passes false g o e = absurd (cc)

pub leads_total : (s : Scene) (acts : List Act) (p : Position) → may s acts p ≡ true → leads s acts p ≡ Some (total s acts p)
leads_total s [] p e = refl
leads_total s (a ∷ more) p e = by (line a p) (λ s q h. leads_total s more q h) e
  where
    by : (l : Option Line) → ((s : Scene) (q : Position) → may s more q ≡ true → leads s more q ≡ Some (total s more q)) → may_by s a l (λ s p. may s more p) ≡ true
        → and_then (where_found (found s.limit a s.word) (leaves s (written a s.word) l)) (λ o. leads (spot s.limit o.word o.slots) more o.next) ≡ Some (total_by s a l (λ s p. total s more p) p)
    by None rec e = absurd (cc)
    by (Some l) rec e = let o = left_by s (written a s.word) l in let b = found s.limit a s.word && holds s l.guard in
        let rest = may (spot s.limit (written a s.word) (edited l.slots s.slots)) more (next_of s l.next) in
        ap (λ x. and_then x (λ o. leads (spot s.limit o.word o.slots) more o.next)) (passes (found s.limit a s.word) (holds s l.guard) o (left b rest e))
        ∙ ap (then_leaves o) (rec (spot s.limit o.word o.slots) o.next (right b rest e))

-- the word that they leave
word_total : (m : Machine) (p : Position) (acts : List Act) → may (scene m) acts p ≡ true → number_of (word_after m.word acts) ≡ number_of (total (scene m) acts p).word
word_total m p acts allowed = ap number_of (sym (leads_word (scene m) acts p (total (scene m) acts p) (leads_total (scene m) acts p allowed)))

-- a step of acts that the table allows, by the places that the party takes or gives back
pub by_table : {F T A : Type 0} {values : Values F T} (m : Machine) {p : Position} {acts : List Act} {new : ℕ} {l : List (ℕ × TaskPlace F T A)} → may (scene m) acts p ≡ true → new ≡ number_of (word_after m.word acts)
    → (how_many has_work (total (scene m) acts p).born ≡ 0) × (how_many owns_awaiter (total (scene m) acts p).born ≡ 0) → Placing values m p (total (scene m) acts p) l → Steps values m p acts new l
by_table m {p} {acts} allowed writes idle placing = record {
  outcome = total (scene m) acts p;
  leads_to = leads_total (scene m) acts p allowed;
  writes = writes ∙ word_total m p acts allowed;
  idle = idle;
  placing = placing;
}

-- a step of such acts that leave the places as they are
pub computed : {F T A : Type 0} {values : Values F T} (m : Machine) {p : Position} {acts : List Act} {new : ℕ} {l : List (ℕ × TaskPlace F T A)} → may (scene m) acts p ≡ true → new ≡ number_of (word_after m.word acts)
    → places_after (total (scene m) acts p) ≡ places_before m p → Steps values m p acts new l
computed {values = values} m {p} {acts} allowed writes same = keeps_places values (total (scene m) acts p) (leads_total (scene m) acts p allowed) (writes ∙ word_total m p acts allowed) same

-- acts that leave the word and the places as they are, so that they need no step
pub record Keeps (m : Machine) (p : Position) (acts : List Act) : Type 0 where
  pub outcome : Outcome
  pub leads_to : leads (scene m) acts p ≡ Some outcome
  pub word_is : outcome.word ≡ m.word
  pub places_are : places_after outcome ≡ places_before m p

pub noted : {m : Machine} {p : Position} {acts : List Act} → may (scene m) acts p ≡ true → (total (scene m) acts p).word ≡ m.word → places_after (total (scene m) acts p) ≡ places_before m p → Keeps m p acts
noted {m} {p} {acts} allowed word places =
    record { outcome = total (scene m) acts p; leads_to = leads_total (scene m) acts p allowed; word_is = word; places_are = places }

-- an act that finds its word, where its guard holds
pub allows : (a b : Bool) → a ≡ true → b ≡ true → ((a && b) && true) ≡ true
allows a b e f = grind arith

-- an act that has no guard
pub row_fits : {a : Bool} → a ≡ true → ((a && true) && true) ≡ true
row_fits {a} e = allows a true e refl

-- an act that has no row
pub guarded : {b : Bool} → b ≡ true → (b && true) ≡ true
guarded {b} e = allows true b refl e
