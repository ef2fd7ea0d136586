-- What an attempt owes: each load and each exchange of it keeps the rule, and each miss has met a write.
use Rattle.std.proofs.Common.{◌≡◌, ℕ, ◌<◌, Bool, not, true, false, Option, Some, None, List, [], ◌∷◌, length, get_or, set, set-set, sym, refl, ap, ◌∙◌, subst, arith, eq-eqb}
use mathlib.Core.Option.{none, some}
use lib.ListN.{get_elem?}
use Rattle.atomic_table.specs.Table.{State as Board, Me, keeps, step, homes_after, carried_after}
use Rattle.atomic_table.proofs.Lists as lists
use Rattle.task_steps.proofs.Vocabulary.{State, bit, state_of, number_of, state_of_number_of, Position, Act, Machine, TaskPlace, Deed, Tries, Member, View}
use Rattle.task_steps.specs.Values.{Values}
use Rattle.task_steps.specs.Rule.{view, member, trying, differ, Entry, Tried, Explains, RuleHolds}
use Rattle.task_steps.specs.Steps.{Makes}
use Rattle.task_steps.specs.Knows.{Knows}
use Rattle.task_steps.specs.Attempt.{Attempt, word_after, acts_on}
use Rattle.task_steps.specs.Attempts.{tries_after, observed, attempted, MayTry}
use Rattle.task_steps.proofs.Explains.{inside, retries}
use Rattle.task_steps.proofs.Advance.{Finds, Steps, Result}
use Rattle.task_steps.proofs.Allowed.{OwesChange, OwesEnd, makes_change, result}
use Rattle.task_steps.proofs.Seats.{retold}
use Rattle.task_steps.proofs.Known.{knows_now}

same_word : (w : State) → bit (differ w w) ≡ 0
same_word w = ap (λ b. bit (not b)) (eq-eqb (number_of w) (number_of w) refl)

-- a party that sees another word than it saw last has met a write
tried_again : (k : ℕ) (log : List Entry) (w : State) (t : Option Tries) → Tried k log w t → Tried k log w (tries_after w t)
tried_again k log w None h = omega (arith, same_word w)
tried_again k log w (Some t) h = omega (arith, same_word w)

pub same_words : (l : List ℕ) → set l 0 (get_or l 0 0) ≡ l
same_words [] = refl
same_words (x ∷ xs) = refl

module _ (F T A : Type 0) (values : Values F T) (limit : ℕ) where
  abbrev M : Type 0
  M = Me (TaskPlace F T A) View

  abbrev B : Type 0
  B = Board (TaskPlace F T A) View

  abbrev Rule : B → Type 0
  Rule = RuleHolds {A = A} values limit

  abbrev now : B → ℕ
  now s = get_or s.words 0 0

  -- the table with another view of this seat
  abbrev viewing : B → ℕ → View → B
  viewing s id v = record { words = s.words; homes = s.homes; views = set s.views id v }

  -- the rule holds once the first party of a seat has seen something else
  reseen : (s : B) (id : ℕ) (l : ℕ) (p : Position) (ds : List Deed) (t new : Option Tries) (us : List Member) (c : Rule s) → get_elem? s.views id ≡ some (view l (trying p ds t ∷ us))
      → ((k : ℕ) → Tried k c.running.log c.running.machine.word t → Tried k c.running.log c.running.machine.word new) → Rule (viewing s id (view l (trying p ds new ∷ us)))
  reseen s id l p ds t new us c at shows = let r = c.running in let v : View = view l (trying p ds t ∷ us) in let w : View = view l (trying p ds new ∷ us) in let lt = inside s.views id v at in
      let t0 = subst (λ vs. Explains limit vs r.log r.machine) (sym (lists.set_again s.views id v at)) r.told in
      retold F T A values limit s c.capped r (set s.views id w) r.log r.machine (retries limit s.views id l p ds t new us r.log r.machine t0 lt shows) refl r.limited r.housed

  made_alike : (acts : List Act) (w : State) (l : ℕ) (p : Position) (ds : List Deed) (t : Option Tries) (us : List Member) (held : List (ℕ × TaskPlace F T A)) (m : M) → Makes values acts w (view l (member p ds ∷ us), held) m → Makes values acts w (view l (trying p ds t ∷ us), held) m
  made_alike acts w l p ds t us held m x = record { slots = x.slots; fits = x.fits; viewed = x.viewed; carried = x.carried }

  -- a step of a party is allowed whatever it has seen
  acts_having_seen : (s : B) (id : ℕ) (l : ℕ) (p : Position) (ds : List Deed) (t : Option Tries) (us : List Member) (held : List (ℕ × TaskPlace F T A)) (acts : State → List Act) (write : ℕ → ℕ) → Rule s
      → get_elem? s.views id ≡ some (view l (trying p ds t ∷ us)) → length s.homes ≡ 2 → now s < 18446744073709551616
      → ((m : Machine) → Finds limit p ds us m → now s ≡ number_of m.word → Steps values m p (acts m.word) (write (now s)) held)
      → Result F T A values limit s id (view l (trying p ds t ∷ us), held) (write (now s)) (Makes values (acts (state_of (now s))) (state_of (now s)) (view l (trying p ds t ∷ us), held))
  acts_having_seen s id l p ds t us held acts write c at two fits owes = let v : View = view l (trying p ds t ∷ us) in let quiet : View = view l (member p ds ∷ us) in
      let o = result F T A values limit (viewing s id quiet) id (quiet, held) l p ds us acts write (reseen s id l p ds t None us c at (λ k h. tt)) (lists.set_here s.views id quiet (inside s.views id v at)) refl two fits owes in (
        o.0,
        o.1,
        o.2,
        subst (λ (vs : List View). Rule record { words = set s.words 0 (write (now s)); homes = homes_after s.homes held o.1; views = vs }) (set-set s.views id quiet o.0) o.3,
        made_alike (acts (state_of (now s))) (state_of (now s)) l p ds t us held (o.0, carried_after held o.1) o.4,
      )

  -- a party that only sees the word
  pub has_seen : (s : B) (id : ℕ) (l : ℕ) (p : Position) (ds : List Deed) (t : Option Tries) (us : List Member) (c : Rule s) → get_elem? s.views id ≡ some (view l (trying p ds t ∷ us))
      → Rule record { words = set s.words 0 (now s); homes = s.homes; views = set s.views id (view l (trying p ds (tries_after (state_of (now s)) t) ∷ us)) }
  has_seen s id l p ds t us c at = let new = tries_after (state_of (now s)) t in let w : View = view l (trying p ds new ∷ us) in
      let stands : c.running.machine.word ≡ state_of (now s) = sym (ap state_of c.running.word_is ∙ state_of_number_of c.running.machine.word) in
      subst (λ (ws : List ℕ). Rule record { words = ws; homes = s.homes; views = set s.views id w }) (sym (same_words s.words)) (reseen s id l p ds t new us c at
      (λ k h. subst (λ (x : State). Tried k c.running.log c.running.machine.word (tries_after x t)) stands (tried_again k c.running.log c.running.machine.word t h)))

  sees : (s : B) (id : ℕ) (l : ℕ) (p : Position) (ds : List Deed) (t : Option Tries) (us : List Member) (held : List (ℕ × TaskPlace F T A)) (c : Rule s) → get_elem? s.views id ≡ some (view l (trying p ds t ∷ us))
      → Result F T A values limit s id (view l (trying p ds t ∷ us), held) (now s) (λ m. m ≡ (view l (trying p ds (tries_after (state_of (now s)) t) ∷ us), held))
  sees s id l p ds t us held c at = (view l (trying p ds (tries_after (state_of (now s)) t) ∷ us), keeps, tt, has_seen s id l p ds t us c at, refl)

  -- what an attempt owes: its change where it finds the word that it names, and its end
  pub may_try : {Row : Type 0} (slots id l : ℕ) (p : Position) (ds : List Deed) (us : List Member) (held : List (ℕ × TaskPlace F T A)) (a : Attempt Row) → slots ≡ 2 → OwesChange F T A values limit a p ds us held → ((w : State) → a.ends l w ≡ a.ends limit w)
      → OwesEnd F T A values limit a p ds us held → MayTry values limit slots id (view l (member p ds ∷ us), held) a
  may_try slots id l p ds us held a two changes same over = record {
    loads = λ t s c deep at fits. observe t s c (deep ∙ two) at fits (a.ends l (state_of (now s))) refl;
    exchanges = λ t w applied names s c deep at fits. let v = word_after w (acts_on a w) in lists.exchanged (now s) (number_of w) (number_of v)
        (λ x. Result F T A values limit s id (view l (trying p ds t ∷ us), held) x (attempted values a (step slots 0 (number_of w) (number_of v) none) (view l (trying p ds t ∷ us), held) (now s)))
        (λ hit. let o = acts_having_seen s id l p ds t us held (acts_on a) (λ n. number_of v) c at (deep ∙ two) fits (λ m f e. makes_change F T A values limit a p ds us held changes w applied m f (sym hit ∙ e)) in (o.0, o.1, o.2, o.3, ((λ _. o.4), (λ no. absurd (no hit)), knows t s c at)))
        (λ miss. let o = sees s id l p ds t us held c at in (o.0, o.1, o.2, o.3, ((λ hit. absurd (miss hit)), (λ _. o.4), knows t s c at)));
  }
    where
      knows : (t : Option Tries) (s : B) (c : Rule s) → get_elem? s.views id ≡ some (view l (trying p ds t ∷ us)) → Knows ds (state_of (now s))
      knows t s c at = knows_now F T A values limit s id (view l (trying p ds t ∷ us), held) l p ds t us refl c at

      differs : {P : Type 0} (x : Bool) → x ≡ true → x ≡ false → P
      differs x e f = absurd (cc)

      observe : (t : Option Tries) (s : B) (c : Rule s) → length s.homes ≡ 2 → get_elem? s.views id ≡ some (view l (trying p ds t ∷ us)) → now s < 18446744073709551616 → (b : Bool) → a.ends l (state_of (now s)) ≡ b
          → Result F T A values limit s id (view l (trying p ds t ∷ us), held) (now s) (observed values a (step slots 0 0 0 none) (view l (trying p ds t ∷ us), held) (now s))
      observe t s c deep at fits true is = let o = acts_having_seen s id l p ds t us held a.acts_at_end (λ n. n) c at deep fits (λ m f e. over m f (now s) e fits (sym (same m.word) ∙ (ap (a.ends l) (sym (state_of_number_of m.word) ∙ ap state_of (sym e)) ∙ is))) in
          (o.0, o.1, o.2, o.3, ((λ _. o.4), (λ no. differs (a.ends l (state_of (now s))) is no), knows t s c at))
      observe t s c deep at fits false is = let o = sees s id l p ds t us held c at in
          (o.0, o.1, o.2, o.3, ((λ yes. differs (a.ends l (state_of (now s))) yes is), (λ _. o.4), knows t s c at))

  -- an attempt that no word ends
  pub never_ends : {Row : Type 0} (a : Attempt Row) (p : Position) (ds : List Deed) (us : List Member) (held : List (ℕ × TaskPlace F T A)) → ((w : State) → a.ends limit w ≡ false) → OwesEnd F T A values limit a p ds us held
  never_ends a p ds us held goes_on m f n e lt over = absurd (let no = goes_on m.word in cc)
