-- Acts of one party in a row, with nothing of another party between.
use Rattle.std.proofs.Common.{◌≡◌, ℕ, ◌+◌, ◌<◌, Bool, true, false, not, ◌&&◌, ◌||◌, if◌then◌else◌, Option, Some, None, List, [], ◌∷◌, ◌++◌, length, map, set, sym, refl, ap, ◌∙◌, subst, arith, append-nil, append_assoc}
use Rattle.task_steps.proofs.Vocabulary.{State, bit, is_open, Position, Act, GainReference, WakeIdle, WakeOver, WakeRunning, WakeScheduled, At, Lent, found, written, Slots, Scene, Outcome, when, is_held, leaves_slots}
use Rattle.task_steps.proofs.Vocabulary.{outcome_at, rule, Machine, scene, how_many, rule_word, Deed, Member, View}
use Rattle.task_steps.specs.Rule.{deed, member, view, fresh, found_by, Entry, Explains}
use Rattle.task_steps.specs.Attempt.{word_after}
use Rattle.task_steps.specs.Steps.{then_leaves, and_then, spot, is_lent, held_word, leaves_by, all_fit, noted}
use Rattle.task_steps.proofs.Explains.{tells, next_machine}
use Rattle.task_steps.proofs.Facts.{many_append, many_next}
use Rattle.task_steps.proofs.Written.{found_is}

-- what acts in a row leave where each row finds its word
abbrev pub leads : Scene → List Act → Position → Option Outcome
leads s [] p = Some (leaves_slots s s.word p [] [])
leads s (a ∷ more) p = and_then (rule s a p) (λ o. leads (spot s.limit o.word o.slots) more o.next)

when_so : (b : Bool) (x o : Outcome) → when b x ≡ Some o → Some x ≡ Some o
when_so true x o e = e
when_so false x o e = absurd (cc)

lent_is : (p : Position) → is_lent p ≡ true → p ≡ At Lent
lent_is (At Lent) e = refl
lent_is _ e = absurd (cc)

-- a lent waker leaves the same of a task that is known to have a handle
outcome_held : (limit : ℕ) (w : State) (slots : Slots) (v : State) (a : Act) (o : Outcome) → outcome_at (spot limit w slots) v a (At Lent) ≡ Some o → outcome_at (spot limit (held_word (At Lent) w) slots) v a (At Lent) ≡ Some o
outcome_held limit w slots v GainReference o e = when_so (is_held w) _ o e
outcome_held limit w slots v WakeOver o e = when_so (is_held w || not (is_open w)) _ o e
outcome_held limit w slots v WakeScheduled o e = when_so (is_held w || not (is_open w)) _ o e
outcome_held limit w slots v WakeRunning o e = when_so (is_held w || not (is_open w)) _ o e
outcome_held limit w slots v WakeIdle o e = when_so (is_held w || not (is_open w)) _ o e
outcome_held limit w slots v a o e = e

outcome_spot : (limit : ℕ) (w : State) (slots : Slots) (v : State) (a : Act) (p : Position) (o : Outcome) → outcome_at (spot limit w slots) v a p ≡ Some o → outcome_at (spot limit (held_word p w) slots) v a p ≡ Some o
outcome_spot limit w slots v a p o e = by (is_lent p) refl
  where
    by : (b : Bool) → is_lent p ≡ b → outcome_at (spot limit (held_word p w) slots) v a p ≡ Some o
    by true is = let at = lent_is p is in subst (λ (q : Position). outcome_at (spot limit (held_word q w) slots) v a q ≡ Some o) (sym at) (outcome_held limit w slots v a o (subst (λ (q : Position). outcome_at (spot limit w slots) v a q ≡ Some o) at e))
    by false is = subst (λ (b : Bool). outcome_at (spot limit (record w { task = b || w.task }) slots) v a p ≡ Some o) (sym is) e

-- both halves of acts in a row
pub record Joined (x : Option Outcome) (f : Outcome → Option Outcome) (o : Outcome) : Type 0 where
  pub first : Outcome
  pub second : Outcome
  pub one : x ≡ Some first
  pub two : f first ≡ Some second
  pub is : Some (record { word = second.word; slots = second.slots; next = second.next; born = first.born ++ second.born; told = second.told ++ first.told }) ≡ Some o

joined_second : (a : Outcome) (y : Option Outcome) (o : Outcome) → then_leaves a y ≡ Some o → (b : Outcome) × (y ≡ Some b) × (Some (record { word = b.word; slots = b.slots; next = b.next; born = a.born ++ b.born; told = b.told ++ a.told }) ≡ Some o)
joined_second a None o e = absurd (cc)
joined_second a (Some b) o e = (b, refl, e)

joined : (x : Option Outcome) (f : Outcome → Option Outcome) (o : Outcome) → and_then x f ≡ Some o → Joined x f o
joined None f o e = absurd (cc)
joined (Some a) f o e = let s = joined_second a (f a) o e in record { first = a; second = s.0; one = refl; two = s.1; is = s.2 }

joins : (x : Option Outcome) (f : Outcome → Option Outcome) (a b o : Outcome) → x ≡ Some a → f a ≡ Some b → Some (record { word = b.word; slots = b.slots; next = b.next; born = a.born ++ b.born; told = b.told ++ a.told }) ≡ Some o → and_then x f ≡ Some o
joins x f a b o e g h = ap (λ z. and_then z f) e ∙ (ap (then_leaves a) g ∙ h)

-- a word that is written only where a test holds
pub written_if : {X : Type 0} (b : Bool) (v u : X) → Some v ≡ (if b then Some u else None) → (b ≡ true) × (v ≡ u)
written_if true v u e = (refl, cc)
written_if false v u e = absurd (cc)

-- what the seat is told is what the machine does
pub leads_leave : (limit : ℕ) (w : State) (slots : Slots) (acts : List Act) (p : Position) (o : Outcome) → leads (spot limit w slots) acts p ≡ Some o → leaves_by limit w slots acts p ≡ Some o
leads_leave limit w slots [] p o e = e
leads_leave limit w slots (a ∷ more) p o e = let s : Scene = spot limit w slots in let j = joined (rule s a p) (λ o. leads (spot limit o.word o.slots) more o.next) o e in
    joins (outcome_at (spot limit (held_word p w) slots) (written a w) a p) (λ o. leaves_by limit o.word o.slots more o.next) j.first j.second o
    (outcome_spot limit w slots (written a w) a p j.first (found_is (found limit a w) (outcome_at s (written a w) a p) j.first j.one).1)
    (leads_leave limit j.first.word j.first.slots more j.first.next j.second j.two) j.is

pub both : (a b : Bool) → a ≡ true → b ≡ true → (a && b) ≡ true
both true b e f = f
both false b e f = e

-- acts that the machine allows find the words that their rows ask for
pub leads_fit : (s : Scene) (acts : List Act) (p : Position) (o : Outcome) → leads s acts p ≡ Some o → all_fit s.limit s.word acts ≡ true
leads_fit s [] p o e = refl
leads_fit s (a ∷ more) p o e = let j = joined (rule s a p) (λ o. leads (spot s.limit o.word o.slots) more o.next) o e in
    both (found s.limit a s.word) (all_fit s.limit (written a s.word) more) (found_is (found s.limit a s.word) (outcome_at s (written a s.word) a p) j.first j.one).0
    (subst (λ (w : State). all_fit s.limit w more ≡ true) (rule_word s a p j.first j.one) (leads_fit (spot s.limit j.first.word j.first.slots) more j.first.next j.second j.two))

abbrev word_of_outcome : State → Option Outcome → State
word_of_outcome w None = w
word_of_outcome w (Some o) = o.word

pub leads_word : (s : Scene) (acts : List Act) (p : Position) (o : Outcome) → leads s acts p ≡ Some o → o.word ≡ word_after s.word acts
leads_word s [] p o e = ap (word_of_outcome s.word) (sym e)
leads_word s (a ∷ more) p o e = let j = joined (rule s a p) (λ o. leads (spot s.limit o.word o.slots) more o.next) o e in
    ap (word_of_outcome s.word) (sym j.is) ∙ leads_word (spot s.limit j.first.word j.first.slots) more j.first.next j.second j.two ∙ ap (λ (w : State). word_after w more) (rule_word s a p j.first j.one)

fresh_append : (s t : List Position) → map fresh (s ++ t) ≡ map fresh s ++ map fresh t
fresh_append [] t = refl
fresh_append (p ∷ s) t = ap (λ l. fresh p ∷ l) (fresh_append s t)

-- the interleaving after acts in a row of the first party of a seat
pub record Followed (limit : ℕ) (views : List View) (seat l : ℕ) (p : Position) (ds : List Deed) (us : List Member) (acts : List Act) (m : Machine) (o : Outcome) : Type 0 where
  pub machine : Machine
  pub log : List Entry
  pub told : Explains limit (set views seat (view l (member o.next (noted m.word acts ds) ∷ (us ++ map fresh o.born)))) log machine
  pub word_is : machine.word ≡ o.word
  pub slots_is : machine.slots ≡ o.slots
  pub limit_is : machine.limit ≡ m.limit
  pub counts : (f : Position → Bool) → how_many f machine.parties + bit (f p) ≡ how_many f m.parties + bit (f o.next) + how_many f o.born

abbrev FollowedBy : ℕ → List View → ℕ → ℕ → Position → List Deed → List Member → List Act → Machine → Option Outcome → Type 0
FollowedBy limit views seat l p ds us acts m None = Unit {0}
FollowedBy limit views seat l p ds us acts m (Some x) = Followed limit views seat l p ds us acts m x

pub follows : (limit : ℕ) (views : List View) (seat l : ℕ) (acts : List Act) (p : Position) (ds : List Deed) (us : List Member) (log : List Entry) (m : Machine) (o : Outcome)
    → Explains limit (set views seat (view l (member p ds ∷ us))) log m → seat < length views → leads (scene m) acts p ≡ Some o → Followed limit views seat l p ds us acts m o
follows limit views seat l [] p ds us log m o t lt e = subst (λ (x : Option Outcome). FollowedBy limit views seat l p ds us [] m x) e (record {
  machine = m;
  log = log;
  told = subst (λ (r : List Member). Explains limit (set views seat (view l (member p ds ∷ r))) log m) (sym (append-nil us)) t;
  word_is = refl;
  slots_is = refl;
  limit_is = refl;
  counts = λ f. omega arith;
})
follows limit views seat l (a ∷ more) p ds us log m o t lt e = let j = joined (rule (scene m) a p) (λ o. leads (spot m.limit o.word o.slots) more o.next) o e in
    let o1 : Outcome = j.first in let o2 : Outcome = j.second in
    let x = tells limit views seat (view l (member p ds ∷ us)) 0 (member p ds) a o1 log m t lt refl j.one in
    let m1 : Machine = next_machine m x.0 p o1 in
    let rec = follows limit views seat l more o1.next (deed a (found_by a m.word) ∷ ds) (us ++ map fresh o1.born) (x.2 ∷ log) m1 o2 x.3 lt j.two in
    subst (λ (y : Option Outcome). FollowedBy limit views seat l p ds us (a ∷ more) m y) j.is (record {
      machine = rec.machine;
      log = rec.log;
      told = subst (λ (z : State × List Member). Explains limit (set views seat (view l (member o2.next (noted z.0 more (deed a (found_by a m.word) ∷ ds)) ∷ z.1))) rec.log rec.machine)
          (λ i. (rule_word (scene m) a p o1 j.one i, (append_assoc us (map fresh o1.born) (map fresh o2.born) ∙ ap (λ r. us ++ r) (sym (fresh_append o1.born o2.born))) i)) rec.told;
      word_is = rec.word_is;
      slots_is = rec.slots_is;
      limit_is = rec.limit_is;
      counts = λ f. let c1 = rec.counts f in let c2 = many_next f m.parties x.0 p o1.next o1.born x.1 in omega (arith, many_append f o1.born o2.born);
    })
