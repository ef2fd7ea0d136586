-- One round of an attempt: what its load and its exchange leave to the next round, or to the caller.
use Rattle.task_core.specs.declared.traits.Yields.{Ghosts}
use Rattle.task_steps.specs.declared.kept.Kept.{Kept}
use Rattle.task_steps.specs.declared.table.Terms.{Terms}
use Rattle.task_steps.specs.Values.{Values, values_of}
use Rattle.task_cell.proofs.Vocabulary.{◌≡◌, ℕ, Bool, true, Option, Some, None, List, [], sym, refl, ap, ◌∙◌, subst, ◌==◌, none, Me, step, Allows, State, state_of, number_of, Act, View}
use Rattle.task_cell.proofs.Vocabulary.{RuleHolds, head_of, Makes, Position, Party, deeds, limit_of, StandsWith, OwesEnd, may_try, tries_after, looks_of, Names, having_seen, observed}
use Rattle.task_cell.proofs.Vocabulary.{attempted, MayTry, HasChanged, HasEnded, HasSeen, HasFound, HasLooked, HasMissed, IsUndecided, TaskPlace}
use Rattle.std.proofs.lemmas.Bool.Decides.{nat_tests}
use Rattle.task_laws.specs.Asks.{is_held}
use Rattle.std.proofs.Common.{◌&&◌, ◌||◌, ◌≢◌, ◌⊎◌, ◌+◌, ◌<◌, ◌≤◌, not, false, eq-eqb, ne_eqb, ⊎_elim, inl, inr, arith, if◌then◌else◌}
use native.Mathlib.Decide.{ℕ_discrete}
use Rattle.counted_block.specs.Counts.{More, Less}
use Rattle.task_steps.specs.Attempt.{Attempt, word_after, acts_on, counts_on, lasts_on, next_of}
use Rattle.task_steps.specs.Attempts.{Decides, IfAgain}
use Rattle.task_steps.specs.declared.attempt.TriedOnce.{TriedOnce}
use Rattle.task_steps.specs.declared.attempt.TriedOnce.TheVariants.{Made, Ended, Again}
use Rattle.task_steps.proofs.Acts.{written_if}
use Rattle.task_steps.specs.Shares.{shares_out, counted, MayBring, MayGive}
use Rattle.counted_block.specs.Blocks.{BlockId}
use Rattle.task_cell.specs.declared.cell.Cell.{Cell}
use Rattle.task_cell.specs.declared.cell.MaybeShare.{MaybeShare}
use Rattle.task_cell.specs.Grips.{HasLeft, MayCount}
use Rattle.task_steps.proofs.Shares.{Brings, Gives, Moves, may_bring, may_give}
use Rattle.task_steps.proofs.Allowed.{OwesChange}
use prog.Atomic.{either}
use Rattle.task_core.specs.Word.{bit}
use Rattle.task_core.proofs.Bits.{state_of_number_of, number_of_state_of}
use Rattle.task_steps.specs.Rule.{differ}
use Rattle.task_steps.specs.declared.table.Tries.{Tries}
use Rattle.task_steps.specs.Knows.{Knows}

-- the word that was seen last, or any, where none was
abbrev pub seen_word : Option Tries → State
seen_word None = state_of 0
seen_word (Some t) = t.seen

one_word : (v w : State) → number_of v ≡ number_of w → v ≡ w
one_word v w e = sym (state_of_number_of v) ∙ (ap state_of e ∙ state_of_number_of w)

-- a change that answers what to write applies to the word, and answers its row
pub answered : {Row : Type 0} (change : Attempt Row) (limit key : ℕ) (w : State) (made : State × Row) → Some made ≡ next_of change limit w → limit ≡ key
    → (change.applies key w ≡ true) × (made ≡ (word_after w (acts_on change w), change.row w))
answered change limit key w made e same = written_if (change.applies key w) made (word_after w (acts_on change w), change.row w) (e ∙ ap (λ l. next_of change l w) same)

-- a change that was made counts by what it has found
pub row_made : {Row : Type 0} (change : Attempt Row) (n old : ℕ) (w : State) (row : Row) → n ≡ old → old ≡ number_of w → row ≡ change.row w → change.row (state_of n) ≡ row
row_made change n old w row e is found = ap (λ k. change.row (state_of k)) (e ∙ is) ∙ (ap (λ v. change.row v) (state_of_number_of w) ∙ sym found)

pub counts_made : {Row : Type 0} (change : Attempt Row) (n old : ℕ) (w : State) (row : Row) → n ≡ old → old ≡ number_of w → row ≡ change.row w → ((n == old) && counts_on change (state_of n)) ≡ change.counts row
counts_made change n old w row e is found = ap (λ b. b && counts_on change (state_of n)) (eq-eqb n old e)
    ∙ ap (λ x. change.counts x) (row_made change n old w row e is found)

-- one that missed counts nothing
pub counts_missed : {Row : Type 0} (change : Attempt Row) (n old : ℕ) → n ≢ old → ((n == old) && counts_on change (state_of n)) ≡ false
counts_missed change n old other = ap (λ b. b && counts_on change (state_of n)) (ne_eqb n old other)

-- a word of another number is one look more
one_look : (v w : State) (t : Option Tries) → Names v t → number_of w ≢ number_of v → looks_of t + 1 ≤ looks_of (tries_after w t)
one_look v w None names other = omega arith
one_look v w (Some t) names other = let one : bit (differ t.seen w) ≡ 1 = ap (λ b. bit (not b)) (ne_eqb (number_of t.seen) (number_of w) (λ e. other (sym e ∙ ap number_of names))) in omega arith

-- an exchange that missed has found another word than it names
pub other_word : (n old : ℕ) (v w : State) → old ≡ number_of v → w ≡ state_of n → n ≢ old → v ≢ w
other_word n old v w names found miss e = miss (sym (number_of_state_of n) ∙ (ap number_of (sym found ∙ sym e) ∙ sym names))

-- a number at which a share is out shows a handle
pub held_by : (n : ℕ) (w : State) → w ≡ state_of n → 0 < shares_out n → is_held w ≡ true
held_by n w e some = ap is_held e ∙ held_some (state_of n) some
  where
    held_some : (v : State) → 0 < v.references + bit v.task → is_held v ≡ true
    held_some v h = grind (arith, nat_tests)

-- a change that answers nothing to write does not apply: a word that is found again, and does not end the attempt, leaves it undecided
pub other_or_undecided : {Row : Type 0} (change : Attempt Row) (limit key : ℕ) (v w : State) → None ≡ next_of change limit v → limit ≡ key → change.ends key w ≡ false → is_held w ≡ true → (v ≢ w) ⊎ IsUndecided key change w
other_or_undecided change limit key v w unmade same goes_on held = by (ℕ_discrete (number_of v) (number_of w))
  where
    unwritten : {X : Type 0} (b : Bool) (x : X) → None ≡ (if b then Some x else None) → b ≡ false
    unwritten true x e = absurd (cc)
    unwritten false x e = refl

    neither : (a b : Bool) → a ≡ false → b ≡ false → (a || b) ≡ false
    neither a b e f = ap (λ x. x || b) e ∙ f

    by : Dec (number_of v ≡ number_of w) → (v ≢ w) ⊎ IsUndecided key change w
    by (yes e) = let is : v ≡ w = one_word v w e in inr (held, neither (change.applies key w) (change.ends key w) (ap (change.applies key) (sym is) ∙ (ap (λ l. change.applies l v) (sym same) ∙ unwritten (change.applies limit v) _ unmade)) goes_on)
    by (no ne) = inl (λ e. ne (ap number_of e))

-- a word that is found again leaves an attempt undecided
pub undecided : {Row : Type 0} (change : Attempt Row) (limit : ℕ) (v w : State) → number_of w ≡ number_of v → (v ≢ w) ⊎ IsUndecided limit change w → IsUndecided limit change w
undecided change limit v w same = ⊎_elim (λ (other : v ≢ w). absurd (other (one_word v w (sym same)))) (λ (u : IsUndecided limit change w). u)

-- no word leaves an attempt undecided that each word with a handle decides
pub decided : {Row P : Type 0} (limit : ℕ) (change : Attempt Row) (w : State) → Decides limit change → P ⊎ IsUndecided limit change w → P
decided limit change w all = ⊎_elim (λ p. p) (λ (u : IsUndecided limit change w). absurd (let is = all w u.0 in let neither = u.1 in cc))

-- a flag is set or clear
pub set_or_clear : (b : Bool) → (b || not b) ≡ true
set_or_clear true = refl
set_or_clear false = refl

pub clear_or_set : (b : Bool) → (not b || b) ≡ true
clear_or_set true = refl
clear_or_set false = refl

module _ {F T A : Type 0} where
  pub seeing_first : (w : State) (me : Me (TaskPlace F T A) View) (t : Option Tries) → Names w t → me.0 ≡ having_seen t me.0 → HasSeen w me me
  seeing_first w me t names is = record { tries = t; names = names; is = λ i. (is i, me.1) }

  -- what the rule allows an attempt, at the seat as it is now
  pub may_exchange : {values : Values F T} {Row : Type 0} (limit key slots id other : ℕ) (me now : Me (TaskPlace F T A) View) (change : Attempt Row) (w : State) (old new : ℕ) → key ≡ limit → slots ≡ 2 → other ≡ id → HasSeen w me now
      → MayTry values limit 2 id me change → change.applies limit w ≡ true → old ≡ number_of w → new ≡ number_of (word_after w (acts_on change w))
      → Allows (RuleHolds {A = A} values key) slots other now 0 (λ n. either (n == old) new n) (attempted values change (step slots 0 old new none) now)
  may_exchange {values = values} limit key slots id other me now change w old new a b c s may applied from to = subst
      (λ (z : ℕ × ℕ × ℕ × Me (TaskPlace F T A) View × ℕ × ℕ). Allows (RuleHolds {A = A} values z.0) z.1 z.2 z.3 0 (λ n. either (n == z.4) z.5 n) (attempted values change (step z.1 0 z.4 z.5 none) z.3))
      (λ i. (sym a i, sym b i, sym c i, sym s.is i, sym from i, sym to i)) (may.exchanges s.tries w applied s.names)

  -- what the rule asks of the shares, at the seat as it is now
  pub may_more : {values : Values F T} {Row : Type 0} (limit key id other : ℕ) (me now : Me (TaskPlace F T A) View) (change : Attempt Row) (w : State) (old new : ℕ) → key ≡ limit → other ≡ id → HasSeen w me now
      → MayBring values limit id me change → change.applies limit w ≡ true → old ≡ number_of w → new ≡ number_of (word_after w (acts_on change w))
      → More (RuleHolds {A = A} values key) shares_out other now.0 (λ n. either (n == old) new n) (counted {S = TaskPlace F T A} (counts_on change) (step 2 0 old new none))
  may_more {values = values} limit key id other me now change w old new a b s may applied from to = subst
      (λ (z : ℕ × ℕ × Me (TaskPlace F T A) View × ℕ × ℕ). More (RuleHolds {A = A} values z.0) shares_out z.1 z.2.0 (λ n. either (n == z.3) z.4 n) (counted {S = TaskPlace F T A} (counts_on change) (step 2 0 z.3 z.4 none)))
      (λ i. (sym a i, sym b i, sym s.is i, sym from i, sym to i)) (may s.tries w applied s.names)

  pub may_less : {values : Values F T} {Row : Type 0} (limit key id other : ℕ) (me now : Me (TaskPlace F T A) View) (change : Attempt Row) (w : State) (old new : ℕ) → key ≡ limit → other ≡ id → HasSeen w me now
      → MayGive values limit id me change → change.applies limit w ≡ true → old ≡ number_of w → new ≡ number_of (word_after w (acts_on change w))
      → Less (RuleHolds {A = A} values key) shares_out other now.0 (λ n. either (n == old) new n) (counted {S = TaskPlace F T A} (counts_on change) (step 2 0 old new none)) (λ n. lasts_on change (state_of n))
  may_less {values = values} limit key id other me now change w old new a b s may applied from to = subst
      (λ (z : ℕ × ℕ × Me (TaskPlace F T A) View × ℕ × ℕ). Less (RuleHolds {A = A} values z.0) shares_out z.1 z.2.0 (λ n. either (n == z.3) z.4 n) (counted {S = TaskPlace F T A} (counts_on change) (step 2 0 z.3 z.4 none)) (λ n. lasts_on change (state_of n)))
      (λ i. (sym a i, sym b i, sym s.is i, sym from i, sym to i)) (may s.tries w applied s.names)

  pub may_load : {values : Values F T} {Row : Type 0} (limit key slots id other : ℕ) (me now : Me (TaskPlace F T A) View) (change : Attempt Row) (w : State) → key ≡ limit → slots ≡ 2 → other ≡ id → HasSeen w me now
      → MayTry values limit 2 id me change → Allows (RuleHolds {A = A} values key) slots other now 0 (λ n. n) (observed values change (step slots 0 0 0 none) now)
  may_load {values = values} limit key slots id other me now change w a b c s may = subst
      (λ (z : ℕ × ℕ × ℕ × Me (TaskPlace F T A) View). Allows (RuleHolds {A = A} values z.0) z.1 z.2 z.3 0 (λ n. n) (observed values change (step z.1 0 0 0 none) z.3))
      (λ i. (sym a i, sym b i, sym c i, sym s.is i)) (may.loads s.tries)

  -- the next round, after a step that changed nothing
  pub seeing_next : (n : ℕ) (v w : State) (me now after : Me (TaskPlace F T A) View) → HasSeen v me now → w ≡ state_of n → after ≡ (having_seen (tries_after (state_of n) (head_of now.0.members).tries) now.0, now.1) → HasSeen w me after
  seeing_next n v w me now after s e is = record {
    tries = tries_after w s.tries;
    names = names w s.tries;
    is = subst (λ (z : Me (TaskPlace F T A) View × State). after ≡ (having_seen (tries_after z.1 (head_of z.0.0.members).tries) z.0.0, z.0.1)) (λ i. (s.is i, sym e i)) is;
  }
    where
      names : (w : State) (t : Option Tries) → Names w (tries_after w t)
      names w None = refl
      names w (Some t) = refl

  -- the next round after a step that changed nothing, and has found this word
  pub found_next : (n : ℕ) (w : State) (now after : Me (TaskPlace F T A) View) → w ≡ state_of n → after ≡ (having_seen (tries_after (state_of n) (head_of now.0.members).tries) now.0, now.1) → HasFound w now after
  found_next n w now after e is = ap (λ (m : Me (TaskPlace F T A) View). (head_of m.0.members).tries) is ∙ ap (λ (v : State). tries_after v (head_of now.0.members).tries) (sym e)

  -- two rounds
  pub seeing_both : (v w : State) (me now after : Me (TaskPlace F T A) View) → HasSeen v me now → HasSeen w now after → HasSeen w me after
  seeing_both v w me now after s t = record { tries = t.tries; names = t.names; is = t.is ∙ ap (λ (m : Me (TaskPlace F T A) View). (having_seen t.tries m.0, m.1)) s.is }

  -- a round that has found another word than it was tried on is one look more
  pub looks_more : (i : ℕ) (v w : State) (me now after : Me (TaskPlace F T A) View) → HasSeen v me now → HasFound w now after → number_of w ≢ number_of v → HasLooked i me now → HasLooked (i + 1) me after
  looks_more i v w me now after s found other h = let t = (head_of now.0.members).tries in let u = (head_of after.0.members).tries in
      let seen : t ≡ s.tries = ap (λ (m : Me (TaskPlace F T A) View). (head_of m.0.members).tries) s.is in
      let one : looks_of t + 1 ≤ looks_of u = subst (λ x. looks_of t + 1 ≤ looks_of x) (sym found) (one_look v w t (subst (Names v) (sym seen) s.names) other) in omega (arith, h, one)

  -- a party that has missed this often has missed once more, where it has found another word than it was tried on
  pub misses_more : (n : ℕ) (v w : State) (me now after : Me (TaskPlace F T A) View) → HasSeen v me now → HasFound w now after → v ≢ w → HasMissed n now → HasMissed (n + 1) after
  misses_more n v w me now after s found other h = let t = (head_of now.0.members).tries in let u = (head_of after.0.members).tries in
      let seen : t ≡ s.tries = ap (λ (m : Me (TaskPlace F T A) View). (head_of m.0.members).tries) s.is in
      let one : looks_of t + 1 ≤ looks_of u = subst (λ x. looks_of t + 1 ≤ looks_of x) (sym found) (one_look v w t (subst (Names v) (sym seen) s.names) (λ e. other (one_word v w (sym e)))) in omega (arith, h, one)

  -- a party that has looked before has missed as often as it was tried, or was left undecided
  pub misses_from : {Row N K : Type 0} (undecided : State → Type 0) (n : ℕ) (tried : TriedOnce Row N K) (me now after : Me (TaskPlace F T A) View) (w : State) → me.0 ≡ having_seen None me.0 → HasFound w me now
      → IfAgain tried (λ v. HasLooked n now after ⊎ undecided v) → IfAgain tried (λ v. HasMissed n after ⊎ undecided v)
  misses_from undecided n (Made row m) me now after w quiet found h = tt
  misses_from undecided n (Ended v k) me now after w quiet found h = tt
  misses_from undecided n (Again v k) me now after w quiet found h = let t : (head_of me.0.members).tries ≡ None = ap (λ (v : View). (head_of v.members).tries) quiet in
      let one : looks_of (head_of now.0.members).tries ≡ 1 = ap looks_of (found ∙ ap (tries_after w) t) in ⊎_elim (λ (l : HasLooked n now after). inl (omega (arith, l, one))) (λ u. inr u) h

  -- whether the word that a load finds ends the attempt
  pub ends_at : (ends : ℕ → State → Bool) (limit n : ℕ) (v w : State) (me now : Me (TaskPlace F T A) View) (b : Bool) → ((x : State) → ends me.0.limit x ≡ ends limit x) → HasSeen v me now → w ≡ state_of n → ends limit w ≡ b → ends now.0.limit (state_of n) ≡ b
  ends_at ends limit n v w me now b same s e is = ap (λ (z : ℕ × State). ends z.0 z.1) (λ i. (ap (λ (m : Me (TaskPlace F T A) View). m.0.limit) s.is i, sym e i)) ∙ (same w ∙ is)

  -- what was made of the seat that has seen something was made of the seat
  made_of : {values : Values F T} (acts : List Act) (w : State) (t : Option Tries) (me after : Me (TaskPlace F T A) View) → Makes values acts w (having_seen t me.0, me.1) after → Makes values acts w me after
  made_of acts w t me after x = record { slots = x.slots; fits = x.fits; viewed = x.viewed; carried = x.carried }

  -- the word ended the attempt
  pub ended : {values : Values F T} {Row : Type 0} (limit n : ℕ) (change : Attempt Row) (v w : State) (me now after : Me (TaskPlace F T A) View) → HasSeen v me now → w ≡ state_of n → change.ends limit w ≡ true
      → Makes values (change.acts_at_end (state_of n)) (state_of n) now after → Knows (head_of now.0.members).deeds (state_of n) → HasEnded values limit change w me after
  ended {values = values} limit n change v w me now after s e over made knows = record {
    at_end = over;
    made = made_of (change.acts_at_end w) w s.tries me after (subst (λ (z : State × Me (TaskPlace F T A) View). Makes values (change.acts_at_end z.0) z.0 z.1 after) (λ i. (sym e i, s.is i)) made);
    knows = subst (λ (z : State × Me (TaskPlace F T A) View). Knows (head_of z.1.0.members).deeds z.0) (λ i. (sym e i, s.is i)) knows;
  }

  -- a look asks for no word that was seen before
  pub seeing_any : (me : Me (TaskPlace F T A) View) (t : Option Tries) → me.0 ≡ having_seen t me.0 → HasSeen (seen_word t) me me
  seeing_any me None is = seeing_first (state_of 0) me None tt is
  seeing_any me (Some t) is = seeing_first t.seen me (Some t) refl is

  -- a try that goes on from another one is one from the seat as it was
  pub seen_on : (w : State) (me now : Me (TaskPlace F T A) View) → HasSeen w me now → (t : Option Tries) × Names w t × (now.0 ≡ having_seen t now.0)
  seen_on w me now s = (s.tries, s.names, subst (λ (m : Me (TaskPlace F T A) View). m.0 ≡ having_seen s.tries m.0) (sym s.is) refl)

  pub may_still : {values : Values F T} {Row : Type 0} (limit key id other : ℕ) (me now : Me (TaskPlace F T A) View) (change : Attempt Row) (w : State) → key ≡ limit → other ≡ id → HasSeen w me now
      → MayTry values limit 2 id me change → MayTry values key 2 other now change
  may_still {values = values} limit key id other me now change w a e s may = subst (λ (z : ℕ × ℕ × Me (TaskPlace F T A) View). MayTry values z.0 2 z.1 z.2 change) (λ i. (sym a i, sym e i, sym s.is i)) (record { loads = may.loads; exchanges = may.exchanges })

  -- what the rule allows a party that stands here, by what its change and its end owe
  pub may_at : {values : Values F T} {Row : Type 0} (limit : ℕ) (p : Party F T A) (at : Position) (held : List (ℕ × TaskPlace F T A)) → StandsWith at held p → (change : Attempt Row) → ((w : State) → change.ends (limit_of p) w ≡ change.ends limit w)
      → OwesChange F T A values limit change at (deeds p) [] held → OwesEnd F T A values limit change at (deeds p) [] held → MayTry values limit 2 p.seat.id p.seat.me change
  may_at {values = values} limit p at held s change same changes over = subst (λ (m : Me (TaskPlace F T A) View). MayTry values limit 2 p.seat.id m change) (sym s) (may_try F T A values limit 2 p.seat.id (limit_of p) at (deeds p) [] held change refl changes same over)

  -- what a later try comes to is what the first one has come to
  pub changed_after : {values : Values F T} {Row : Type 0} (limit key : ℕ) (change : Attempt Row) (v : State) (row : Row) (me now after : Me (TaskPlace F T A) View) → key ≡ limit → HasSeen v me now → HasChanged values key change row now after → HasChanged values limit change row me after
  changed_after {values = values} limit key change v row me now after a s c = record {
    word = c.word;
    is = c.is;
    applied = ap (λ l. change.applies l c.word) (sym a) ∙ c.applied;
    made = made_of (acts_on change c.word) c.word s.tries me after (subst (λ (m : Me (TaskPlace F T A) View). Makes values (acts_on change c.word) c.word m after) s.is c.made);
    knows = subst (λ (m : Me (TaskPlace F T A) View). Knows (head_of m.0.members).deeds c.word) s.is c.knows;
  }

  -- the same of a try that is made by an exchange of the word that it names
  pub changed_by : {values : Values F T} {Row : Type 0} (limit : ℕ) (change : Attempt Row) (n old new : ℕ) (w : State) (row : Row) (me after : Me (TaskPlace F T A) View) → n ≡ old → old ≡ number_of w → change.applies limit w ≡ true → row ≡ change.row w
      → attempted values change (step 2 0 old new none) me n after → HasChanged values limit change row me after
  changed_by {values = values} limit change n old new w row me after e is applied found x = let at = ap state_of (e ∙ is) ∙ state_of_number_of w in record {
    word = w;
    is = found;
    applied = applied;
    made = subst (λ v. Makes values (acts_on change v) v me after) at (x.0 e);
    knows = subst (λ v. Knows (head_of me.0.members).deeds v) at x.2;
  }

  pub ended_after : {values : Values F T} {Row : Type 0} (limit key : ℕ) (change : Attempt Row) (v w : State) (me now after : Me (TaskPlace F T A) View) → key ≡ limit → HasSeen v me now → HasEnded values key change w now after → HasEnded values limit change w me after
  ended_after {values = values} limit key change v w me now after a s c = record {
    at_end = ap (λ l. change.ends l w) (sym a) ∙ c.at_end;
    made = made_of (change.acts_at_end w) w s.tries me after (subst (λ (m : Me (TaskPlace F T A) View). Makes values (change.acts_at_end w) w m after) s.is c.made);
    knows = subst (λ (m : Me (TaskPlace F T A) View). Knows (head_of m.0.members).deeds w) s.is c.knows;
  }

  -- what a later try owes for the shares is what the first one owed
  pub bring_still : {values : Values F T} {Row : Type 0} (limit id other : ℕ) (me now : Me (TaskPlace F T A) View) (change : Attempt Row) (w : State) → other ≡ id → HasSeen w me now → MayBring values limit id me change → MayBring values limit other now change
  bring_still {values = values} limit id other me now change w e s may = subst (λ (z : ℕ × Me (TaskPlace F T A) View). MayBring values limit z.0 z.1 change) (λ i. (sym e i, sym s.is i)) (λ t v applied names. may t v applied names)

  pub give_still : {values : Values F T} {Row : Type 0} (limit key id other : ℕ) (me now : Me (TaskPlace F T A) View) (change : Attempt Row) (w : State) → key ≡ limit → other ≡ id → HasSeen w me now → MayGive values limit id me change → MayGive values key other now change
  give_still {values = values} limit key id other me now change w a e s may = subst (λ (z : ℕ × ℕ × Me (TaskPlace F T A) View). MayGive values z.0 z.1 z.2 change) (λ i. (sym a i, sym e i, sym s.is i)) (λ t v applied names. may t v applied names)

  pub count_still : (values : Values F T) {Row : Type 0} (gives : Bool) (limit key id other : ℕ) (me now : Me (TaskPlace F T A) View) (change : Attempt Row) (w : State) → key ≡ limit → other ≡ id → HasSeen w me now
      → MayCount gives values limit id me change → MayCount gives values key other now change
  count_still values true limit key id other me now change w a e s may = give_still limit key id other me now change w a e s may
  count_still values false limit key id other me now change w a e s may = subst (λ l. MayBring values l other now change) (sym a) (bring_still limit id other me now change w e s may)

  -- what the rule allows a party that stands here, with what its change does to the shares
  pub may_bring_at : {values : Values F T} {Row : Type 0} (limit : ℕ) (p : Party F T A) (at : Position) (held : List (ℕ × TaskPlace F T A)) → StandsWith at held p → (change : Attempt Row) → ((w : State) → change.ends (limit_of p) w ≡ change.ends limit w)
      → OwesChange F T A values limit change at (deeds p) [] held → Moves F T A values limit (λ b _. Brings b) change at (deeds p) [] → OwesEnd F T A values limit change at (deeds p) [] held
      → MayTry values limit 2 p.seat.id p.seat.me change × MayBring values limit p.seat.id p.seat.me change
  may_bring_at {values = values} limit p at held s change same changes moves over = (
    may_at limit p at held s change same changes over,
    subst (λ (m : Me (TaskPlace F T A) View). MayBring values limit p.seat.id m change) (sym s) (may_bring F T A values limit p.seat.id (limit_of p) at (deeds p) [] held change changes moves),
  )

  pub may_give_at : {values : Values F T} {Row : Type 0} (limit : ℕ) (p : Party F T A) (at : Position) (held : List (ℕ × TaskPlace F T A)) → StandsWith at held p → (change : Attempt Row) → ((w : State) → change.ends (limit_of p) w ≡ change.ends limit w)
      → OwesChange F T A values limit change at (deeds p) [] held → Moves F T A values limit Gives change at (deeds p) [] → OwesEnd F T A values limit change at (deeds p) [] held
      → MayTry values limit 2 p.seat.id p.seat.me change × MayGive values limit p.seat.id p.seat.me change
  may_give_at {values = values} limit p at held s change same changes moves over = (
    may_at limit p at held s change same changes over,
    subst (λ (m : Me (TaskPlace F T A) View). MayGive values limit p.seat.id m change) (sym s) (may_give F T A values limit p.seat.id (limit_of p) at (deeds p) [] held change changes moves),
  )

-- by another share of the cell, whose key is the same
module _ {F O A : Type 0} {G : Ghosts F O} where
  pub may_still_by : {Row : Type 0} (terms key : Terms F) (id other : ℕ) (me now : Me (TaskPlace F (Kept F O G) A) View) (change : Attempt Row) (w : State) → key ≡ terms → other ≡ id → HasSeen w me now
      → MayTry (values_of G terms.future.value) terms.limit 2 id me change → MayTry (values_of G key.future.value) key.limit 2 other now change
  may_still_by terms key id other me now change w a e s may = subst (λ (k : Terms F). MayTry (values_of G k.future.value) k.limit 2 other now change) (sym a) (may_still terms.limit terms.limit id other me now change w refl e s may)

  pub count_still_by : {Row : Type 0} (gives : Bool) (terms key : Terms F) (id other : ℕ) (me now : Me (TaskPlace F (Kept F O G) A) View) (change : Attempt Row) (w : State) → key ≡ terms → other ≡ id → HasSeen w me now
      → MayCount gives (values_of G terms.future.value) terms.limit id me change → MayCount gives (values_of G key.future.value) key.limit other now change
  count_still_by gives terms key id other me now change w a e s may = subst (λ (k : Terms F). MayCount gives (values_of G k.future.value) k.limit other now change) (sym a) (count_still (values_of G terms.future.value) gives terms.limit terms.limit id other me now change w refl e s may)

  -- a look by a share of the cell whose key is the same
  pub may_by_key : {Row : Type 0} (terms key : Terms F) (id : ℕ) (me : Me (TaskPlace F (Kept F O G) A) View) (change : Attempt Row) → key ≡ terms → MayTry (values_of G terms.future.value) terms.limit 2 id me change → MayTry (values_of G key.future.value) key.limit 2 id me change
  may_by_key terms key id me change a may = subst (λ (k : Terms F). MayTry (values_of G k.future.value) k.limit 2 id me change) (sym a) may

  pub ended_by_look : {Row : Type 0} (terms key : Terms F) (change : Attempt Row) (w : State) (me after : Me (TaskPlace F (Kept F O G) A) View) → key ≡ terms → HasEnded (values_of G key.future.value) key.limit change w me after → HasEnded (values_of G terms.future.value) terms.limit change w me after
  ended_by_look terms key change w me after a c = subst (λ (k : Terms F). HasEnded (values_of G k.future.value) k.limit change w me after) a c

  -- what is left of another share of the cell is left of this one
  pub left_by : {R Q M B : Type 0} (gives : Bool) (id other : BlockId) (terms key : Terms F) (value another : Cell R Q M B) (maybe : MaybeShare R F Q M A B O G) (counts last : Bool) → (other ≡ id) × (another ≡ value) × (key ≡ terms)
      → HasLeft gives other key another maybe counts last → HasLeft gives id terms value maybe counts last
  left_by {R} {Q} {M} {B} gives id other terms key value another maybe counts last e h = subst (λ (z : BlockId × Terms F × Cell R Q M B). HasLeft gives z.0 z.1 z.2 maybe counts last) (λ i. (e.0 i, e.2 i, e.1 i)) h

  pub changed_by_key : {Row : Type 0} (terms key : Terms F) (change : Attempt Row) (v : State) (row : Row) (me now after : Me (TaskPlace F (Kept F O G) A) View) → key ≡ terms → HasSeen v me now
      → HasChanged (values_of G key.future.value) key.limit change row now after → HasChanged (values_of G terms.future.value) terms.limit change row me after
  changed_by_key terms key change v row me now after a s c = subst (λ (k : Terms F). HasChanged (values_of G k.future.value) k.limit change row me after) a (changed_after key.limit key.limit change v row me now after refl s c)

  pub ended_by_key : {Row : Type 0} (terms key : Terms F) (change : Attempt Row) (v w : State) (me now after : Me (TaskPlace F (Kept F O G) A) View) → key ≡ terms → HasSeen v me now
      → HasEnded (values_of G key.future.value) key.limit change w now after → HasEnded (values_of G terms.future.value) terms.limit change w me after
  ended_by_key terms key change v w me now after a s c = subst (λ (k : Terms F). HasEnded (values_of G k.future.value) k.limit change w me after) a (ended_after key.limit key.limit change v w me now after refl s c)
