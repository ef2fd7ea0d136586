-- What a party does that tries to change the word by compare and exchange, and what it has seen meanwhile.
use Rattle.std.specs.Prelude.{◌⊎◌, ◌≡◌, ◌≢◌, ℕ, ◌+◌, ◌≤◌, ◌<◌, ◌==◌, true, false, ◌||◌, ◌∷◌, Option, Some, None, ⊤}
use mathlib.Core.Option.{none}
use prog.Atomic.{either}
use Rattle.atomic_table.specs.Table.{Me, Step, step, Allows}
use Rattle.task_core.specs.Word.{HasRoom, State, bit, state_of, number_of}
use Rattle.task_laws.specs.Asks.{is_held}
use Rattle.task_steps.specs.declared.attempt.TriedOnce.{TriedOnce}
use Rattle.task_steps.specs.declared.attempt.TriedOnce.TheVariants.{Made, Ended, Again}
use Rattle.task_steps.specs.declared.table.Tries.{Tries}
use Rattle.task_steps.specs.declared.table.View.{View}
use Rattle.task_steps.specs.Values.{Values}
use Rattle.task_steps.specs.Rule.{TaskPlace, view, trying, differ, RuleHolds}
use Rattle.task_steps.specs.Steps.{head_of, tail_of, Makes}
use Rattle.task_steps.specs.Knows.{Knows}
use Rattle.task_steps.specs.Attempt.{Attempt, word_after, acts_on}

-- after a step that found this word, and changed nothing: one miss more, where the party had seen another word
abbrev pub tries_after : State → Option Tries → Option Tries
tries_after w None = Some (record { seen = w; misses = 0 })
tries_after w (Some t) = Some (record { seen = w; misses = t.misses + bit (differ t.seen w) })

-- how many words the party has seen, each another than the one before: the first, and one for each miss
abbrev pub looks_of : Option Tries → ℕ
looks_of None = 0
looks_of (Some t) = t.misses + 1

-- the word that an exchange names is the one that its party saw last
abbrev pub Names : State → Option Tries → Type 0
Names w None = Unit {0}
Names w (Some t) = t.seen ≡ w

-- the seat whose first party has seen this
abbrev pub having_seen : Option Tries → View → View
having_seen t v = view v.limit (trying (head_of v.members).at (head_of v.members).deeds t ∷ tail_of v.members)

-- each word that shows a handle lets the attempt make its change, or ends it
abbrev pub Decides : {Row : Type 0} → ℕ → Attempt Row → Type 0
Decides limit a = (w : State) → is_held w ≡ true → (a.applies limit w || a.ends limit w) ≡ true

-- this word does neither, though it shows a handle
abbrev pub IsUndecided : {Row : Type 0} → ℕ → Attempt Row → State → Type 0
IsUndecided limit a w = (is_held w ≡ true) × ((a.applies limit w || a.ends limit w) ≡ false)

module _ {F T A : Type 0} where
  -- what a load of an attempt tells: where the word ends the attempt, the acts of that end
  abbrev pub observed : {Row : Type 0} → Values F T → Attempt Row → Step (TaskPlace F T A) → Me (TaskPlace F T A) View → ℕ → Me (TaskPlace F T A) View → Type 0
  observed values a st m r m' = (a.ends m.0.limit (state_of r) ≡ true → Makes values (a.acts_at_end (state_of r)) (state_of r) m m')
      × (a.ends m.0.limit (state_of r) ≡ false → m' ≡ (having_seen (tries_after (state_of r) (head_of m.0.members).tries) m.0, m.1))
      × Knows (head_of m.0.members).deeds (state_of r)

  -- what an exchange of an attempt tells: where it finds the word that it names, the acts of the change
  abbrev pub attempted : {Row : Type 0} → Values F T → Attempt Row → Step (TaskPlace F T A) → Me (TaskPlace F T A) View → ℕ → Me (TaskPlace F T A) View → Type 0
  attempted values a st m r m' = (r ≡ st.first → Makes values (acts_on a (state_of r)) (state_of r) m m')
      × (r ≢ st.first → m' ≡ (having_seen (tries_after (state_of r) (head_of m.0.members).tries) m.0, m.1))
      × Knows (head_of m.0.members).deeds (state_of r)

  -- the rule allows each load and each exchange of an attempt, whatever the party has seen
  pub record MayTry {Row : Type 0} (values : Values F T) (limit slots id : ℕ) (me : Me (TaskPlace F T A) View) (a : Attempt Row) : Type 0 where
    pub loads : (t : Option Tries)
        → Allows (RuleHolds {A = A} values limit) slots id (having_seen t me.0, me.1) 0 (λ n. n)
        (observed values a (step slots 0 0 0 none) (having_seen t me.0, me.1))
    pub exchanges : (t : Option Tries) (w : State) → a.applies limit w ≡ true → Names w t
        → Allows (RuleHolds {A = A} values limit) slots id (having_seen t me.0, me.1) 0
        (λ n. either (n == number_of w) (number_of (word_after w (acts_on a w))) n)
        (attempted values a (step slots 0 (number_of w) (number_of (word_after w (acts_on a w))) none) (having_seen t me.0, me.1))

  -- an attempt has made its change on a word of this row
  pub record HasChanged {Row : Type 0} (values : Values F T) (limit : ℕ) (a : Attempt Row) (row : Row) (me me' : Me (TaskPlace F T A) View) : Type 0 where
    pub word : State
    pub is : row ≡ a.row word
    pub applied : a.applies limit word ≡ true
    pub made : Makes values (acts_on a word) word me me'
    pub knows : Knows (head_of me.0.members).deeds word

  -- this word has ended an attempt
  pub record HasEnded {Row : Type 0} (values : Values F T) (limit : ℕ) (a : Attempt Row) (w : State) (me me' : Me (TaskPlace F T A) View) : Type 0 where
    pub at_end : a.ends limit w ≡ true
    pub made : Makes values (a.acts_at_end w) w me me'
    pub knows : Knows (head_of me.0.members).deeds w

  -- or the seat is as it was, but for what it has seen, which is this word
  pub record HasSeen (w : State) (me me' : Me (TaskPlace F T A) View) : Type 0 where
    pub tries : Option Tries
    pub names : Names w tries
    pub is : me' ≡ (having_seen tries me.0, me.1)

  -- what one try of a change has come to
  abbrev pub HasTried : {Row M K : Type 0} → Values F T → ℕ → Attempt Row → TriedOnce Row M K → Me (TaskPlace F T A) View → Me (TaskPlace F T A) View → Type 0
  HasTried values limit a (Made row m) me me' = HasChanged values limit a row me me'
  HasTried values limit a (Ended w k) me me' = HasEnded values limit a w me me'
  HasTried values limit a (Again w k) me me' = HasRoom w × HasSeen w me me'

  -- this word is what the party has seen next
  abbrev pub HasFound : State → Me (TaskPlace F T A) View → Me (TaskPlace F T A) View → Type 0
  HasFound w me me' = (head_of me'.0.members).tries ≡ tries_after w (head_of me.0.members).tries

  -- a try on the word v has found w next: another word, or one that leaves it undecided
  abbrev pub TriesOn : {Row : Type 0} → ℕ → Attempt Row → State → State → Me (TaskPlace F T A) View → Me (TaskPlace F T A) View → Type 0
  TriesOn limit a v w me me' = HasFound w me me' × ((v ≢ w) ⊎ IsUndecided limit a w)

  -- since then the party has seen at least this many words more, each another than the one before
  abbrev pub HasLooked : ℕ → Me (TaskPlace F T A) View → Me (TaskPlace F T A) View → Type 0
  HasLooked n me me' = looks_of (head_of me.0.members).tries + n ≤ looks_of (head_of me'.0.members).tries

  -- it has missed at least this often
  abbrev pub HasMissed : ℕ → Me (TaskPlace F T A) View → Type 0
  HasMissed n me = n < looks_of (head_of me.0.members).tries

-- where it was made, or was not, this holds of what is answered
abbrev pub IfMade : {Row M K : Type 0} → TriedOnce Row M K → (Row → M → Type 0) → (K → Type 0) → Type 0
IfMade (Made row m) made kept = made row m
IfMade (Ended w k) made kept = kept k
IfMade (Again w k) made kept = kept k

-- where it is to be tried again, this holds of the word that was found
abbrev pub IfAgain : {Row M K : Type 0} → TriedOnce Row M K → (State → Type 0) → Type 0
IfAgain (Made row m) found = ⊤
IfAgain (Ended w k) found = ⊤
IfAgain (Again w k) found = found w
