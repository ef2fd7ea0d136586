-- The rule of sleep of n workers, and what each step on it tells.
use Rattle.std.specs.Prelude.{◌≡◌, ◌≢◌, ℕ, zero, suc, ◌+◌, ◌*◌, ◌<◌, ◌≤◌, ◌⊎◌, List, [], ◌∷◌, length, slice_index}
use mathlib.Core.Option.{some}
use lib.ListN.{get_elem?}
use Rattle.atomic_table.specs.Table.{State, Me, Step}
use Rattle.work_queues.specs.declared.view.View.{View}

-- how far apart words are: one that is used, and others that give it a cache line of its own
abbrev pub padding : ℕ
padding = 16

-- the word of a flag: flags up to n are those of queues, and n + 1 is that of interruptions
abbrev pub flag_word : ℕ → ℕ
flag_word i = padding * i

-- the word of worker j, behind those of the flags
abbrev pub worker_word : ℕ → ℕ → ℕ
worker_word n j = padding * (n + 2 + j)

-- the word that shows whether a worker searches, behind those that a seat can have the right to
abbrev pub searcher_word : ℕ → ℕ
searcher_word n = padding * (n + n + 2)

-- the word that shows how many workers count as sleepers
abbrev pub sleepers_word : ℕ → ℕ
sleepers_word n = padding * (n + n + 3)

-- how many words there are
abbrev pub word_count : ℕ → ℕ
word_count n = padding * (n + n + 4)

-- a flag shows nothing
abbrev pub hidden : ℕ
hidden = 0

-- a flag shows something
abbrev pub shown : ℕ
shown = 1

-- a worker is awake
abbrev pub awake : ℕ
awake = 0

-- a worker is asleep
abbrev pub asleep : ℕ
asleep = 1

-- a worker is awake, and was interrupted
abbrev pub interrupted : ℕ
interrupted = 2

-- a worker was asleep, and a wake is on its way to it
abbrev pub woken : ℕ
woken = 3

-- nobody has the right to the word of a flag or a worker
abbrev pub free : ℕ
free = 4

-- what a seat has, owes and knows, by its numbers
abbrev pub view : ℕ → ℕ → ℕ → ℕ → ℕ → ℕ → ℕ → ℕ → ℕ → View
view right value owes seen from searching asleep interruption interrupted = record { right = right; value = value; owes = owes; seen = seen; from = from; searching = searching; asleep = asleep; interruption = interruption; interrupted = interrupted }

-- a seat that has no right, owes no look and knows nothing
abbrev pub blank : View
blank = view 0 0 0 0 0 0 0 0 0

-- what a seat knows of the interruption: it was due, it was not, or this seat has taken it and owes an answer
abbrev pub due : ℕ
due = 1

-- it was not due
abbrev pub not_due : ℕ
not_due = 2

-- this seat has taken it, and owes an answer
abbrev pub taken : ℕ
taken = 3

-- one word by its number, where 0 is none
abbrev pub this : ℕ → ℕ
this word = suc word

-- the right to the word of this number: a flag that shows it, or a worker
abbrev pub has_right : ℕ → ℕ → View
has_right word value = view (this word) value 0 0 0 0 0 0 0

-- a look is owed at each flag and at each worker
abbrev pub owing : View → View
owing v = view v.right v.value 1 0 0 v.searching v.asleep v.interruption v.interrupted

-- it has woken the worker that it interrupted
abbrev pub roused : ℕ
roused = 4

-- no look is owed
abbrev pub paid : View → View
paid v = view v.right v.value 0 0 0 v.searching v.asleep v.interruption v.interrupted

-- still owed: a look at the flags from the first of these on, for the workers from the second on
abbrev pub left_of : View → ℕ → ℕ → View
left_of v seen from = view v.right v.value 1 seen from v.searching v.asleep v.interruption v.interrupted

-- it has looked at the flags below this one
abbrev pub sees : View → ℕ → View
sees v seen = view v.right v.value v.owes seen v.from v.searching v.asleep v.interruption v.interrupted

-- it is the searcher, at 1, or is not, at 0
abbrev pub searches : View → ℕ → View
searches v searching = view v.right v.value v.owes v.seen v.from searching v.asleep v.interruption v.interrupted

-- it counts as no sleeper, at 0, as one, at 1, or put the worker of this word to sleep, or found it interrupted, at one more
abbrev pub sleeps : View → ℕ → View
sleeps v sleep = view v.right v.value v.owes v.seen v.from v.searching sleep v.interruption v.interrupted

-- it knows this of the interruption
abbrev pub knows : View → ℕ → View
knows v interruption = view v.right v.value v.owes v.seen v.from v.searching v.asleep interruption v.interrupted

-- it has interrupted the worker that has the word of this number
abbrev pub interrupts : View → ℕ → View
interrupts v word = view v.right v.value v.owes v.seen v.from v.searching v.asleep v.interruption (this word)

-- 1 for a seat that counts as a sleeper
abbrev pub one : ℕ → ℕ
one zero = 0
one (suc k) = 1

-- how many seats count as sleepers
abbrev pub sleepers : List View → ℕ
sleepers [] = 0
sleepers (v ∷ vs) = one v.asleep + sleepers vs

-- some seat is such
abbrev pub AnySeat : (View → Type 0) → List View → Type 0
AnySeat P views = (port : ℕ) × (v : View) × (get_elem? views port ≡ some v) × P v

-- it is the searcher
abbrev pub Searches : View → Type 0
Searches v = v.searching ≡ 1

-- it put this worker of n to sleep
abbrev pub Sleeps : ℕ → ℕ → View → Type 0
Sleeps n j v = v.asleep ≡ this (worker_word n j)

-- it owes this flag a look for this worker
abbrev pub Owes : ℕ → ℕ → View → Type 0
Owes i j v = (v.owes ≡ 1) × (v.seen ≤ i) × (v.from ≤ j)

-- a wake is on its way to a worker
abbrev pub IsWoken : ℕ → List ℕ → Type 0
IsWoken n words = (k : ℕ) × (k < n) × (slice_index words (worker_word n k) ≡ woken)

module _ {S : Type 0} where
  -- the rule: no worker sleeps on while an item is shown or an interruption due, unless a wake, a search or a look is to come
  pub record Watch (n : ℕ) (s : State S View) : Type 0 where
    pub sized : length s.words ≡ word_count n
    -- nobody has the right to a word that shows so
    pub unowned : (x port : ℕ) (v : View) → x < searcher_word n → slice_index s.words x ≡ free → get_elem? s.views port ≡ some v → v.right ≢ this x
    -- no two have the right to one word
    pub alone : (x port other : ℕ) (v w : View) → get_elem? s.views port ≡ some v → get_elem? s.views other ≡ some w → v.right ≡ this x → w.right ≡ this x → port ≡ other
    -- who has the right to the flag of a queue knows what it shows
    pub known : (i port : ℕ) (v : View) → i ≤ n → get_elem? s.views port ≡ some v → v.right ≡ this (flag_word i) → slice_index s.words (flag_word i) ≡ v.value
    -- while the word says that a worker searches, a seat is the searcher
    pub named : slice_index s.words (searcher_word n) ≢ 0 → AnySeat Searches s.views
    pub counted : sleepers s.views ≡ slice_index s.words (sleepers_word n)
    -- a seat put the worker to sleep that is asleep
    pub lain : (j : ℕ) → j < n → slice_index s.words (worker_word n j) ≡ asleep → AnySeat (Sleeps n j) s.views
    -- while a queue shows an item, or an interruption is due, and a worker sleeps: a wake is on its way to a worker, or one searches, or somebody owes that flag a look for the sleeper
    pub watched : (i j : ℕ) → i ≤ suc n → j < n → slice_index s.words (flag_word i) ≡ shown → slice_index s.words (worker_word n j) ≡ asleep → IsWoken n s.words ⊎ (AnySeat Searches s.views ⊎ AnySeat (Owes i j) s.views)

  -- a load or an exchange that changes the seat only where it found this number
  abbrev pub Finds : ℕ → (View → View) → (View → View) → Me S View → ℕ → Me S View → Type 0
  Finds sought hit miss before found after = (found ≡ sought → after ≡ (hit before.0, before.1)) × (found ≢ sought → after ≡ (miss before.0, before.1))

  -- a load makes a seat, which owes nothing
  abbrev pub Enters : Step S → Me S View → ℕ → Me S View → Type 0
  Enters step before found after = after ≡ (blank, [])

  -- a load makes a seat, which owes all looks
  abbrev pub EntersOwing : Step S → Me S View → ℕ → Me S View → Type 0
  EntersOwing step before found after = after ≡ (owing blank, [])

  -- the seat has the right to a word that nobody had
  abbrev pub Takes : Step S → Me S View → ℕ → Me S View → Type 0
  Takes step before found after = Finds step.first (λ v. has_right step.word 0) (λ v. v) before found after

  -- the right to a word is given back, and all looks are owed
  abbrev pub GivesBack : Step S → Me S View → ℕ → Me S View → Type 0
  GivesBack step before found after = after ≡ (owing blank, before.1)

  -- the flag of a queue shows an item, and all looks are owed
  abbrev pub Shows : Step S → Me S View → ℕ → Me S View → Type 0
  Shows step before found after = after ≡ (owing (has_right step.word shown), before.1)

  -- the flag of a queue shows no item
  abbrev pub Hides : Step S → Me S View → ℕ → Me S View → Type 0
  Hides step before found after = after ≡ (has_right step.word hidden, before.1)

  -- an interruption is due, and all looks are owed
  abbrev pub Interrupts : Step S → Me S View → ℕ → Me S View → Type 0
  Interrupts step before found after = (step.first ≡ shown) × (after ≡ (owing (knows before.0 due), before.1))

  -- a look whether an interruption is due
  abbrev pub LooksWhetherDue : Step S → Me S View → ℕ → Me S View → Type 0
  LooksWhetherDue step before found after = Finds shown (λ v. knows v due) (λ v. knows v not_due) before found after

  -- the interruption that was due is taken
  abbrev pub Hears : Step S → Me S View → ℕ → Me S View → Type 0
  Hears step before found after = after ≡ (knows before.0 taken, before.1)

  -- unless the worker was asleep, it was interrupted: where it was awake, its word says so
  abbrev pub Permits : Step S → Me S View → ℕ → Me S View → Type 0
  Permits step before found after = (step.first ≡ awake) × (step.second ≡ interrupted) × Finds asleep (λ v. v) (λ v. interrupts v step.word) before found after

  -- the worker was interrupted: where it was asleep, its word says woken, which the seat knows
  abbrev pub Rouses : Step S → Me S View → ℕ → Me S View → Type 0
  Rouses step before found after = (step.first ≡ asleep) × (step.second ≡ woken) × Finds asleep (λ v. knows (interrupts v step.word) roused) (λ v. interrupts v step.word) before found after

  -- a look whether a worker sleeps: where none does, no look is owed, and else all are
  abbrev pub LooksForSleepers : Step S → Me S View → ℕ → Me S View → Type 0
  LooksForSleepers step before found after = Finds 0 paid owing before found after

  -- a look whether a worker searches: where one does, no look is owed
  abbrev pub LooksForSearcher : Step S → Me S View → ℕ → Me S View → Type 0
  LooksForSearcher step before found after = (found ≡ 0 → after ≡ before) × (found ≢ 0 → after ≡ (paid before.0, before.1))

  -- a look at one worker: where it is not asleep, the next one is due
  abbrev pub LooksAtWorker : Step S → Me S View → ℕ → Me S View → Type 0
  LooksAtWorker step before found after = Finds asleep (λ v. v) (λ v. left_of v v.seen (suc v.from)) before found after

  -- a worker that sleeps is woken, and no look is owed; where it was not asleep, the next one is due
  abbrev pub Wakes : Step S → Me S View → ℕ → Me S View → Type 0
  Wakes step before found after = Finds asleep paid (λ v. left_of v v.seen (suc v.from)) before found after

  -- a look at one flag: where it shows nothing, the next one is due
  abbrev pub LooksAtFlag : Step S → Me S View → ℕ → Me S View → Type 0
  LooksAtFlag step before found after = Finds shown (λ v. v) (λ v. sees v (suc v.seen)) before found after

  -- all looks that were owed are done, at the flags that it has looked at
  abbrev pub Settles : Step S → Me S View → ℕ → Me S View → Type 0
  Settles step before found after = after ≡ (sees (paid before.0) before.0.seen, before.1)

  -- a worker is the searcher, where there was none
  abbrev pub BeginsSearch : Step S → Me S View → ℕ → Me S View → Type 0
  BeginsSearch step before found after = Finds 0 (λ v. searches v 1) (λ v. v) before found after

  -- there is no searcher from here on, and all looks are owed
  abbrev pub EndsSearch : Step S → Me S View → ℕ → Me S View → Type 0
  EndsSearch step before found after = after ≡ (owing (searches before.0 0), before.1)

  -- a worker counts as a sleeper
  abbrev pub Counts : Step S → Me S View → ℕ → Me S View → Type 0
  Counts step before found after = Finds step.first (λ v. sleeps v 1) (λ v. v) before found after

  -- a worker is asleep, and all looks are owed, unless it was interrupted, which the seat knows
  abbrev pub LiesDown : Step S → Me S View → ℕ → Me S View → Type 0
  LiesDown step before found after = Finds awake (λ v. owing (sleeps v (this step.word))) (λ v. sleeps v (suc (this step.word))) before found after

  -- a worker is awake, and all looks are owed
  abbrev pub GetsUp : Step S → Me S View → ℕ → Me S View → Type 0
  GetsUp step before found after = after ≡ (owing (sleeps before.0 1), before.1)

  -- a worker counts as no sleeper
  abbrev pub CountsNot : Step S → Me S View → ℕ → Me S View → Type 0
  CountsNot step before found after = after ≡ (sleeps before.0 0, before.1)
