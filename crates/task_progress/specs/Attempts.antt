-- Attempts: what parties do in a loop that looks at the word and tries an exchange until it finds the word that it saw.
use Rattle.std.specs.Prelude.{◌≡◌, ℕ, zero, suc, ◌+◌, ◌*◌, ◌≤◌, Bool, true, false, not, if◌then◌else◌, nat_eq, List, [], ◌∷◌, length}
use Rattle.std.specs.Prelude.{Option, Some, None}
use Rattle.task_core.specs.Word.{State, bit, number_of}
use Rattle.task_laws.specs.Machine.{Machine, Step, step, run_from}
use Rattle.task_laws.specs.Laws.{count, is_call_end}
use Rattle.task_core.specs.Rows.{writes_word}
use Rattle.task_progress.specs.StepsLeft.{total, in_call, writes_in}

-- a load; a step, by an exchange that hits or by a fetch; an exchange that misses, and so shows the present word
pub data Attempt : Type 0 where
  Looks : ℕ → Attempt
  Makes : Step → Attempt
  Misses : ℕ → Attempt

-- a machine, and the word that each party saw last
pub record WithSeen : Type 0 where
  pub machine : Machine
  pub seen : ℕ → Option State

-- whether the numbers of two words are equal
abbrev pub is_same_word : State → State → Bool
is_same_word w v = nat_eq (number_of w) (number_of v)

-- party j has seen the word w
abbrev pub sees : (ℕ → Option State) → ℕ → State → ℕ → Option State
sees seen j w i = if nat_eq j i then Some w else seen i

-- a step of party j that is allowed, which shows it the word after it
abbrev pub makes : WithSeen → ℕ → Option Machine → Option WithSeen
makes c j None = None
makes c j (Some m) = Some (record { machine = m; seen = sees c.seen j m.word })

-- an exchange misses only where the word is not the one that was seen
abbrev pub unless_seen : WithSeen → ℕ → Bool → Option WithSeen
unless_seen c j true = None
unless_seen c j false = Some (record { machine = c.machine; seen = sees c.seen j c.machine.word })

-- a miss of party j, which has seen a word before
abbrev pub misses : WithSeen → ℕ → Option State → Option WithSeen
misses c j None = None
misses c j (Some w) = unless_seen c j (is_same_word w c.machine.word)

-- one attempt, where it is allowed
abbrev pub attempt : WithSeen → Attempt → Option WithSeen
attempt c (Looks j) = Some (record { machine = c.machine; seen = sees c.seen j c.machine.word })
attempt c (Makes s) = makes c s.party (step c.machine s)
attempt c (Misses j) = misses c j (c.seen j)

-- a list of attempts, the first one first
abbrev pub attempts_from : Option WithSeen → List Attempt → Option WithSeen
attempts_from c [] = c
attempts_from None (a ∷ attempts) = None
attempts_from (Some c) (a ∷ attempts) = attempts_from (attempt c a) attempts

-- the steps among them
abbrev pub made : List Attempt → List Step
made [] = []
made (Looks j ∷ attempts) = made attempts
made (Makes s ∷ attempts) = s ∷ made attempts
made (Misses j ∷ attempts) = made attempts

-- how often party i misses
abbrev pub misses_of : ℕ → List Attempt → ℕ
misses_of i [] = 0
misses_of i (Looks j ∷ attempts) = misses_of i attempts
misses_of i (Makes s ∷ attempts) = misses_of i attempts
misses_of i (Misses j ∷ attempts) = bit (nat_eq j i) + misses_of i attempts

-- how often other parties than i write the word
abbrev pub writes_by_others : ℕ → List Attempt → ℕ
writes_by_others i [] = 0
writes_by_others i (Looks j ∷ attempts) = writes_by_others i attempts
writes_by_others i (Makes s ∷ attempts) = (if nat_eq s.party i then 0 else bit (writes_word s.act)) + writes_by_others i attempts
writes_by_others i (Misses j ∷ attempts) = writes_by_others i attempts

-- 1 where the word seen is not the present one
abbrev pub is_stale : Option State → State → ℕ
is_stale None w = 0
is_stale (Some v) w = bit (not (is_same_word v w))

-- misses of all parties below n
abbrev pub misses_below : ℕ → List Attempt → ℕ
misses_below zero attempts = 0
misses_below (suc n) attempts = misses_of n attempts + misses_below n attempts

-- what holds of attempts that lead from c to now
pub record AttemptsBounded (c : WithSeen) (attempts : List Attempt) (now : WithSeen) : Type 0 where
  -- the steps among the attempts are a run of the machine
  pub machine : run_from (Some c.machine) (made attempts) ≡ Some now.machine
  -- each party misses at most once for each write of another party, and once more if its word was stale at the start
  pub misses_each : (i : ℕ) → misses_of i attempts + is_stale (now.seen i) now.machine.word
      ≤ is_stale (c.seen i) c.machine.word + writes_by_others i attempts
  -- the calls that ended meanwhile, and those that are open at the end, bound the steps, and the misses of each party
  pub steps : length (made attempts) + 16 * count is_call_end c.machine.trace
      ≤ 16 * (total in_call now.machine.parties + count is_call_end now.machine.trace)
  pub missed : (i : ℕ) → misses_of i attempts + 5 * count is_call_end c.machine.trace
      ≤ 1 + 5 * (total in_call now.machine.parties + count is_call_end now.machine.trace)
  -- and the writes bound the misses of all
  pub all_missed : (n : ℕ) → misses_below n attempts ≤ n * (1 + writes_in (made attempts))

-- from every machine, for every list of attempts: unless calls end, its steps and misses are bounded
abbrev pub LockFree : Type 0
LockFree =
    (c : WithSeen) (attempts : List Attempt) (now : WithSeen) → attempts_from (Some c) attempts ≡ Some now → AttemptsBounded c attempts now

-- from a look of a party on, as it makes in each call that tries an exchange, it misses at most as often as others write the word
abbrev pub MissesAfterLook : Type 0
MissesAfterLook = (c : WithSeen) (i : ℕ) (attempts : List Attempt) (now : WithSeen) → attempts_from (Some c) (Looks i ∷ attempts) ≡ Some now
    → misses_of i attempts ≤ writes_by_others i attempts
