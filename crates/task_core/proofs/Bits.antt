-- A word as a number: its flags read, set and cleared by masks, and its count moved by one.
use Rattle.std.proofs.Common.{◌≡◌, ℕ, ◌+◌, ◌-◌, ◌*◌, ◌/◌, ◌%◌, ◌^◌, ◌<◌, ◌≤◌, Bool, true, false, not, ◌&&◌, ◌||◌, eqb, sym, ap, ◌∙◌, arith, min, max}
use Rattle.std.specs.Prelude.{bit_and, bit_or, nat_eq}
use Rattle.std.specs.Int.{bit_at, w64}
use Rattle.std.proofs.lemmas.Bool.Decides.{nat_tests}
use Rattle.std.proofs.lemmas.Nat.{or_shr, and_shr, and_mask}
use Rattle.std.proofs.lemmas.Nat.Bits.{and_pow, bit_at_or, bit_at_and, bit_at_not, bit_at-lt}
use Rattle.std.specs.Int.Bits.{or_zero_r}
pub use Rattle.task_core.specs.Number.{number_of_state_of}
use Rattle.task_core.specs.Word.{State, bit, flag, number_of, state_of, with_flags, without_flags}

bit-lt : (b : Bool) → bit b < 2
bit-lt true = omega arith
bit-lt false = omega arith

-- a bit is read as it was written
bit_reads : (x : ℕ) (b : Bool) → x ≡ bit b → nat_eq x 1 ≡ b
bit_reads x true e = ap (λ v. nat_eq v 1) e
bit_reads x false e = ap (λ v. nat_eq v 1) e

-- written and read again it is the same word
pub state_of_number_of : (w : State) → state_of (number_of w) ≡ w
state_of_number_of w =
    let n : ℕ = number_of w in
    let l0 = bit-lt w.scheduled in let l1 = bit-lt w.running in let l2 = bit-lt w.completed in let l3 = bit-lt w.closed in
    let l4 = bit-lt w.task in let l5 = bit-lt w.awaiter in let l6 = bit-lt w.registering in let l7 = bit-lt w.notifying in
    let e0 : bit_at n 0 ≡ bit w.scheduled = omega arith in
    let e1 : bit_at n 1 ≡ bit w.running = omega arith in
    let e2 : bit_at n 2 ≡ bit w.completed = omega arith in
    let e3 : bit_at n 3 ≡ bit w.closed = omega arith in
    let e4 : bit_at n 4 ≡ bit w.task = omega arith in
    let e5 : bit_at n 5 ≡ bit w.awaiter = omega arith in
    let e6 : bit_at n 6 ≡ bit w.registering = omega arith in
    let e7 : bit_at n 7 ≡ bit w.notifying = omega arith in
    let r : n / 256 ≡ w.references = omega arith in
    λ i. record {
      scheduled = bit_reads (bit_at n 0) w.scheduled e0 i;
      running = bit_reads (bit_at n 1) w.running e1 i;
      completed = bit_reads (bit_at n 2) w.completed e2 i;
      closed = bit_reads (bit_at n 3) w.closed e3 i;
      task = bit_reads (bit_at n 4) w.task e4 i;
      awaiter = bit_reads (bit_at n 5) w.awaiter e5 i;
      registering = bit_reads (bit_at n 6) w.registering e6 i;
      notifying = bit_reads (bit_at n 7) w.notifying e7 i;
      references = r i;
    }

-- a flag after `|`, and after `& !`
flag-bit_or : (n mask k : ℕ) → flag k (bit_or n mask) ≡ (flag k mask || flag k n)
flag-bit_or n mask k = ap (λ x. nat_eq x 1) (bit_at_or n mask k) ∙ larger (bit_at n k) (bit_at mask k) (bit_at-lt n k) (bit_at-lt mask k)
  where
    larger : (x y : ℕ) → x < 2 → y < 2 → nat_eq (max x y) 1 ≡ (nat_eq y 1 || nat_eq x 1)
    larger x y h l = grind (arith, nat_tests)

flag-bit_and_not : (n mask k : ℕ) → mask < 2 ^ 64 → k < 64 → flag k (bit_and n (2 ^ 64 - 1 - mask)) ≡ (not (flag k mask) && flag k n)
flag-bit_and_not n mask k m h =
    let e : bit_at (bit_and n (2 ^ 64 - 1 - mask)) k ≡ min (bit_at n k) (1 - bit_at mask k) = bit_at_and n (2 ^ 64 - 1 - mask) k ∙ ap (min (bit_at n k)) (bit_at_not w64 mask k m h) in
    ap (λ x. nat_eq x 1) e ∙ smaller (bit_at n k) (bit_at mask k) (bit_at-lt n k) (bit_at-lt mask k)
  where
    smaller : (x y : ℕ) → x < 2 → y < 2 → nat_eq (min x (1 - y)) 1 ≡ (not (nat_eq y 1) && nat_eq x 1)
    smaller x y h l = grind (arith, nat_tests)

-- the word after `|`, and after `& !`
pub state_of-bit_or : (n mask : ℕ) → mask < 256 → state_of (bit_or n mask) ≡ with_flags mask (state_of n)
state_of-bit_or n mask h =
    let none : mask / 256 ≡ 0 = omega arith in
    let r : bit_or n mask / 256 ≡ n / 256 = or_shr n mask 8 ∙ ap (bit_or (n / 256)) none ∙ or_zero_r (n / 256) in
    λ i. record {
      scheduled = flag-bit_or n mask 0 i;
      running = flag-bit_or n mask 1 i;
      completed = flag-bit_or n mask 2 i;
      closed = flag-bit_or n mask 3 i;
      task = flag-bit_or n mask 4 i;
      awaiter = flag-bit_or n mask 5 i;
      registering = flag-bit_or n mask 6 i;
      notifying = flag-bit_or n mask 7 i;
      references = r i;
    }

pub state_of-bit_and_not : (n mask : ℕ) → n < 2 ^ 64 → mask < 256 → state_of (bit_and n (2 ^ 64 - 1 - mask)) ≡ without_flags mask (state_of n)
state_of-bit_and_not n mask l h =
    let high : (2 ^ 64 - 1 - mask) / 256 ≡ 2 ^ 56 - 1 = omega arith in
    let whole : n / 256 % 2 ^ 56 ≡ n / 256 = omega arith in
    let r : bit_and n (2 ^ 64 - 1 - mask) / 256 ≡ n / 256 = and_shr n (2 ^ 64 - 1 - mask) 8 ∙ ap (bit_and (n / 256)) high ∙ and_mask (n / 256) 56 ∙ whole in
    let m : mask < 2 ^ 64 = omega arith in
    λ i. record {
      scheduled = flag-bit_and_not n mask 0 m (omega arith) i;
      running = flag-bit_and_not n mask 1 m (omega arith) i;
      completed = flag-bit_and_not n mask 2 m (omega arith) i;
      closed = flag-bit_and_not n mask 3 m (omega arith) i;
      task = flag-bit_and_not n mask 4 m (omega arith) i;
      awaiter = flag-bit_and_not n mask 5 m (omega arith) i;
      registering = flag-bit_and_not n mask 6 m (omega arith) i;
      notifying = flag-bit_and_not n mask 7 m (omega arith) i;
      references = r i;
    }

-- the same, on the number
pub number_of-with_flags : (n mask : ℕ) → mask < 256 → bit_or n mask ≡ number_of (with_flags mask (state_of n))
number_of-with_flags n mask h = sym (number_of_state_of (bit_or n mask)) ∙ ap number_of (state_of-bit_or n mask h)

pub number_of-without_flags : (n mask : ℕ) → n < 2 ^ 64 → mask < 256 → bit_and n (2 ^ 64 - 1 - mask) ≡ number_of (without_flags mask (state_of n))
number_of-without_flags n mask l h = sym (number_of_state_of (bit_and n (2 ^ 64 - 1 - mask))) ∙ ap number_of (state_of-bit_and_not n mask l h)

-- what `fetch_or`, `fetch_and` and `fetch_sub` leave in memory, by the flags that they write
pub fetch_or-closed : (n : ℕ) → bit_or n 8 ≡ number_of (record (state_of n) { closed = true })
fetch_or-closed n = number_of-with_flags n 8 (omega arith)

pub fetch_or-notifying : (n : ℕ) → bit_or n 128 ≡ number_of (record (state_of n) { notifying = true })
fetch_or-notifying n = number_of-with_flags n 128 (omega arith)

pub fetch_and-scheduled : (n : ℕ) → n < 2 ^ 64 → bit_and n 18446744073709551614 ≡ number_of (record (state_of n) { scheduled = false })
fetch_and-scheduled n l = number_of-without_flags n 1 l (omega arith)

pub fetch_and-scheduled_running : (n : ℕ) → n < 2 ^ 64 → bit_and n 18446744073709551612 ≡ number_of (record (state_of n) { scheduled = false; running = false })
fetch_and-scheduled_running n l = number_of-without_flags n 3 l (omega arith)

pub fetch_and-task : (n : ℕ) → n < 2 ^ 64 → bit_and n 18446744073709551599 ≡ number_of (record (state_of n) { task = false })
fetch_and-task n l = number_of-without_flags n 16 l (omega arith)

pub fetch_and-awaiter_registering_notifying : (n : ℕ) → n < 2 ^ 64 → bit_and n 18446744073709551391 ≡ number_of (record (state_of n) { awaiter = false; registering = false; notifying = false })
fetch_and-awaiter_registering_notifying n l = number_of-without_flags n 224 l (omega arith)

pub fetch_and-awaiter_notifying : (n : ℕ) → n < 2 ^ 64 → bit_and n 18446744073709551455 ≡ number_of (record (state_of n) { awaiter = false; notifying = false })
fetch_and-awaiter_notifying n l = number_of-without_flags n 160 l (omega arith)

-- a reference more, and a reference less
pub number_of-reference_gained : (n : ℕ) → n + 256 ≡ number_of (record (state_of n) { references = (state_of n).references + 1 })
number_of-reference_gained n = let e = number_of_state_of n in omega arith

pub number_of-reference_given_up : (n : ℕ) → 256 ≤ n → n - 256 ≡ number_of (record (state_of n) { references = (state_of n).references - 1 })
number_of-reference_given_up n h = let e = number_of_state_of n in omega arith

pub fetch_sub-reference : (n : ℕ) → n < 2 ^ 64 → 1 ≤ (state_of n).references → (n + (2 ^ 64 - 256)) % 2 ^ 64 ≡ number_of (record (state_of n) { references = (state_of n).references - 1 })
fetch_sub-reference n l h =
    let counted : 256 ≤ n = omega arith in
    let e : (n + (2 ^ 64 - 256)) % 2 ^ 64 ≡ n - 256 = omega arith in
    e ∙ number_of-reference_given_up n counted

-- a flag is tested by its mask
bit_and-tells : (x m : ℕ) → x < 2 → 0 < m → not (eqb (x * m) 0) ≡ eqb x 1
bit_and-tells x m h p = grind (arith, nat_tests)

flag-tested : (n k : ℕ) → 0 < 2 ^ k → not (eqb (bit_and n (2 ^ k)) 0) ≡ flag k n
flag-tested n k p = ap (λ x. not (eqb x 0)) (and_pow n k) ∙ bit_and-tells (bit_at n k) (2 ^ k) (bit_at-lt n k) p

-- what the code does on the number of a word, seen on the word
module _ (n : ℕ) (w : State) (e : state_of n ≡ w) where
  pub number_is : n ≡ number_of w
  number_is = sym (number_of_state_of n) ∙ ap number_of e

  pub running_tested : not (eqb (bit_and n 2) 0) ≡ w.running
  running_tested = flag-tested n 1 (omega arith) ∙ ap (λ (w : State). w.running) e

  pub completed_tested : not (eqb (bit_and n 4) 0) ≡ w.completed
  completed_tested = flag-tested n 2 (omega arith) ∙ ap (λ (w : State). w.completed) e

  pub closed_tested : not (eqb (bit_and n 8) 0) ≡ w.closed
  closed_tested = flag-tested n 3 (omega arith) ∙ ap (λ (w : State). w.closed) e

  pub task_tested : not (eqb (bit_and n 16) 0) ≡ w.task
  task_tested = flag-tested n 4 (omega arith) ∙ ap (λ (w : State). w.task) e

  pub awaiter_tested : not (eqb (bit_and n 32) 0) ≡ w.awaiter
  awaiter_tested = flag-tested n 5 (omega arith) ∙ ap (λ (w : State). w.awaiter) e

  pub registering_tested : not (eqb (bit_and n 64) 0) ≡ w.registering
  registering_tested = flag-tested n 6 (omega arith) ∙ ap (λ (w : State). w.registering) e

  pub notifying_tested : not (eqb (bit_and n 128) 0) ≡ w.notifying
  notifying_tested = flag-tested n 7 (omega arith) ∙ ap (λ (w : State). w.notifying) e

  pub flags_set : (mask : ℕ) → mask < 256 → state_of (bit_or n mask) ≡ with_flags mask w
  flags_set mask h = state_of-bit_or n mask h ∙ ap (with_flags mask) e

  pub flags_cleared : (mask : ℕ) → n < 2 ^ 64 → mask < 256 → state_of (bit_and n (2 ^ 64 - 1 - mask)) ≡ without_flags mask w
  flags_cleared mask l h = state_of-bit_and_not n mask l h ∙ ap (without_flags mask) e

  pub reference_gained : state_of (n + 256) ≡ record w { references = w.references + 1 }
  reference_gained =
      ap state_of (number_of-reference_gained n) ∙ state_of_number_of (record (state_of n) { references = n / 256 + 1 })
      ∙ ap (λ (v : State). record v { references = v.references + 1 }) e

-- all of these, for the functions that read and write the number
pub ruleset words = (number_is, running_tested, completed_tested, closed_tested, task_tested, awaiter_tested, registering_tested, notifying_tested, flags_set, flags_cleared, reference_gained)
