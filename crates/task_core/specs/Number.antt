-- 4 of 6: a number in memory and the word that it is read as say the same.
use Rattle.std.specs.Prelude.{◌≡◌, ℕ, ◌+◌, ◌*◌, ◌/◌, ◌%◌, ◌^◌, ◌<◌, nat_eq, refl}
use Rattle.std.proofs.Common.{zero, suc, sym, ap, ◌∙◌, add_assoc}
use Rattle.std.proofs.Math.Nat.{mul_assoc, mul-add, mod-add-div, div-one, not-suc-le-zero, le_of_suc-le-suc}
use Rattle.std.proofs.lemmas.Nat.{shr-shr}
use Rattle.std.proofs.lemmas.Nat.Bits.{bit_at-lt}
use Rattle.task_core.specs.Word.{bit, flag, number_of, state_of}

-- 0 and 1 are bits
bit-nat_eq : (x : ℕ) → x < 2 → bit (nat_eq x 1) ≡ x
bit-nat_eq zero h = refl
bit-nat_eq (suc zero) h = refl
bit-nat_eq (suc (suc x)) h = absurd (not-suc-le-zero (le_of_suc-le-suc (le_of_suc-le-suc h)))

-- a flag is the bit at its place
bit-flag : (n k : ℕ) → bit (flag k n) ≡ n / 2 ^ k % 2
bit-flag n k = bit-nat_eq (n / 2 ^ k % 2) (bit_at-lt n k)

-- the bit at a place, and all that stands above it, are all that stands from that place on
bit-above : (n k p x : ℕ) → x + p * bit (flag k n) + p * 2 * (n / 2 ^ (k + 1)) ≡ x + p * (n / 2 ^ k)
bit-above n k p x =
    let y : ℕ = n / 2 ^ k in
    ap (λ b. x + p * b + p * 2 * (n / 2 ^ (k + 1))) (bit-flag n k)
    ∙ ap (λ q. x + p * (y % 2) + p * 2 * q) (sym (shr-shr n k 1))
    ∙ add_assoc x (p * (y % 2)) (p * 2 * (y / 2))
    ∙ ap (λ v. x + (p * (y % 2) + v)) (mul_assoc p 2 (y / 2))
    ∙ ap (λ v. x + v) (sym (mul-add p (y % 2) (2 * (y / 2))))
    ∙ ap (λ v. x + p * v) (mod-add-div y 2)

-- read as a word and written again it is the same number
pub number_of_state_of : (n : ℕ) → number_of (state_of n) ≡ n
number_of_state_of n =
    bit-above n 7 128 _ ∙ bit-above n 6 64 _ ∙ bit-above n 5 32 _ ∙ bit-above n 4 16 _ ∙ bit-above n 3 8 _ ∙ bit-above n 2 4 _
    ∙ bit-above n 1 2 _
    ∙ ap (λ b. b + 2 * (n / 2)) (bit-flag n 0) ∙ ap (λ m. m % 2 + 2 * (n / 2)) (div-one n) ∙ mod-add-div n 2
