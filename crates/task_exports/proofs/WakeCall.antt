-- What a wake and a gain come to for their caller.
use Rattle.std.proofs.Common.{◌≡◌, ℕ, true, refl, sym, ◌∙◌}
use Rattle.task_cell.specs.Calls.{Stands}
use Rattle.task_exports.proofs.Numbers.{differs}
use Rattle.task_exports.specs.Answers.{Gains, IsFull, Wakes, at_limit, delivers, gain_missed, gains, nothing, wake_missed}
use Rattle.task_exports.specs.CallPaths.{Woke, hands_none}
use Rattle.task_exports.specs.Hands.{SameBits, SameCell}
use Rattle.task_exports.specs.declared.hand.Hand.{Hand}
use Rattle.task_exports.specs.declared.handle.Handle.{Handle}
use Rattle.task_steps.specs.Standing.{as_runnable, as_waker}

-- the Runnable of a wake
pub to_schedule : (x : Hand) (k : Handle) (n : ℕ) → k.there ≡ true → Wakes x k.hand n → n ≡ 10 → IsFull k × Stands as_runnable k.hand.party
to_schedule x k _ there (wake_missed m) e = differs 0 10 refl refl e
to_schedule x k _ there (nothing path p r) e = differs 12 10 refl refl e
to_schedule x k _ there (delivers live same at) e = ((there, live), at)

-- a wake that brings none
pub nothing_due : (Scheduled : Type 0) (x : Hand) (k : Handle) (n : ℕ) → k.there ≡ true → Wakes x k.hand n → n ≡ 12 → Woke Scheduled x k
nothing_due Scheduled x k _ there (wake_missed m) e = differs 0 12 refl refl e
nothing_due Scheduled x k _ there (nothing path p r) e = hands_none path p there r
nothing_due Scheduled x k _ there (delivers live same at) e = differs 10 12 refl refl e

-- the waker of a gain
pub is_cloned : (x : Hand) (k : Handle) (n : ℕ) → k.there ≡ true → Gains x k.hand n → n ≡ 12 → IsFull k × SameCell k.hand x × Stands as_waker k.hand.party
is_cloned x k _ there (gain_missed m) e = differs 0 12 refl refl e
is_cloned x k _ there (at_limit path p r) e = differs 13 12 refl refl e
is_cloned x k _ there (gains live same at) e = ((there, live), same, at)

-- what a wake has brought has the bits of the hand that was lent, and so does what a gain has brought
pub woken_bits : (x y k : Hand) (n : ℕ) → SameBits x y → Wakes x k n → SameBits y k
woken_bits x y k _ b (wake_missed m) = m.1.0 ∙ sym b
woken_bits x y k _ b (nothing path p r) = r.0.1 ∙ sym b
woken_bits x y k _ b (delivers live same at) = same.0 ∙ sym b

pub gained_bits : (x y k : Hand) (n : ℕ) → SameBits x y → Gains x k n → SameBits y k
gained_bits x y k _ b (gain_missed m) = m.1.0 ∙ sym b
gained_bits x y k _ b (at_limit path p r) = r.0.1 ∙ sym b
gained_bits x y k _ b (gains live same at) = same.0 ∙ sym b
