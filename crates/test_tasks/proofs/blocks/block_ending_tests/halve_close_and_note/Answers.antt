use Rattle.std.proofs.Common.{ap, sym, refl, ◌∙◌, ◌+◌, ◌-◌, ◌%◌, ◌^◌, ℕ, eqb, true, false}
use prog.Atomic.{either}
use Rattle.atomic_table.specs.Table.{Me}
use Rattle.counted_block.specs.declared.place.Place.{Place}
use Rattle.test_tasks.proofs.Staging.{steps, fewer, notes}
use Rattle.test_tasks.proofs.blocks.block_ending_tests.halve_close_and_note.Goals as goal

-- src/ending_tests.rt:56:26
pub part_exchange-found-requires : goal.part_exchange-found-requires
part_exchange-found-requires c = let seat = c.new_pair-share.result.2 in let is = c.new_pair-share.ensures.seat in let start = ap (λ (me : Me (Place ℕ ℕ) ℕ). me.0) is.2 in
    record { block = is.0; allowed = steps seat.id seat.me is.1 0 start (λ n. either (eqb n 2) 1 n) 1 refl; shares = fewer seat.id seat.me is.1 0 start (λ n. either (eqb n 2) 1 n) (λ n. eqb n 2) (λ _. false) refl refl refl }

pub part-maybe-requires : goal.part-maybe-requires
part-maybe-requires c = let made = c.new_pair-share.ensures in let one = c.part_exchange-found.ensures.seat in let seat = c.part_exchange-found.new.seat in let first = one.1 ∙ made.seat.1 in record {
  block = one.0 ∙ made.seat.0 ∙ sym made.other.0;
  allowed = steps seat.id seat.me first 1 one.2.1 (λ n. (n + (2 ^ 64 - 1)) % 2 ^ 64) 2 refl;
  shares = fewer seat.id seat.me first 1 one.2.1 (λ n. (n + (2 ^ 64 - 1)) % 2 ^ 64) (λ _. true) (λ _. true) refl refl refl;
}

pub load-requires-clause-allowed : goal.load-requires-clause-allowed
load-requires-clause-allowed c = let two = c.part-maybe.ensures.seat in let seat = c.part-maybe.new.seat in steps seat.id seat.me (two.1 ∙ c.part_exchange-found.ensures.seat.1 ∙ c.new_pair-share.ensures.seat.1) 2 two.2.1 (λ n. n) 2 refl

pub revive-again-requires-clause-allowed : goal.revive-again-requires-clause-allowed
revive-again-requires-clause-allowed c = let look = c.load.ensures.seat in let seat = c.load.new.seat in steps seat.id seat.me (look.1 ∙ c.part-maybe.ensures.seat.1 ∙ c.part_exchange-found.ensures.seat.1 ∙ c.new_pair-share.ensures.seat.1) 2 look.2.1 (λ _. 1) 1 refl

pub part-maybe-requires-2-clause-allowed : goal.part-maybe-requires-2-clause-allowed
part-maybe-requires-2-clause-allowed c = let again = c.revive-again.ensures.seat in let seat = c.revive-again.new.seat in
    steps seat.id seat.me (again.1 ∙ c.load.ensures.seat.1 ∙ c.part-maybe.ensures.seat.1 ∙ c.part_exchange-found.ensures.seat.1 ∙ c.new_pair-share.ensures.seat.1) 1 again.2.1 (λ n. (n + (2 ^ 64 - 1)) % 2 ^ 64) 2 refl

pub part-maybe-requires-2-clause-shares : goal.part-maybe-requires-2-clause-shares
part-maybe-requires-2-clause-shares c = let again = c.revive-again.ensures.seat in let seat = c.revive-again.new.seat in
    fewer seat.id seat.me (again.1 ∙ c.load.ensures.seat.1 ∙ c.part-maybe.ensures.seat.1 ∙ c.part_exchange-found.ensures.seat.1 ∙ c.new_pair-share.ensures.seat.1) 1 again.2.1 (λ n. (n + (2 ^ 64 - 1)) % 2 ^ 64) (λ _. true) (λ _. true) refl refl refl

-- src/ending_tests.rt:61:5
pub note-requires-clause-allowed : goal.note-requires-clause-allowed
note-requires-clause-allowed c = let closed = c.close.ensures.seat in let seat = c.close.new.seat in let end = c.part-maybe-2.ensures.seat in
    notes seat.id seat.me (closed.1 ∙ end.1 ∙ c.revive-again.ensures.seat.1 ∙ c.load.ensures.seat.1 ∙ c.part-maybe.ensures.seat.1 ∙ c.part_exchange-found.ensures.seat.1 ∙ c.new_pair-share.ensures.seat.1) 2 (ap (λ (me : Me (Place ℕ ℕ) ℕ). me.0) closed.2 ∙ end.2.1) 3 refl
