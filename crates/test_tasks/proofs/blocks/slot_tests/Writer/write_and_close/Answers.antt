use Rattle.std.proofs.Common.{◌≡◌, ◌+◌, ◌-◌, ◌%◌, ◌^◌, ◌∷◌, ℕ, List, refl, sym, ap, ◌∙◌}
use Rattle.atomic_table.specs.Table.{Me, rest}
use Rattle.counted_block.specs.declared.place.Place.{Place}
use Rattle.counted_block.specs.declared.place.Place.TheVariants.{First}
use Rattle.test_tasks.proofs.Staging.{may_take, goes_on, gives, gone_stage}
use Rattle.test_tasks.proofs.blocks.slot_tests.Writer.write_and_close.Goals as goal

-- src/slot_tests.rt:58:9
pub load-requires : goal.load-requires
load-requires c = let seat = c.args.self.seat in let is = c.args.self.seated in record { block = is.1; allowed = may_take seat.id seat.me is.2 is.3; shares = λ s h at. refl }

-- src/slot_tests.rt:60:10
pub first_mut-requires : goal.first_mut-requires
first_mut-requires c =
    let has : c.swap_first-was.new.seat.me.1 ≡ (0, First 7) ∷ rest c.turn.new.self.me.1 = ap (λ (me : Me (Place ℕ ℕ) ℕ). me.1) c.swap_first-was.ensures.3 in
    record { block = c.swap_first-was.ensures.0 ∙ c.turn.ensures.0 ∙ c.swap_second-second.ensures.0 ∙ c.load.ensures.seat.0 ∙ c.args.self.seated.1; taken = (7, has ∙ ap (λ (xs : List (ℕ × Place ℕ ℕ)). (0, First 7) ∷ xs) (sym (ap rest has))) }

-- src/slot_tests.rt:85:25
pub part-maybe-requires : goal.part-maybe-requires
part-maybe-requires c = let seat = c.swap_first-left.new.seat in
    let first = c.swap_first-left.ensures.1 ∙ c.swap_first-was.ensures.1 ∙ c.turn.ensures.1 ∙ c.swap_second-second.ensures.1 ∙ c.load.ensures.seat.1 ∙ c.args.self.seated.2 in
    let now = ap (λ (me : Me (Place ℕ ℕ) ℕ). me.0) c.swap_first-left.ensures.3 ∙ ap (λ (me : Me (Place ℕ ℕ) ℕ). me.0) c.swap_first-was.ensures.3 ∙ ap (λ (me : Me (Place ℕ ℕ) ℕ). me.0) c.turn.ensures.2 ∙ ap (λ (me : Me (Place ℕ ℕ) ℕ). me.0) c.swap_second-second.ensures.3 ∙ ap (λ (me : Me (Place ℕ ℕ) ℕ). me.0) c.load.ensures.seat.2.2 in record {
      block = c.swap_first-left.ensures.0 ∙ c.swap_first-was.ensures.0 ∙ c.turn.ensures.0 ∙ c.swap_second-second.ensures.0 ∙ c.load.ensures.seat.0 ∙ c.args.self.seated.1;
      allowed = goes_on seat.id seat.me first 1 now (λ n. (n + (2 ^ 64 - 1)) % 2 ^ 64) 2 gone_stage refl;
      shares = gives seat.id seat.me first 1 now (λ n. (n + (2 ^ 64 - 1)) % 2 ^ 64) refl refl;
    }
