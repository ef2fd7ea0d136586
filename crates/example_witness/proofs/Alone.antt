-- The laws say that one party at most runs the task or has its Runnable.
use Rattle.std.proofs.Common.{◌≡◌, ℕ, zero, suc, ◌≤◌, true, List, [], ◌∷◌, sym, ap, ◌∙◌, refl, arith}
use mathlib.Core.Option.{some, some-injective, some-ne-none}
use lib.ListN.{get_elem?}
use Rattle.task_core.specs.Word.{State, bit}
use Rattle.task_laws.specs.declared.positions.Position.{Position}
use Rattle.task_laws.specs.declared.positions.Position.TheVariants.{Polling}
use Rattle.task_laws.specs.Machine.{how_many}
use Rattle.task_laws.specs.Holders.{is_runner}
use Rattle.task_steps.specs.Standing.{as_runnable}
use Rattle.task_steps.specs.Witness.{Witness}
use Rattle.task_steps.proofs.Facts.{many_at}
use Rattle.example_witness.specs.Sole.{IsSole, IsSoleRunnable}

-- two runners are one
same : (ps : List Position) (j k : ℕ) (p q : Position) → how_many is_runner ps ≤ 1 → get_elem? ps j ≡ some p → is_runner p ≡ true → get_elem? ps k ≡ some q → is_runner q ≡ true → j ≡ k
same [] j k p q few at is at' is' = absurd (some-ne-none p (sym at))
same (x ∷ ps) zero zero p q few at is at' is' = refl
same (x ∷ ps) zero (suc k) p q few at is at' is' = let first : bit (is_runner x) ≡ 1 = ap (λ y. bit (is_runner y)) (some-injective x p at) ∙ ap bit is in
    let other : bit (is_runner q) ≡ 1 = ap bit is' in let some = many_at is_runner ps k q at' in absurd (omega arith)
same (x ∷ ps) (suc j) zero p q few at is at' is' = let first : bit (is_runner x) ≡ 1 = ap (λ y. bit (is_runner y)) (some-injective x q at') ∙ ap bit is' in
    let other : bit (is_runner p) ≡ 1 = ap bit is in let some = many_at is_runner ps j p at in absurd (omega arith)
same (x ∷ ps) (suc j) (suc k) p q few at is at' is' = ap suc (same ps j k p q (omega arith) at is at' is')

pub sole : (limit : ℕ) (word : State) → Witness limit word as_runnable [] → IsSoleRunnable limit word
sole limit word w = let alone : (k : ℕ) (p : Position) → get_elem? w.machine.parties k ≡ some p → is_runner p ≡ true → k ≡ w.number = λ k p at is. same w.machine.parties k w.number p (as_runnable) w.laws.one_runner at is w.stands refl in (
  w,
  record {
    only = alone;
    not_polled = λ k at. let here : get_elem? w.machine.parties w.number ≡ some Polling = ap (get_elem? w.machine.parties) (sym (alone k Polling at refl)) ∙ at in
        let both : as_runnable ≡ Polling = some-injective (as_runnable) Polling (sym w.stands ∙ here) in absurd (cc);
  },
)
