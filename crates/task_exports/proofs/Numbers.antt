-- Which answer it was, by its number.
use Rattle.std.proofs.Common.{◌≡◌, ℕ, true, false, List, [], ◌∷◌, ◌++◌, refl, sym, ap, ◌∙◌}
use Rattle.std.specs.Prelude.{nat_eq}
use Rattle.task_steps.proofs.Bools.{never}

-- two numbers that differ are not one
pub differs : {X : Type 0} (a b : ℕ) → nat_eq a b ≡ false → nat_eq b b ≡ true → a ≡ b → X
differs a b ne eq e = never (sym ne ∙ (ap (λ x. nat_eq x b) e ∙ eq))

-- three lists, one after the other
pub joined : {X : Type 0} (a b c : List X) → a ++ (b ++ c) ≡ (a ++ b) ++ c
joined [] b c = refl
joined (d ∷ a) b c = ap (λ l. d ∷ l) (joined a b c)
