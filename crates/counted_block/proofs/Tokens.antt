-- The tokens of several lifetimes, each with how much of it there is, and how many types a function takes.
use Rattle.std.proofs.Common.{ℕ, zero, suc, List, [], ◌∷◌}
use mir.Syntax.{Kind, a_type}
use base.Fml.{Fml, ftrue, fsep, flft}
use contract.Lifetimes.{Lfts, Shares}

abbrev pub tokens : (n : ℕ) → Lfts n → Shares n → Fml
tokens zero κs qs = ftrue
tokens (suc n) κs qs = fsep (flft κs.0 qs.0) (tokens n κs.1 qs.1)

abbrev pub seven : List Kind
seven = a_type ∷ a_type ∷ a_type ∷ a_type ∷ a_type ∷ a_type ∷ a_type ∷ []

abbrev pub eight : List Kind
eight = a_type ∷ seven
