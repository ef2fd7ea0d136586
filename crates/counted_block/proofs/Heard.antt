-- What a walk hears of a `requires`, and what it says in an `ensures`, clause by clause. Assumes `Logic`.
use Rattle.counted_block.proofs.Names.{List, [], ◌∷◌, SProp, ent, sep, emp, ftrue, fact, fact_i, ‵, raw, given, ◌$◌, ◌∵◌, !, qed, by, move, drop, learn, use0, join, done}
use seplogic.Ra.Ura.{Ura}
use types.Logic.{Logic}

module _ {M : Type 1} {𝓤 : Ura M} (𝓛 : Logic 𝓤) where
  abbrev pub facts : Type 0 → List (Type 0) → SProp 𝓤
  facts φ [] = fact 𝓤 φ
  facts φ (ψ ∷ φs) = sep 𝓤 (fact 𝓤 φ) (facts ψ φs)

  pub says_both : (φ ψ : Type 0) → φ → ψ → ent 𝓤 (emp 𝓤) (facts φ (ψ ∷ []))
  says_both φ ψ x y = qed 𝓛 [] ∵ use0 𝓛 (raw (fact 𝓤 ψ)) (fact_i 𝓤 ψ (emp 𝓤) y) $ use0 𝓛 (raw (fact 𝓤 φ)) (fact_i 𝓤 φ (emp 𝓤) x) $ join ! $ done !

  module _ (X G : SProp 𝓤) where
    abbrev pub Hearing : Type 0 → List (Type 0) → Type 1
    Hearing φ [] = φ → ent 𝓤 X G
    Hearing φ (ψ ∷ φs) = φ → Hearing ψ φs

    pub hears : (φ : Type 0) (φs : List (Type 0)) → Hearing φ φs → ent 𝓤 (sep 𝓤 X (facts φ φs)) G
    hears φ [] go = qed 𝓛 (raw X ∷ given φ (‵ ftrue) ∷ []) ∵ move ! (1 ∷ []) $ learn ! (λ x. drop ! $ by ! (go x))
    hears φ (ψ ∷ φs) go = qed 𝓛 (raw X ∷ given φ (‵ ftrue) ∷ raw (facts ψ φs) ∷ []) ∵ move ! (1 ∷ []) $ learn ! (λ x. drop ! $ by ! (hears ψ φs (go x)))
