-- Entailment, and assertions side by side, as the lemmas write them: the fields of a record that a module opens.
use seplogic.Ra.Ura.{Ura}
use base.Logic.{SProp, ent, sep, wand}
use base.Fml.{Fml}
use types.Logic.{Logic, sem}

pub record Signs {M : Type 1} {𝓤 : Ura M} (𝓛 : Logic 𝓤) : Type 2 where
  infix 26 ◌⊢◌
  infixr 35 ◌∗◌
  infixr 30 ◌-∗◌
  pub ⟦◌⟧ : Fml → SProp 𝓤
  pub ◌⊢◌ : SProp 𝓤 → SProp 𝓤 → Type 1
  pub ◌∗◌ : SProp 𝓤 → SProp 𝓤 → SProp 𝓤
  pub ◌-∗◌ : SProp 𝓤 → SProp 𝓤 → SProp 𝓤

abbrev pub signs : {M : Type 1} {𝓤 : Ura M} (𝓛 : Logic 𝓤) → Signs 𝓛
signs {M} {𝓤} 𝓛 = record { ⟦◌⟧ = sem 𝓛; ◌⊢◌ = ent 𝓤; ◌∗◌ = sep 𝓤; ◌-∗◌ = wand 𝓤 }
