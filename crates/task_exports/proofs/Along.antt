-- What was said of a hand is said of one that is equal to it.
use Rattle.task_cell.proofs.Vocabulary.{◌≡◌, subst, sym}
use Rattle.task_exports.specs.Hands.{IsLive}
use Rattle.task_exports.specs.declared.hand.Hand.{Hand}

pub along : (Says : Hand → Hand → Type 0) (a b c d : Hand) → a ≡ c → d ≡ b → Says a b → Says c d
along Says a b c d e f s = subst (λ x. Says x d) e (subst (λ k. Says a k) (sym f) s)

-- a handle that was lent is as it was
pub lent_back : (a b c d : Hand) → a ≡ c → d ≡ b → IsLive b × (b.party ≡ a.party) → IsLive d × (d.party ≡ c.party)
lent_back a b c d e f s = along (λ x k. IsLive k × (k.party ≡ x.party)) a b c d e f s
