-- What a handle is that is taken out of its place, and put back.
use Rattle.std.proofs.Common.{◌≡◌, ℕ, true, List, Option, Some, sym, ◌∙◌, subst}
use Rattle.std.specs.Prelude.{IfSome}
use Rattle.task_cell.proofs.Moved.{limit_is}
use Rattle.task_cell.specs.Calls.{DidWith}
use Rattle.task_exports.specs.Answers.{IsFull}
use Rattle.task_exports.specs.Hands.{IsLive}
use Rattle.task_exports.specs.Parties.{CellParty, Keeps, Stays, party_in}
use Rattle.task_exports.specs.declared.hand.Hand.{Hand}
use Rattle.task_exports.specs.declared.handle.Handle.{Handle}
use Rattle.task_laws.specs.declared.positions.Position.{Position}
use Rattle.task_steps.specs.declared.table.Deed.{Deed}

-- the hand that was taken out is live
pub live_of : (x h : Hand) → x ≡ h → IsLive h → IsLive x
live_of x h e l = subst (λ z. IsLive z) (sym e) l

-- a place whose party went on is full still
pub full_after : (h k : Handle) (path : List Deed) (at : Position) (held : _) → IsFull h → Keeps h k → DidWith path at held h.hand.party k.hand.party → IsFull k
full_after h k path at held f s g = (s.0, (s.1, g.cell ∙ (f.1.1 ∙ sym s.2), limit_is h.hand.party k.hand.party path at held g ∙ (f.1.2 ∙ sym s.4)))

-- what is said of an export by a handle's bits is said of the place that the handle has crossed from, and has come back to
module _ {x b l k : Hand} {There : Type 0} {n m : ℕ} (Says : Hand → Hand → ℕ → Type 0) where
  pub crossed : b ≡ x → (k ≡ l) × There × (m ≡ n) → Says b l n → Says x k m
  crossed e f s = subst (λ z. Says z k m) e (subst (λ z. Says b z m) (sym f.0) (subst (λ z. Says b l z) (sym f.2) s))

-- the place keeps the handle where a share of the same cell is there still
pub crossed_still : (h k : Handle) {b l : Hand} {Told : Type 0} → b ≡ h.hand → (k.hand ≡ l) × (k.there ≡ true) × Told → Stays b l → Keeps h k
crossed_still h k {b} {l} e f s = let t = subst (λ z. Stays z k.hand) e (subst (λ z. Stays b z) (sym f.0) s) in (f.1, t.0, t.1, t.2, t.3)

-- the same of an export that may have brought a record
pub crossed_end : {x b l k : Hand} {There : Type 0} {n m : ℕ} {o p : Option Hand} (Says : Hand → Hand → Option CellParty → ℕ → Type 0)
    → b ≡ x → (k ≡ l) × There × (m ≡ n) × (p ≡ o) → Says b l (party_in o) n → Says x k (party_in p) m
crossed_end {b = b} {l = l} {k = k} {n = n} {m = m} {p = p} Says e f s = subst (λ z. Says z k (party_in p) m) e (subst (λ z. Says b z (party_in p) m) (sym f.0) (subst (λ z. Says b l (party_in p) z) (sym f.2) (subst (λ z. Says b l (party_in z) n) (sym f.3) s)))

-- what was said of the record, where there is one
pub of_record : (P : Hand → Type 0) (o p : Option Hand) (k : Hand) → p ≡ o → p ≡ Some k → IfSome o P → P k
of_record P o p k e f s = subst (λ z. IfSome z P) (sym e ∙ f) s
