-- What a caller lends for a call by reference: a share of the cell for a lifetime, and part of that lifetime's token, which the call gives back.
use Rattle.std.specs.Prelude.{◌≡◌}
use base.Fml.{Fml, Lft, Share, fsep, flft}
use denote.RawPtr.{Ptr}
use denote.Struct.Lending.{lent_at}
use Rattle.task_exports.specs.contracts.hand.Lent.{the_row}
use Rattle.task_exports.specs.declared.hand.Hand.{Hand}
use Rattle.task_exports.specs.declared.hand.Lent.{Lent}

-- what a function of what is lent answers, as a type
abbrev type_of : {P : Type 0} → (Lent → P) → Type 0
type_of {P} f = P

-- the lifetime for which a share is lent, the part of its token that a call has, the share, and where its owner keeps it
pub record Loan : Type 0 where
  pub life : Lft
  pub part : Share
  pub lent : Lent
  pub place : Ptr

-- what a call has: what a `&` to the share has, which can be had any number of times, and its part of the token
abbrev pub lent : Loan → Fml
lent loan = fsep (lent_at the_row loan.place loan.lent loan.life) (flft loan.life loan.part)

-- what it gives back
abbrev pub lent_back : Loan → Fml
lent_back loan = flft loan.life loan.part

-- the type of a share of a cell
abbrev pub CellShare : Type 0
CellShare = type_of (λ (x : Lent). x.share)

-- the share is of this hand's cell
abbrev pub IsOfCell : Hand → CellShare → Type 0
IsOfCell x share = (share.block.id ≡ x.share.maybe.id) × (share.block.key ≡ x.share.maybe.key) × (share.block.value ≡ x.share.maybe.value)

-- the share that is lent is of this hand's cell
abbrev pub IsShareOf : Hand → Lent → Type 0
IsShareOf x lent = IsOfCell x lent.share
