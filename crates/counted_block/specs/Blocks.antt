-- A block whose words say how many own a part of it. Each share and each hold, and the last share, has one part in 2 ^ 64 of a lifetime's token, for which the memory is lent, and a grip: by its kind, one part in 2 ^ 63, or for the last share all there is.
-- An invariant, which is never given up, has the words, the slots that are at home, what is not out of the counts, and a quarter of each view. While some share is out it has the last share's grip. The second word counts the holds, with 2 ^ 63 more once the closer has left; then no share is out, and no last share. Once the block is gone the invariant has the views alone.
use Rattle.std.specs.Prelude.{◌≡◌, ℕ, zero, suc, ◌+◌, ◌-◌, ◌<◌, ◌≤◌, Bool, true, false, List, [], ◌∷◌, length, slice_index}
use mathlib.Core.Option.{Option, none, some}
use base.Fraction.{full_share}
use base.FractionLaws.{Counts}
use base.Share.{three_quarters}
use base.Stored.{Gv, gnum, Coded, coded×, coded_ℕ, coded_via}
use base.Fml.{Fml, Lft, Share, ftrue, ffalse, fsep, fex, flft, fdead, flent, fbor, fobs, finv}
use types.Keyed.{entry}
use types.RcWeak.{part, rest}
use types.SemTy.{Body}
use denote.RattleType.{RattleType}
use denote.Memory.{mem}
use denote.RawPtr.{Ptr, block_ptr}
use denote.Sharing.{beside, one, held}
use Rattle.atomic_table.specs.Table.{State, Me}
use Rattle.atomic_table.specs.Seated.{word, fact, halved, seen, roster}
use Rattle.counted_block.specs.declared.place.Place.{Place}
use Rattle.counted_block.specs.declared.place.Place.TheVariants.{First, Second}
use Rattle.counted_block.specs.Layout.{at_first, at_second}

-- which block it is: the names of its views, its counts and its slots, and where it lies
pub record BlockId : Type 0 where
  pub views : ℕ
  pub age : ℕ
  pub grips : ℕ
  pub first : ℕ
  pub second : ℕ
  pub block : ℕ
  pub offset : ℕ

-- how the logic encodes it as a ghost value
abbrev pub block_id_coded : Coded BlockId
block_id_coded = coded_via (coded× coded_ℕ (coded× coded_ℕ (coded× coded_ℕ (coded× coded_ℕ (coded× coded_ℕ (coded× coded_ℕ coded_ℕ))))))
    (λ (z : BlockId). (z.views, (z.age, (z.grips, (z.first, (z.second, (z.block, z.offset)))))))
    (λ x y e i. record { views = (e i).0; age = (e i).1.0; grips = (e i).1.1.0; first = (e i).1.1.1.0; second = (e i).1.1.1.1.0; block = (e i).1.1.1.1.1.0; offset = (e i).1.1.1.1.1.1 })

-- the lifetime for which the memory is lent
abbrev pub life : BlockId → Lft
life z = z.age ∷ []

-- where the block lies in memory
abbrev pub place : BlockId → Ptr
place z = block_ptr z.block z.offset

-- a fraction of the grips of a kind: those of the holds, of the shares, and of the last share
abbrev pub gripped : ℕ → ℕ → Share → Fml
gripped γ k q = entry halved γ k (q, gnum 0)

abbrev pub of_holds : ℕ
of_holds = 0

abbrev pub of_shares : ℕ
of_shares = 1

abbrev pub of_last : ℕ
of_last = 2

-- how much of them one owner has: one part in 2 ^ 63, or all
abbrev pub is_one : Share → Type 0
is_one e = Counts 63 e 1

abbrev pub is_all : Share → Type 0
is_all e = e ≡ full_share

-- the grip of one owner
abbrev pub grip : (Share → Type 0) → ℕ → ℕ → Fml
grip much γ k = fex Share (λ e. fex (much e) (λ _. gripped γ k e))

-- r is the fraction of the grips that is left where h are out: all of it where none is
abbrev pub Free : ℕ → Share → Type 0
Free h r = (h < 9223372036854775808) × Counts 63 r (9223372036854775808 - h) × (h ≡ 0 → r ≡ full_share)

-- the grips that nobody has, where h are out
abbrev pub grips_left : ℕ → ℕ → ℕ → Fml
grips_left γ k h = fex Share (λ r. fex (Free h r) (λ _. gripped γ k r))

-- the parts of an owner: of the memory, and its grip
abbrev pub parts_of : (Share → Type 0) → ℕ → BlockId → Fml
parts_of much k z = fsep (part 64 z.age) (grip much z.grips k)

-- those of a share, of a hold and of the last share
abbrev pub parts : BlockId → Fml
parts = parts_of is_one of_shares

abbrev pub hold_parts : BlockId → Fml
hold_parts = parts_of is_one of_holds

abbrev pub last_parts : BlockId → Fml
last_parts = parts_of is_all of_last

-- those of a hold where there is one, and else nothing
abbrev pub hold_parts_if : Bool → BlockId → Fml
hold_parts_if true z = hold_parts z
hold_parts_if false z = ftrue

-- those of a share where there is one, or of the last share, or nothing
abbrev pub parts_if : Bool → Bool → BlockId → Fml
parts_if true last z = parts z
parts_if false true z = last_parts z
parts_if false false z = ftrue

-- how many keep the memory beside the holds: the shares, or the last share
abbrev pub keepers : ℕ → ℕ
keepers zero = 1
keepers (suc n) = suc n

-- the last share's grip while some share is out
abbrev pub unless_last : BlockId → ℕ → Fml
unless_last z zero = ftrue
unless_last z (suc n) = grip is_all z.grips of_last

-- the grips of shares where n are out
abbrev pub shares_left : BlockId → ℕ → Fml
shares_left z n = fsep (grips_left z.grips of_shares n) (unless_last z n)

-- no share is out, nor the last share
abbrev pub closed : BlockId → Fml
closed z = fsep (grips_left z.grips of_shares 0) (grip is_all z.grips of_last)

module _ (R Q : RattleType) (z : BlockId) where
  -- the memory of each slot
  abbrev pub first_body : Fml
  first_body = Body (mem R) z.block (z.offset + at_first R) z.first

  -- the memory of slot 1
  abbrev pub second_body : Fml
  second_body = Body (mem Q) z.block (z.offset + at_second R Q) z.second

  -- what lies in a slot, wherever that is; in each slot lies what is of its type
  abbrev pub tracked : ℕ → Place R.Denot Q.Denot → Fml
  tracked zero (First x) = fsep (fobs z.first (R.coded.code x)) (fbor (life z) first_body)
  tracked zero (Second y) = ffalse
  tracked (suc zero) (First x) = ffalse
  tracked (suc zero) (Second y) = fsep (fobs z.second (Q.coded.code y)) (fbor (life z) second_body)
  tracked (suc (suc k)) x = ffalse

  -- what the invariant has of slot k: its memory where it is at home, and nothing where a seat has it out
  abbrev pub home : ℕ → Option (Place R.Denot Q.Denot) → Fml
  home k none = ftrue
  home k (some y) = tracked k y

  -- that of each slot from number k on
  abbrev pub shelf : ℕ → List (Option (Place R.Denot Q.Denot)) → Fml
  shelf k [] = ftrue
  shelf k (h ∷ hs) = fsep (home k h) (shelf (suc k) hs)

  -- what a seat has of the slots that it took out: their memory
  abbrev pub carried : List (ℕ × Place R.Denot Q.Denot) → Fml
  carried [] = ftrue
  carried (x ∷ xs) = fsep (tracked x.0 x.1) (carried xs)

  -- the rights to have the slots back
  abbrev pub owed : Fml
  owed = fsep (flent (life z) first_body) (flent (life z) second_body)

  -- what a seat owns: three quarters of its ghost view, and the slots that it has out
  abbrev pub seat_owns : {V : Type 0} → (V → Gv) → ℕ → Me (Place R.Denot Q.Denot) V → Fml
  seat_owns c id me = fsep (seen c z.views id three_quarters me.0) (carried me.1)

module _ {S V : Type 0} where
  -- the number in the user's word
  abbrev pub word_of : State S V → ℕ
  word_of s = slice_index s.words 0

  -- the rule holds of this state, which has one word and two slots
  abbrev pub Fits : (State S V → Type 0) → State S V → Type 0
  Fits holds s = holds s × (length s.words ≡ 1) × (length s.homes ≡ 2)

  -- the rule, with the view of a seat if there is one
  abbrev pub Known : (State S V → Type 0) → Option (ℕ × V) → State S V → Type 0
  Known holds none s = holds s
  Known holds (some x) s = Rattle.atomic_table.specs.Table.Seen holds x.0 x.1 s

-- both words in memory: the user's, and the one that counts the holds
abbrev pub words_in : BlockId → ℕ → ℕ → Fml
words_in z n h = fsep (word z.block (z.offset + 0) n) (word z.block (z.offset + 8) h)

module _ (R Q : RattleType) {V : Type 0} (c : V → Gv) (holds : State (Place R.Denot Q.Denot) V → Type 0) (out : ℕ → ℕ) (P : Fml) (z : BlockId) where
  -- the ghost views of all seats are those of this state, and the rule holds of it
  abbrev pub views_in : State (Place R.Denot Q.Denot) V → Fml
  views_in s = fsep (roster c z.views 0 s.views) (fact (Fits holds s))

  -- what is not out, with the closer here or after it has left
  abbrev pub counted : Bool → ℕ → ℕ → Fml
  counted true w h = fsep (fact (h < 9223372036854775808)) (fsep (fsep (rest 64 z.age (keepers (out w) + h)) (shares_left z (out w))) (grips_left z.grips of_holds h))
  counted false w h = fsep (fact (9223372036854775808 ≤ h)) (fsep (fsep (rest 64 z.age (h - 9223372036854775808)) (closed z)) (grips_left z.grips of_holds (h - 9223372036854775808)))

  -- what comes back once the memory is no longer lent: the content beside the slots, and the slots
  abbrev pub lent : Fml
  lent = fsep (flent (life z) P) (owed R Q z)

  -- while the block is in memory: its words, what is not out of its counts, the slots at home, and the views
  abbrev pub standing : Bool × (State (Place R.Denot Q.Denot) V × ℕ) → Fml
  standing t = fsep (words_in z (word_of t.1.0) t.1.1) (fsep (counted t.0 (word_of t.1.0) t.1.1) (fsep (fsep (shelf R Q z 0 t.1.0.homes) lent) (views_in t.1.0)))

  -- once it is gone: the views alone, which the rule still binds
  abbrev pub ghostly : State (Place R.Denot Q.Denot) V → Fml
  ghostly s = fsep (fact (word_of s < 18446744073709551616)) (views_in s)

  -- the block is in memory; or it is gone, and so is the lifetime
  abbrev pub stands : Bool → Fml
  stands true = fex (Bool × (State (Place R.Denot Q.Denot) V × ℕ)) standing
  stands false = fsep (fsep (fdead (life z)) (closed z)) (fex (State (Place R.Denot Q.Denot) V) ghostly)

  -- what the invariant says: one of the two
  abbrev pub block : Fml
  block = fex Bool stands

  -- what every share, hold and ledger has
  abbrev pub kept : Fml
  kept = finv block

  -- the memory at the end
  abbrev pub remaining : Option (ℕ × V) → State (Place R.Denot Q.Denot) V × ℕ → Fml
  remaining seat t = fsep (words_in z (word_of t.0) t.1) (fsep (fsep (fdead (life z)) (fsep (shelf R Q z 0 t.0.homes) lent)) (fact (Fits (Known holds seat) t.0)))

  -- the same, in some state that keeps the rule
  abbrev pub remains : Option (ℕ × V) → Fml
  remains seat = fex (State (Place R.Denot Q.Denot) V × ℕ) (remaining seat)

  -- the same for whoever got the block, and nothing for others
  abbrev pub remains_if : Bool → Option (ℕ × V) → Fml
  remains_if true seat = remains seat
  remains_if false seat = ftrue

-- what an owner of this kind has, and what a `&` to it has of that, where t is how the value is lent
module _ (kept : Fml) (t : Lft → Fml) (much : Share → Type 0) (k : ℕ) (z : BlockId) where
  -- its parts, the invariant, and the right to look at the value
  abbrev pub owner_owns : Fml
  owner_owns = fsep (parts_of much k z) (fsep kept (t (life z)))

  -- a `&` to it, for as long as it lives
  abbrev pub owner_shares : Lft → Fml
  owner_shares = beside (beside (one (λ q. flft (life z) q)) (one (λ q. gripped z.grips k q))) (beside (λ _. kept) (held (life z) t))
