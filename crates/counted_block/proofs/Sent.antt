-- Shares, holds and ledgers may go to another thread where the value and the allocator may be sent and shared, and what a slot holds may be sent; a seat where that may.
use Rattle.std.proofs.Common.{ℕ, zero, suc, Bool, true, false, List, [], ◌∷◌}
use mathlib.Core.Option.{Option, none, some}
use mir.Syntax.{Ty}
use mir.Raw.{raw as bare_ty}
use base.Fraction.{full_share}
use base.Stored.{Gv}
use base.Fml.{Fml, Share}
use base.Shift.{Keyless}
use types.Keyed.{entry_keyless}
use denote.RattleType.{RattleType}
use denote.RawPtr.{Ptr, block_ptr, null_ptr, lies_at, ◌+ₚ◌}
use denote.Memory.{lone}
use denote.Param.Send.{sendable, IsSend, IsSync, Frees, Common, part_keyless}
use denote.Struct.Lending.{lent_at}
use Rattle.std.specs.declared.alloc.Allocator.{Ghosts}
use Rattle.atomic_table.specs.Table.{State, Me}
use Rattle.atomic_table.specs.Seated.{halved}
use Rattle.atomic_table.proofs.Sent.{roster_keyless}
use Rattle.counted_block.specs.declared.place.Place.{Place}
use Rattle.counted_block.specs.declared.place.Place.TheVariants.{First, Second}
use Rattle.counted_block.specs.Layout.{at_value}
use Rattle.counted_block.specs.Blocks.{BlockId, life, of_holds, of_shares, of_last, unless_last, closed, place, first_body, second_body, tracked, home, shelf, carried, seat_owns, counted, lent}
use Rattle.counted_block.specs.Blocks.{standing, stands, kept}
use Rattle.counted_block.specs.Held.{content, owner_of, owner_shown, kept_of}
use Rattle.counted_block.specs.contracts.inner.Inner as inner

-- a program makes no such proof of a type that no thread of it takes
the_send : (R Q T : RattleType) → IsSend R → IsSend Q → IsSend T → IsSend (inner.the_row R Q T)
the_send R Q T sr sq s = search sendable depth 20

lies : (R : RattleType) → IsSend R → (p : Ptr) (x : R.Denot) → Keyless (lies_at R full_share p x)
lies R s (block_ptr b o) x = part_keyless R s full_share x b o
lies R s null_ptr x = tt

looked : (R : RattleType) → IsSync R → (p : Ptr) (x : R.Denot) → Common (lent_at R p x)
looked R y (block_ptr b o) x κ = (tt, y.shared x b o κ)
looked R y null_ptr x κ = (tt, y.shared x 0 0 κ)

module _ (R Q : RattleType) (s : IsSend R) (s' : IsSend Q) (z : BlockId) where
  first_keyless : Keyless (first_body R Q z)
  first_keyless x = (part_keyless R s full_share x _ _, tt)

  second_keyless : Keyless (second_body R Q z)
  second_keyless y = (part_keyless Q s' full_share y _ _, tt)

  tracked_keyless : (k : ℕ) (x : Place R.Denot Q.Denot) → Keyless (tracked R Q z k x)
  tracked_keyless zero (First x) = (tt, first_keyless)
  tracked_keyless zero (Second y) = tt
  tracked_keyless (suc zero) (First x) = tt
  tracked_keyless (suc zero) (Second y) = (tt, second_keyless)
  tracked_keyless (suc (suc k)) x = tt

  home_keyless : (k : ℕ) (h : Option (Place R.Denot Q.Denot)) → Keyless (home R Q z k h)
  home_keyless k none = tt
  home_keyless k (some y) = tracked_keyless k y

  shelf_keyless : (k : ℕ) (hs : List (Option (Place R.Denot Q.Denot))) → Keyless (shelf R Q z k hs)
  shelf_keyless k [] = tt
  shelf_keyless k (h ∷ hs) = (home_keyless k h, shelf_keyless (suc k) hs)

  carried_keyless : (cs : List (ℕ × Place R.Denot Q.Denot)) → Keyless (carried R Q z cs)
  carried_keyless [] = tt
  carried_keyless (x ∷ xs) = (tracked_keyless x.0 x.1, carried_keyless xs)

  pub seat_keyless : {V : Type 0} (c : V → Gv) (id : ℕ) (me : Me (Place R.Denot Q.Denot) V) → Keyless (seat_owns R Q z c id me)
  seat_keyless c id me = (entry_keyless halved z.views id _, carried_keyless me.1)

  unless_keyless : (n : ℕ) → Keyless (unless_last z n)
  unless_keyless zero = tt
  unless_keyless (suc n) = λ e q. entry_keyless halved z.grips of_last _

  closed_keyless : Keyless (closed z)
  closed_keyless = ((λ r f. entry_keyless halved z.grips of_shares _), (λ e q. entry_keyless halved z.grips of_last _))

  module _ {V : Type 0} (c : V → Gv) (holds : State (Place R.Denot Q.Denot) V → Type 0) (out : ℕ → ℕ) (P : Fml) (free : Keyless P) where
    counted_keyless : (y : Bool) (w h : ℕ) → Keyless (counted R Q c holds out P z y w h)
    counted_keyless true w h = ((λ _. tt), (((λ r q. tt), ((λ r f. entry_keyless halved z.grips of_shares _), unless_keyless (out w))), λ r f. entry_keyless halved z.grips of_holds _))
    counted_keyless false w h = ((λ _. tt), (((λ r q. tt), closed_keyless), λ r f. entry_keyless halved z.grips of_holds _))

    lent_keyless : Keyless (lent R Q c holds out P z)
    lent_keyless = (free, (first_keyless, second_keyless))

    standing_keyless : (t : Bool × (State (Place R.Denot Q.Denot) V × ℕ)) → Keyless (standing R Q c holds out P z t)
    standing_keyless t = ((tt, tt), (counted_keyless t.0 _ _, ((shelf_keyless 0 t.1.0.homes, lent_keyless), (roster_keyless c z.views 0 t.1.0.views, λ _. tt))))

    stands_keyless : (y : Bool) → Keyless (stands R Q c holds out P z y)
    stands_keyless true = standing_keyless
    stands_keyless false = ((tt, closed_keyless), λ t. ((λ _. tt), (roster_keyless c z.views 0 t.views, λ _. tt)))

    kept_keyless : Keyless (kept R Q c holds out P z)
    kept_keyless = stands_keyless

module _ (R Q T A : RattleType) (h : Ghosts A.Denot) (f : Frees h h.dealloc_token) (sr : IsSend R) (sq : IsSend Q) (s : IsSend T) (y : IsSync T) {V : Type 0} (c : V →
    Gv) (holds : State (Place R.Denot Q.Denot) V → Type 0) (out : ℕ → ℕ) (heap : A.Denot) (z : BlockId) (x : T.Denot) where
  abbrev k : Ty → Ptr → Fml
  k = h.dealloc_token heap

  whole : Keyless (content R Q T k z x)
  whole = let v = lies T s (place z +ₚ at_value R Q T) x in (
    v,
    λ m. (
      ((tt, tt), ((part_keyless R sr full_share m.1.0 _ _, part_keyless Q sq full_share m.1.1 _ _), v)),
      (
        lies (inner.the_row R Q T) (the_send R Q T sr sq s) (place z) record { word = m.0.0; holds = m.0.1; first = m.1.0; second = m.1.1; value = x },
        f.frees heap (bare_ty (lone (inner.the_row R Q T).mir)) (place z),
      ),
    ),
  )

  pub ledger_keyless : Keyless (kept_of R Q T c holds out k z x)
  ledger_keyless = kept_keyless R Q sr sq z c holds out (content R Q T k z x) whole

  module _ (p : Ptr) where
    module _ (much : Share → Type 0) (i : ℕ) where
      pub owner_keyless : Keyless (owner_of R Q T c holds out k z x p much i)
      owner_keyless = ((λ _. tt), (((λ e q. tt), (λ e q. entry_keyless halved z.grips i _)), (ledger_keyless, looked T y (place z +ₚ at_value R Q T) x (life z))))

      pub shown_keyless : Common (owner_shown R Q T c holds out k z x p much i)
      shown_keyless κ = ((λ _. tt), (((λ q. tt), (λ q. entry_keyless halved z.grips i _)), (ledger_keyless, looked T y (place z +ₚ at_value R Q T) x (life z))))
