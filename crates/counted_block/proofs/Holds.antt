-- A step on the holds: one more, and one less, which may be the last; and the last share, which looks whether there is one. Assumes `Logic`.
use Rattle.std.proofs.Common.{◌≡◌, ℕ, ◌+◌, ◌-◌, ◌%◌, ◌^◌, ◌<◌, ◌≤◌, Bool, true, false, eqb, eqb→eq, List, [], ◌∷◌, length, sym, refl, ap, ◌∙◌, subst}
use Rattle.std.proofs.Common.{arith, w64}
use mathlib.Core.Bool.{not}
use mathlib.Core.Logic.{dite}
use mathlib.Core.Option.{Option, none}
use native.Mathlib.Decide.{dec_le}
use seplogic.Ra.Ura.{Ura}
use mir.Syntax.{ty_int}
use mir.Val.{vint, has_ty, WT}
use base.Fraction.{full_share}
use base.Stored.{Coded}
use base.Logic.{SProp, ex, upd, upd_i, ent, sep, all, guard, guard_i}
use base.Fml.{Share, Fml, ftrue, fsep, flft, fdead}
use prog.Atomic.{bump}
use types.Logic.{Logic, sem}
use types.Kit.{‵, raw, ◌⊛◌, given, ◌$◌, ◌∵◌, !, qed, by, move, keep, drop, split, split3, fsplit, fsplit3, fjoin, fjoin3, fpick, fpack, learn, show, check, frame, assume, suffices}
use types.Kit.{done, use1, use2, rewrite}
use types.RcWeak.{part, rest}
use types.RcWeak as counts
use denote.RattleType.{RattleType}
use denote.RawPtr.{block_ptr}
use denote.Steps.{nothing}
use Rattle.std.specs.Sync.RawAtomic.{asks, always}
use Rattle.atomic_table.specs.Table.{State, Me}
use Rattle.atomic_table.specs.Seated.{word, seen, roster}
use Rattle.counted_block.specs.declared.place.Place.{Place}
use Rattle.counted_block.specs.Blocks.{BlockId, life, of_holds, of_shares, gripped, closed, grips_left, hold_parts, hold_parts_if, word_of, Fits, Known, shelf, views_in, counted, lent, standing}
use Rattle.counted_block.specs.Blocks.{ghostly, stands, block, remaining, remains, remains_if, last_parts, parts_if, seat_owns}
use Rattle.counted_block.proofs.Opening.{Lies, Ends, Ended, entered}
use Rattle.counted_block.proofs.Counting as counting
use Rattle.counted_block.proofs.Signs.{Signs, signs}
use mathlib.Core.Option as maybe
use lib.ListN.{get_elem?}
use base.Share.{three_quarters}
use contract.Monad.{fact_i, fact_use}
use Rattle.atomic_table.proofs.Roster.{Moved, moves}

-- one more, unless it is full
full_by : (n : ℕ) (d : Dec (2 ^ 63 ≤ n + 1)) → 2 ^ 63 ≤ n + 1 → dite d (λ _. n) (λ _. n + 1) ≡ n
full_by n (yes _) le = refl
full_by n (no ne) le = absurd (ne le)

room_by : (n : ℕ) (d : Dec (2 ^ 63 ≤ n + 1)) → n + 1 < 2 ^ 63 → dite d (λ _. n) (λ _. n + 1) ≡ n + 1
room_by n (yes le) lt = absurd (omega (arith, le))
room_by n (no _) lt = refl

bump_full : (n : ℕ) → n ≡ 9223372036854775807 → bump n ≡ n
bump_full n e = full_by n (dec_le (2 ^ 63) (n + 1)) (omega arith)

bump_room : (n : ℕ) → n + 1 < 9223372036854775808 → bump n ≡ n + 1
bump_room n lt = room_by n (dec_le (2 ^ 63) (n + 1)) (omega arith)

pub is_eq : (n m : ℕ) → eqb n m ≡ true → n ≡ m
is_eq n m e = eqb→eq n m (subst lib.Dec.T (sym e) tt)

pub not_eq : (n m : ℕ) → eqb n m ≡ false → ¬ (n ≡ m)
not_eq n m e same = Rattle.std.proofs.Common.true≢false (sym (Rattle.std.proofs.Common.eq-eqb n m same) ∙ e)

module _ {M : Type 1} {𝓤 : Ura M} (𝓛 : Logic 𝓤) {V : Type 0} (cv : Coded V) (γ : ℕ) where
  -- a seat's view is the roster's
  pub seen_at : (vs : List V) (id : ℕ) (v : V) → ent 𝓤 (sep 𝓤 (sem 𝓛 (roster cv.code γ 0 vs)) (sem 𝓛 (seen cv.code γ id three_quarters v)))
      (guard 𝓤 (get_elem? vs id ≡ maybe.some v) (sep 𝓤 (sem 𝓛 (roster cv.code γ 0 vs)) (sem 𝓛 (seen cv.code γ id three_quarters v))))
  seen_at vs id v = let φ : Type 0 = get_elem? vs id ≡ maybe.some v in let X : SProp 𝓤 = sep 𝓤 (sem 𝓛 (roster cv.code γ 0 vs)) (sem 𝓛 (seen cv.code γ id three_quarters v)) in
      fact_use 𝓤 φ (qed 𝓛 (‵ (roster cv.code γ 0 vs) ∷ ‵ (seen cv.code γ id three_quarters v) ∷ []) ∵
      use2 𝓛 (given (get_elem? vs id ≡ maybe.some v) (raw (all 𝓤 (Moved 𝓛 cv γ 0 vs id id)))) (moves 𝓛 cv γ vs 0 id id v (omega arith)) $
      learn ! (λ at. by ! (fact_i 𝓤 φ (all 𝓤 (Moved 𝓛 cv γ 0 vs id id)) at))) (guard_i 𝓤 φ X)

module _ {M : Type 1} {𝓤 : Ura M} (𝓛 : Logic 𝓤) (R Q : RattleType) {V : Type 0} (cv : Coded V) (holds : State (Place R.Denot Q.Denot) V → Type 0) (out : ℕ → ℕ) (P : Fml)
    (z : BlockId) where
  open 𝓛 use {H, A}

  abbrev Pr : Type 2
  Pr = SProp 𝓤

  abbrev 𝓝 : Signs 𝓛
  𝓝 = signs 𝓛

  open 𝓝 use {⟦◌⟧, ◌⊢◌, ◌∗◌, ◌-∗◌}

  abbrev S : Type 0
  S = Place R.Denot Q.Denot

  abbrev pub J : Fml
  J = block R Q cv.code holds out P z

  abbrev b : ℕ
  b = z.block

  abbrev o : ℕ
  o = z.offset + 8

  abbrev Counts : Bool → ℕ → ℕ → Fml
  Counts = counted R Q cv.code holds out P z

  -- what such a step leaves as it is
  abbrev pub around : State S V → Fml
  around s = fsep (word b (z.offset + 0) (word_of s)) (fsep (fsep (shelf R Q z 0 s.homes) (lent R Q cv.code holds out P z)) (views_in R Q cv.code holds out P z s))

  -- the block is over: the invariant has the views alone, and the rest goes
  pub over : (seat : Option (ℕ × V)) (s : State S V) (m : ℕ) → (holds s → Known holds seat s) → ⟦ word b o m ⟧ ∗ A.dead (life z) ∗ ⟦ closed z ⟧ ∗
      ⟦ around s ⟧ ⊢ ⟦ J ⟧
      ∗ ⟦ remains R Q cv.code holds out P z seat ⟧
  over seat s m known = let n : ℕ = word_of s in let e : ℕ = z.offset + 0 in qed 𝓛 (‵ (word b o m) ∷ ‵ (fdead (life z)) ∷ ‵ (closed z) ∷ ‵ (around s) ∷ []) ∵
      move ! (3 ∷ []) $ fsplit3 ! $ move ! (2 ∷ []) $ fsplit ! $ move ! (1 ∷ []) $ fpick ! (λ so. drop ! $
      -- [the roster; the word; the slots and what is lent; the holds; over, twice]
      move ! (1 ∷ []) $ use1 𝓛 (given (lib.Dec.T (has_ty (ty_int w64) (vint w64 n)) × WT (vint w64 n)) (‵ (word b e n))) (𝓛.laws.at_wt full_share (ty_int w64) b e (vint w64 n)) $
      learn ! (λ typed. move ! (4 ∷ []) $ use1 𝓛 (‵ (fdead (life z)) ⊛ ‵ (fdead (life z))) (𝓛.lfts.dead_dup (life z)) $ split ! $ move ! (0 ∷ 6 ∷ []) $ fjoin ! $ nothing ! $
      fpack ! (Fits holds s) (λ _. ftrue) so $ move ! (4 ∷ 0 ∷ []) $ fjoin ! $ nothing ! $ fpack ! (n < 18446744073709551616) (λ _. ftrue) typed.1.fits $ fjoin ! $
      fpack ! (State S V) (ghostly R Q cv.code holds out P z) s $ move ! (1 ∷ 0 ∷ []) $ fjoin ! $ fpack ! Bool (stands R Q cv.code holds out P z) false $ frame ! $
      -- [over; the word; the slots and what is lent; the holds]
      move ! (0 ∷ 2 ∷ []) $ fjoin ! $ move ! (1 ∷ 2 ∷ []) $ fjoin ! $ nothing ! $ fpack ! (Fits (Known holds seat) s) (λ _. ftrue) (known so.0, so.1, so.2) $ move ! (1 ∷ 2 ∷ 0 ∷ []) $
      fjoin3 ! $ fpack ! (State S V × ℕ) (remaining R Q cv.code holds out P z seat) (s, m) $ done !))

  module _ (f : ℕ → ℕ) (after : ℕ → Fml) where
    pub goes_on : (y : Bool) (s : State S V) (h m : ℕ) → f h ≡ m → ⟦ word b o (f h) ⟧ ∗ ⟦ Counts y (word_of s) m ⟧ ∗ ⟦ around s ⟧ ∗ ⟦ after h ⟧ ⊢ Ends 𝓛 J b o f
        after [] h
    goes_on y s h m is = let Z : Pr = ⟦ J ⟧ ∗ ⟦ after h ⟧ in qed 𝓛 (‵ (word b o (f h)) ∷ ‵ (Counts y (word_of s) m) ∷ ‵ (around s) ∷ ‵ (after h) ∷ []) ∵
        suffices ! _ (upd_i 𝓤 Z) $ rewrite ! 0 (λ (k : ℕ). ‵ (word b o k)) is refl $
        move ! (2 ∷ []) $ fsplit ! $ move ! (0 ∷ 2 ∷ []) $ fjoin ! $ move ! (0 ∷ 2 ∷ 1 ∷ []) $ fjoin3 ! $ fpack ! (Bool × (State S V × ℕ)) (standing R Q cv.code holds out P z)
        (y, (s, m)) $ fpack ! Bool (stands R Q cv.code holds out P z) true $ done !

    module _ (E : Pr) (here : (Z : Pr) → E ∗ A.dead (life z) ∗ ⟦ closed z ⟧ ⊢ Z)
        (law : (y : Bool) (s : State S V) (h : ℕ) → h < 18446744073709551616 → ⟦ Counts y (word_of s) h ⟧ ∗ E ∗ ⟦ around s ⟧ ⊢ ⟦ word b o (f h) ⟧ -∗ Ended 𝓛 J b o f after
        h) where
      abbrev G : Pr
      G = ex 𝓤 (Lies 𝓛 J b o f after)

      standing_by : (y : Bool) (s : State S V) (h : ℕ) → ⟦ standing R Q cv.code holds out P z (y, (s, h)) ⟧ ∗ E ⊢ upd 𝓤 G
      standing_by y s h = qed 𝓛 (‵ (standing R Q cv.code holds out P z (y, (s, h))) ∷ raw E ∷ []) ∵ suffices ! _ (upd_i 𝓤 G) $ fsplit3 ! $ fsplit ! $ move ! (1 ∷ []) $
          use1 𝓛 (given (lib.Dec.T (has_ty (ty_int w64) (vint w64 h)) × WT (vint w64 h)) (‵ (word b o h))) (𝓛.laws.at_wt full_share (ty_int w64) b o (vint w64 h)) $ learn ! (λ typed.
          -- [the holds; the word; the counts; the rest; E]
          show ! (Lies 𝓛 J b o f after) h $ frame ! $ move ! (0 ∷ 2 ∷ []) $ fjoin ! $ move ! (1 ∷ 2 ∷ 0 ∷ []) $ by ! (law y s h typed.1.fits))

      either_way : (y : Bool) → ⟦ stands R Q cv.code holds out P z y ⟧ ∗ E ⊢ upd 𝓤 G
      either_way false = qed 𝓛 (‵ (stands R Q cv.code holds out P z false) ∷ raw E ∷ []) ∵ fsplit ! $ fsplit ! $ keep ! (3 ∷ 0 ∷ 1 ∷ []) $ by ! (here (upd 𝓤 G))
      either_way true = qed 𝓛 (‵ (stands R Q cv.code holds out P z true) ∷ raw E ∷ []) ∵ fpick ! (λ t. by ! (standing_by t.0 t.1.0 t.1.1))

      pub opened : A.inv J ∗ E ⊢ asks 𝓛 (block_ptr b o) f always after
      opened = entered 𝓛 J b o f after E (qed 𝓛 (‵ J ∷ raw E ∷ []) ∵ fpick ! (λ y. by ! (either_way y)))

  -- one hold more, by a share
  module _ (q : Share) where
    abbrev pub token : Fml
    token = gripped z.grips of_shares q

    abbrev pub with_hold : ℕ → Fml
    with_hold n = fsep token (hold_parts_if (not (eqb n 9223372036854775807)) z)

    held_by : (s : State S V) (h : ℕ) (y : Bool) → eqb h 9223372036854775807 ≡ y → h < 9223372036854775808 → ⟦ Counts true (word_of s) h ⟧ ⊢ ⟦ Counts true (word_of s) (bump h) ⟧
        ∗ ⟦ hold_parts_if (not y) z ⟧
    held_by s h true e small = qed 𝓛 (‵ (Counts true (word_of s) h) ∷ []) ∵ rewrite ! 0 (λ (k : ℕ). ‵ (Counts true (word_of s) k)) (sym (bump_full h (is_eq h 9223372036854775807 e)))
        refl $ frame ! $ nothing ! $ done !
    held_by s h false e small = let ne = not_eq h 9223372036854775807 e in let room : h + 1 < 9223372036854775808 = below h small ne in qed 𝓛 (‵ (Counts true (word_of s) h) ∷ []) ∵
        use1 𝓛 (‵ (Counts true (word_of s) (h + 1)) ⊛ ‵ (hold_parts z)) (counting.hold_more 𝓛 R Q cv holds out P z (word_of s) h room) $ split ! $
        rewrite ! 0 (λ (k : ℕ). ‵ (Counts true (word_of s) k)) (sym (bump_room h room)) refl $ done !
      where
        below : (n : ℕ) → n < 9223372036854775808 → ¬ (n ≡ 9223372036854775807) → n + 1 < 9223372036854775808
        below n lt ne = omega (arith, ne)

    hold_law : (y : Bool) (s : State S V) (h : ℕ) → h < 18446744073709551616 → ⟦ Counts y (word_of s) h ⟧ ∗ ⟦ token ⟧ ∗ ⟦ around s ⟧ ⊢ ⟦ word b o (bump h) ⟧ -∗ Ended 𝓛
        J b o bump with_hold h
    hold_law false s h small = qed 𝓛 (‵ (Counts false (word_of s) h) ∷ ‵ token ∷ ‵ (around s) ∷ []) ∵ fsplit3 ! $ move ! (1 ∷ []) $ fsplit ! $ keep ! (4 ∷ 1 ∷ []) $
        by ! (counting.share_closed 𝓛 R Q cv holds out P z q _)
    hold_law true s h small = qed 𝓛 (‵ (Counts true (word_of s) h) ∷ ‵ token ∷ ‵ (around s) ∷ []) ∵ fsplit ! $ fpick ! (λ few. drop ! $ nothing ! $
        fpack ! (h < 9223372036854775808) (λ _. ftrue) few $ fjoin ! $
        use1 𝓛 (‵ (Counts true (word_of s) (bump h)) ⊛ ‵ (hold_parts_if (not (eqb h 9223372036854775807)) z)) (held_by s h (eqb h 9223372036854775807) refl few) $ split ! $
        assume ! (‵ (word b o (bump h))) $ show ! (λ (ls : List ℕ). Ends 𝓛 J b o bump with_hold ls h) [] $ move ! (3 ∷ 2 ∷ []) $ fjoin ! $ move ! (1 ∷ 2 ∷ 3 ∷ 0 ∷ []) $
        by ! (goes_on bump with_hold true s h (bump h) refl))

    token_here : (Z : Pr) → ⟦ token ⟧ ∗ A.dead (life z) ∗ ⟦ closed z ⟧ ⊢ Z
    token_here Z = qed 𝓛 (‵ token ∷ ‵ (fdead (life z)) ∷ ‵ (closed z) ∷ []) ∵ keep ! (0 ∷ 2 ∷ []) $ by ! (counting.share_closed 𝓛 R Q cv holds out P z q Z)

    pub holds_more : A.inv J ∗ ⟦ token ⟧ ⊢ asks 𝓛 (block_ptr b o) bump always with_hold
    holds_more = opened bump with_hold ⟦ token ⟧ token_here hold_law

  -- one hold less; the last one after the closer has left has the block
  abbrev pub fewer : ℕ → ℕ
  fewer n = (n + (2 ^ 64 - 1)) % 2 ^ 64

  abbrev pub released : ℕ → Fml
  released n = remains_if R Q cv.code holds out P z (eqb n 9223372036854775809) none

  lasts_by : (s : State S V) (h : ℕ) (y : Bool) → eqb h 9223372036854775809 ≡ y → 9223372036854775808 < h → h < 18446744073709551616
      → ⟦ rest 64 z.age (h - 9223372036854775808) ⟧ ∗ ⟦ part 64 z.age ⟧ ∗ ⟦ closed z ⟧ ∗ ⟦ grips_left z.grips of_holds (h - 9223372036854775808 - 1) ⟧ ∗ ⟦ around s ⟧
      ⊢ ⟦ word b o (fewer h) ⟧ -∗ Ended 𝓛 J b o fewer released h
  lasts_by s h true e big small = let at : h ≡ 9223372036854775809 = is_eq h 9223372036854775809 e in let one : h - 9223372036854775808 ≡ 1 = omega arith in
      qed 𝓛 (‵ (rest 64 z.age (h - 9223372036854775808)) ∷ ‵ (part 64 z.age) ∷ ‵ (closed z) ∷ ‵ (grips_left z.grips of_holds (h - 9223372036854775808 - 1)) ∷
      ‵ (around s) ∷ []) ∵
      rewrite ! 0 (λ (k : ℕ). ‵ (rest 64 z.age k)) one refl $ use2 𝓛 (‵ (flft (life z) full_share)) (counts.whole 64 𝓛 z.age) $ assume ! (‵ (word b o (fewer h))) $
      show ! (λ (ls : List ℕ). Ends 𝓛 J b o fewer released ls h) (z.age ∷ []) $ let D : Pr = A.dead (life z) in let N : Pr = Ends 𝓛 J b o fewer released [] h in
      suffices ! _ (upd_i 𝓤 (A.lft (life z) full_share ∗ (D -∗ N))) $ move ! (1 ∷ []) $ frame ! $ assume ! (‵ (fdead (life z))) $
      -- [over; the holds; over; the grips; what is around]
      let Z : Pr = ⟦ J ⟧ ∗ ⟦ released h ⟧ in suffices ! _ (upd_i 𝓤 Z) $ keep ! (1 ∷ 0 ∷ 2 ∷ 4 ∷ []) $ by ! (subst (λ (y : Bool). ⟦ word b o (fewer h) ⟧ ∗ D
      ∗ ⟦ closed z ⟧ ∗ ⟦ around s ⟧ ⊢ ⟦ J ⟧ ∗ ⟦ remains_if R Q cv.code holds out P z y none ⟧) (sym e) (over none s (fewer h) (λ k. k)))
  lasts_by s h false e big small = let ne = not_eq h 9223372036854775809 e in let many : 9223372036854775809 < h = above h big ne in let is : fewer h ≡ h - 1 = omega arith in
      qed 𝓛 (‵ (rest 64 z.age (h - 9223372036854775808)) ∷ ‵ (part 64 z.age) ∷ ‵ (closed z) ∷ ‵ (grips_left z.grips of_holds (h - 9223372036854775808 - 1)) ∷
      ‵ (around s) ∷ []) ∵
      types.Kit.group ! 4 $ use1 𝓛 (‵ (Counts false (word_of s) (h - 1))) (counting.hold_stays 𝓛 R Q cv holds out P z (word_of s) h many small) $ assume ! (‵ (word b o (fewer h))) $
      show ! (λ (ls : List ℕ). Ends 𝓛 J b o fewer released ls h) [] $ nothing ! $ rewrite ! 0 (λ (y : Bool). ‵ (remains_if R Q cv.code holds out P z y none)) (sym e) refl $
      move ! (1 ∷ 2 ∷ 3 ∷ 0 ∷ []) $ by ! (goes_on fewer released false s h (h - 1) is)
    where
      above : (n : ℕ) → 9223372036854775808 < n → ¬ (n ≡ 9223372036854775809) → 9223372036854775809 < n
      above n lt ne = omega (arith, ne)

  small_no : (h : ℕ) (y : Bool) → eqb h 9223372036854775809 ≡ y → h < 9223372036854775808 → eqb h 9223372036854775809 ≡ false
  small_no h true e small = let at = is_eq h 9223372036854775809 e in absurd (omega arith)
  small_no h false e small = e

  release_law : (y : Bool) (s : State S V) (h : ℕ) → h < 18446744073709551616 → ⟦ Counts y (word_of s) h ⟧ ∗ ⟦ hold_parts z ⟧ ∗ ⟦ around s ⟧ ⊢ ⟦ word b o (fewer h) ⟧ -∗
      Ended 𝓛 J b o fewer released h
  release_law true s h small = qed 𝓛 (‵ (Counts true (word_of s) h) ∷ ‵ (hold_parts z) ∷ ‵ (around s) ∷ []) ∵
      use2 𝓛 (given ((0 < h) × (h < 9223372036854775808)) (‵ (Counts true (word_of s) (h - 1)))) (counting.hold_less 𝓛 R Q cv holds out P z true (word_of s) h) $
      learn ! (λ some_out. let p = some_out.0 in let is : fewer h ≡ h - 1 = omega arith in assume ! (‵ (word b o (fewer h))) $ show ! (λ (ls : List ℕ). Ends 𝓛 J b o fewer released ls h)
      [] $ nothing ! $ rewrite ! 0 (λ (y : Bool). ‵ (remains_if R Q cv.code holds out P z y none)) (sym (small_no h (eqb h 9223372036854775809) refl some_out.1)) refl $
      move ! (1 ∷ 2 ∷ 3 ∷ 0 ∷ []) $ by ! (goes_on fewer released true s h (h - 1) is))
  release_law false s h small = qed 𝓛 (‵ (Counts false (word_of s) h) ∷ ‵ (hold_parts z) ∷ ‵ (around s) ∷ []) ∵
      use2 𝓛 (given ((9223372036854775808 < h) × (h < 18446744073709551616)) (‵ (rest 64 z.age (h - 9223372036854775808)) ⊛ ‵ (part 64 z.age) ⊛ ‵ (closed z) ⊛
      ‵ (grips_left z.grips of_holds (h - 9223372036854775808 - 1)))) (counting.hold_less 𝓛 R Q cv holds out P z false (word_of s) h) $ learn ! (λ at. split3 ! $ move ! (2 ∷ []) $ split ! $
      move ! (2 ∷ 3 ∷ 0 ∷ 1 ∷ 4 ∷ []) $ by ! (lasts_by s h (eqb h 9223372036854775809) refl at.0 at.1))

  hold_here : (Z : Pr) → ⟦ hold_parts z ⟧ ∗ A.dead (life z) ∗ ⟦ closed z ⟧ ⊢ Z
  hold_here Z = qed 𝓛 (‵ (hold_parts z) ∷ ‵ (fdead (life z)) ∷ ‵ (closed z) ∷ []) ∵ fsplit ! $ keep ! (0 ∷ 2 ∷ []) $ by ! (counting.part_dead 𝓛 z.age 64 Z)

  pub releases : A.inv J ∗ ⟦ hold_parts z ⟧ ⊢ asks 𝓛 (block_ptr b o) fewer always released
  releases = opened fewer released ⟦ hold_parts z ⟧ hold_here release_law

  -- the last share looks whether there is a hold, and leaves if there is
  module _ (id : ℕ) (me : Me S V) where
    abbrev Mine : Fml
    Mine = seat_owns R Q z cv.code id me

    abbrev Seat : maybe.Option (ℕ × V)
    Seat = maybe.some (id, me.0)

    abbrev Over : Bool → Fml
    Over y = remains_if R Q cv.code holds out P z y Seat

    -- the seat is in the roster
    alone_at : (s : State S V) → ⟦ around s ⟧ ∗ ⟦ Mine ⟧ ⊢ guard 𝓤 (holds s × (get_elem? s.views id ≡ maybe.some me.0)) (⟦ around s ⟧ ∗ ⟦ Mine ⟧)
    alone_at s = qed 𝓛 (‵ (around s) ∷ ‵ Mine ∷ []) ∵ fsplit3 ! $ move ! (2 ∷ []) $ fsplit ! $ move ! (1 ∷ []) $ fpick ! (λ so. drop ! $ move ! (3 ∷ []) $ fsplit ! $
        move ! (2 ∷ 0 ∷ []) $
        use2 𝓛 (given (get_elem? s.views id ≡ maybe.some me.0) (‵ (roster cv.code z.views 0 s.views) ⊛ ‵ (seen cv.code z.views id three_quarters me.0))) (seen_at 𝓛 cv z.views s.views id
        me.0) $ learn ! (λ at. split ! $
        -- [the roster; the view; what the seat carries; the word; the slots and what is lent]
        types.Kit.check ! (so.0, at) $ nothing ! $ fpack ! (Fits holds s) (λ _. ftrue) so $ move ! (1 ∷ 0 ∷ []) $ fjoin ! $ move ! (3 ∷ 4 ∷ 0 ∷ []) $ fjoin3 ! $ frame ! $ fjoin ! $ done !))

    module _ (f : ℕ → ℕ) (after : ℕ → Fml) where
      -- no hold: both counts end, and the block
      ends_all : (s : State S V) (h : ℕ) (K : Fml) → h ≡ 0 → out (word_of s) ≡ 0 → (holds s × (get_elem? s.views id ≡ maybe.some me.0)) →
          ((⟦ Over true ⟧ ∗ ⟦ K ⟧) ⊢ ⟦ after h ⟧)
          → ⟦ Counts true (word_of s) h ⟧ ∗ ⟦ last_parts z ⟧ ∗ ⟦ around s ⟧ ∗ ⟦ K ⟧ ⊢ ⟦ word b o (f h) ⟧ -∗ Ended 𝓛 J b o f after h
      ends_all s h K alone unshared at gives = let D : Pr = A.dead (life z) in let N : Pr = Ends 𝓛 J b o f after [] h in
          qed 𝓛 (‵ (Counts true (word_of s) h) ∷ ‵ (last_parts z) ∷ ‵ (around s) ∷ ‵ K ∷ []) ∵ rewrite ! 0 (λ (k : ℕ). ‵ (Counts true (word_of s) k)) alone refl $
          use2 𝓛 (‵ (flft (life z) full_share) ⊛ ‵ (closed z)) (counting.alone 𝓛 R Q cv holds out P z (word_of s) unshared) $ split ! $ assume ! (‵ (word b o (f h))) $
          show ! (λ (ls : List ℕ). Ends 𝓛 J b o f after ls h) (z.age ∷ []) $ suffices ! _ (upd_i 𝓤 (A.lft (life z) full_share ∗ (D -∗ N))) $ move ! (1 ∷ []) $
          frame ! $ assume ! (‵ (fdead (life z))) $
          -- [over; the holds; closed; what is around; K]
          let Z : Pr = ⟦ J ⟧ ∗ ⟦ after h ⟧ in suffices ! _ (upd_i 𝓤 Z) $ move ! (1 ∷ 0 ∷ 2 ∷ 3 ∷ []) $ types.Kit.group ! 4 $
          use1 𝓛 (‵ J ⊛ ‵ (Over true)) (over Seat s (f h) (λ _. at)) $ split ! $ frame ! $ by ! gives

      -- by the holds that are found
      module _ (next : (s : State S V) (h : ℕ) (y : Bool) → eqb h 0 ≡ y → h < 9223372036854775808 → out (word_of s) ≡ 0 →
          (holds s × (get_elem? s.views id ≡ maybe.some me.0))
          → ⟦ Counts true (word_of s) h ⟧ ∗ ⟦ last_parts z ⟧ ∗ ⟦ around s ⟧ ∗ ⟦ Mine ⟧ ⊢ ⟦ word b o (f h) ⟧ -∗ Ended 𝓛 J b o f after h) where
        law : (y : Bool) (s : State S V) (h : ℕ) → h < 18446744073709551616 → ⟦ Counts y (word_of s) h ⟧ ∗ (⟦ last_parts z ⟧ ∗ ⟦ Mine ⟧) ∗ ⟦ around s ⟧
            ⊢ ⟦ word b o (f h) ⟧ -∗ Ended 𝓛 J b o f after h
        law false s h small = qed 𝓛 (‵ (Counts false (word_of s) h) ∷ (‵ (last_parts z) ⊛ ‵ Mine) ∷ ‵ (around s) ∷ []) ∵ fsplit3 ! $ move ! (1 ∷ []) $ fsplit ! $
            move ! (4 ∷ []) $
            split ! $ keep ! (0 ∷ 3 ∷ []) $ by ! (counting.lone_closed 𝓛 R Q cv holds out P z _)
        law true s h small = qed 𝓛 (‵ (Counts true (word_of s) h) ∷ (‵ (last_parts z) ⊛ ‵ Mine) ∷ ‵ (around s) ∷ []) ∵ fsplit ! $ fpick ! (λ few. drop ! $ nothing ! $
            fpack ! (h < 9223372036854775808) (λ _. ftrue) few $ fjoin ! $ move ! (1 ∷ []) $ split ! $ move ! (2 ∷ 0 ∷ []) $
            use2 𝓛 (given (out (word_of s) ≡ 0) (‵ (Counts true (word_of s) h) ⊛ ‵ (last_parts z))) (counting.lone_parts 𝓛 R Q cv holds out P z (word_of s) h) $
            learn ! (λ unshared. split ! $
            move ! (3 ∷ 2 ∷ []) $ use2 𝓛 (given (holds s × (get_elem? s.views id ≡ maybe.some me.0)) (‵ (around s) ⊛ ‵ Mine)) (alone_at s) $
            learn ! (λ at. split ! $
            -- [what is around; the seat; the counts; the parts]
            move ! (2 ∷ 3 ∷ 0 ∷ 1 ∷ []) $ by ! (next s h (eqb h 0) refl few unshared at))))

        here : (Z : Pr) → (⟦ last_parts z ⟧ ∗ ⟦ Mine ⟧) ∗ A.dead (life z) ∗ ⟦ closed z ⟧ ⊢ Z
        here Z = qed 𝓛 ((‵ (last_parts z) ⊛ ‵ Mine) ∷ ‵ (fdead (life z)) ∷ ‵ (closed z) ∷ []) ∵ split ! $ fsplit ! $ keep ! (0 ∷ 3 ∷ []) $
            by ! (counting.part_dead 𝓛 z.age 64 Z)

        by_holds : A.inv J ∗ ⟦ last_parts z ⟧ ∗ ⟦ Mine ⟧ ⊢ asks 𝓛 (block_ptr b o) f always after
        by_holds = opened f after (⟦ last_parts z ⟧ ∗ ⟦ Mine ⟧) here law

    -- a look
    abbrev pub looked : ℕ → Fml
    looked n = fsep (parts_if false (not (eqb n 0)) z) (fsep (Over (eqb n 0)) Mine)

    abbrev still : ℕ → ℕ
    still n = n

    look_next : (s : State S V) (h : ℕ) (y : Bool) → eqb h 0 ≡ y → h < 9223372036854775808 → out (word_of s) ≡ 0 → (holds s × (get_elem? s.views id ≡ maybe.some
        me.0))
        → ⟦ Counts true (word_of s) h ⟧ ∗ ⟦ last_parts z ⟧ ∗ ⟦ around s ⟧ ∗ ⟦ Mine ⟧ ⊢ ⟦ word b o h ⟧ -∗ Ended 𝓛 J b o still looked h
    look_next s h true e few one at = ends_all still looked s h Mine (is_eq h 0 e) one at (qed 𝓛 (‵ (Over true) ∷ ‵ Mine ∷ []) ∵
        fjoin ! $ nothing ! $ fjoin ! $ rewrite ! 0 (λ (y : Bool). ‵ (fsep (parts_if false (not y) z) (fsep (Over y) Mine))) (sym e) refl $ done !)
    look_next s h false e few one at = qed 𝓛 (‵ (Counts true (word_of s) h) ∷ ‵ (last_parts z) ∷ ‵ (around s) ∷ ‵ Mine ∷ []) ∵ assume ! (‵ (word b o h)) $
        show ! (λ (ls : List ℕ). Ends 𝓛 J b o still looked ls h) [] $
        -- [the holds; the counts; the parts; what is around; the seat]
        nothing ! $ move ! (0 ∷ 5 ∷ []) $ fjoin ! $ move ! (3 ∷ 0 ∷ []) $ fjoin ! $ rewrite ! 0 (λ (y : Bool). ‵ (fsep (parts_if false (not y) z) (fsep (Over y) Mine))) (sym e) refl $
        move ! (1 ∷ 2 ∷ 3 ∷ 0 ∷ []) $ by ! (goes_on still looked true s h h refl)

    pub looks_last : A.inv J ∗ ⟦ last_parts z ⟧ ∗ ⟦ Mine ⟧ ⊢ asks 𝓛 (block_ptr b o) (λ n. n) always looked
    looks_last = by_holds still looked look_next

    -- leaving
    abbrev pub more : ℕ → ℕ
    more n = (n + 9223372036854775808) % 2 ^ 64

    abbrev pub left : ℕ → Fml
    left n = fsep (Over (eqb n 0)) Mine

    leave_next : (s : State S V) (h : ℕ) (y : Bool) → eqb h 0 ≡ y → h < 9223372036854775808 → out (word_of s) ≡ 0 → (holds s × (get_elem? s.views id ≡ maybe.some
        me.0))
        → ⟦ Counts true (word_of s) h ⟧ ∗ ⟦ last_parts z ⟧ ∗ ⟦ around s ⟧ ∗ ⟦ Mine ⟧ ⊢ ⟦ word b o (more h) ⟧ -∗ Ended 𝓛 J b o more left h
    leave_next s h true e few one at = ends_all more left s h Mine (is_eq h 0 e) one at (qed 𝓛 (‵ (Over true) ∷ ‵ Mine ∷ []) ∵ fjoin ! $
        rewrite ! 0 (λ (y : Bool). ‵ (fsep (Over y) Mine)) (sym e) refl $ done !)
    leave_next s h false e few one at = let C : Fml = Counts false (word_of s) (h + 9223372036854775808) in let is : more h ≡ h + 9223372036854775808 = omega arith in
        qed 𝓛 (‵ (Counts true (word_of s) h) ∷ ‵ (last_parts z) ∷ ‵ (around s) ∷ ‵ Mine ∷ []) ∵
        use2 𝓛 (‵ C) (counting.departs 𝓛 R Q cv holds out P z (word_of s) h one (positive h (not_eq h 0 e))) $ assume ! (‵ (word b o (more h))) $
        show ! (λ (ls : List ℕ). Ends 𝓛 J b o more left ls h) [] $
        -- [the holds; the counts; what is around; the seat]
        nothing ! $ move ! (0 ∷ 4 ∷ []) $ fjoin ! $ rewrite ! 0 (λ (y : Bool). ‵ (fsep (Over y) Mine)) (sym e) refl $ move ! (1 ∷ 2 ∷ 3 ∷ 0 ∷ []) $
        by ! (goes_on more left false s h (h + 9223372036854775808) is)
      where
        positive : (n : ℕ) → ¬ (n ≡ 0) → 0 < n
        positive n ne = omega (arith, ne)

    pub leaves_last : A.inv J ∗ ⟦ last_parts z ⟧ ∗ ⟦ Mine ⟧ ⊢ asks 𝓛 (block_ptr b o) more always left
    leaves_last = by_holds more left leave_next
