-- A block begins: both counts, the loans, the invariant, the first shares and the first seat. And it ends: what lies in its slots. Assumes `Logic`.
use Rattle.std.proofs.Common.{eqb, ◌≡◌, ℕ, ◌+◌, ◌<◌, Bool, true, false, [], ◌∷◌, sym, refl, arith, lit<, zero, suc, List, length, get_or, ap, ◌∙◌}
use seplogic.Ra.Ura.{Ura}
use mir.Syntax.{Ty}
use base.Fraction.{full_share}
use base.FractionLaws.{Counts-all}
use base.Stored.{Coded}
use base.Logic.{SProp, ent, sep, ex, guard, via, never_e}
use base.Fml.{Lft, Incl, Incl-trans, Share, Fml, ftrue, fsep, fauth, flft, ffalse, fdead}
use contract.BorrowLft.{meet_⊑_left, meet_⊑_right}
use prog.Atomic.{either}
use types.Logic.{Logic, sem}
use types.Kit.{‵, raw, ◌⊛◌, some, later, ◌$◌, ◌∵◌, !, qed, move, use0, use1, use2, use3, split, split3, join, group, fsplit, fsplit3, fjoin, fjoin3, fpick, fpack, pick, check}
use types.Kit.{show, frame, await, updating, now, rewrite, done, given, by, keep, drop, learn}
use types.Tokens.{lft_new, bor_new, name_new, lent_back, name_agree}
use types.Owned.{basic}
use types.RcWeak.{part, rest, part_in, cut}
use types.RcWeak as counts
use denote.RattleType.{RattleType}
use denote.Memory.{part_at}
use denote.RawPtr.{Ptr, block_ptr}
use denote.Steps.{nothing}
use denote.Struct.Lending.{Lends}
use Rattle.atomic_table.specs.Table.{State, opening, Final}
use Rattle.atomic_table.specs.Seated.{roster}
use Rattle.atomic_table.specs.Marked.{mark_owns}
use Rattle.atomic_table.proofs.Marking as marking
use Rattle.counted_block.specs.declared.place.Place.{Place}
use Rattle.counted_block.specs.declared.place.Place.TheVariants.{First, Second}
use Rattle.counted_block.specs.Layout.{at_first, at_second}
use Rattle.counted_block.specs.Blocks.{BlockId, life, place, is_one, is_all, of_shares, of_last, keepers, grip, shares_left, parts, parts_if, grips_left, Fits, seat_owns, words_in, standing, stands}
use Rattle.counted_block.specs.Blocks.{word_of, Known, first_body, second_body, tracked, home, shelf, owed, remaining}
use Rattle.counted_block.specs.Held.{slots_there, content, looked_at, kept_of}
use Rattle.counted_block.proofs.Counting as grips
use Rattle.counted_block.proofs.Lending.{keeps_new}
use Rattle.counted_block.proofs.Signs.{Signs, signs}
use Rattle.counted_block.proofs.Holds.{is_eq, not_eq}
use mathlib.Core.Option as maybe
use lib.ListN.{get_elem?}

-- one share or two
abbrev pub first_out : Bool → ℕ
first_out y = either y 2 1

pub first_counts : (m : ℕ) (y : Bool) → eqb m 2 ≡ y → 0 < m → m < 3 → m ≡ first_out y
first_counts m true e lo hi = is_eq m 2 e
first_counts m false e lo hi = let ne = not_eq m 2 e in omega (arith, ne)

module _ {M : Type 1} {𝓤 : Ura M} (𝓛 : Logic 𝓤) (z : BlockId) where
  abbrev Grips : ℕ → Fml
  Grips n = fsep (rest 64 z.age (keepers n + 0)) (shares_left z n)

  -- a share, and a second one where there are two
  first_parts : (y : Bool) → ent 𝓤 (sep 𝓤 (sem 𝓛 (rest 64 z.age 1)) (sep 𝓤 (sem 𝓛 (grips_left z.grips of_shares 0)) (sem 𝓛 (grip is_all z.grips of_last))))
      (sep 𝓤 (sem 𝓛 (Grips (first_out y))) (sep 𝓤 (sem 𝓛 (grip is_one z.grips of_shares)) (sem 𝓛 (parts_if y false z))))
  first_parts false = qed 𝓛 (‵ (rest 64 z.age 1) ∷ ‵ (grips_left z.grips of_shares 0) ∷ ‵ (grip is_all z.grips of_last) ∷ []) ∵ move ! (1 ∷ []) $
      use1 𝓛 (‵ (grips_left z.grips of_shares 1) ⊛ ‵ (grip is_one z.grips of_shares)) (grips.takes 𝓛 z.grips of_shares 0 (lit< tt)) $ split ! $ move ! (0 ∷ 3 ∷ []) $ fjoin ! $
      move ! (2 ∷ 0 ∷ []) $ fjoin ! $ frame ! $ frame ! $ nothing ! $ done !
  first_parts true = qed 𝓛 (‵ (rest 64 z.age 1) ∷ ‵ (grips_left z.grips of_shares 0) ∷ ‵ (grip is_all z.grips of_last) ∷ []) ∵
      use1 𝓛 (‵ (rest 64 z.age 2) ⊛ ‵ (part 64 z.age)) (counts.takes 64 𝓛 z.age 1 (lit< tt)) $ split ! $ move ! (2 ∷ []) $
      use1 𝓛 (‵ (grips_left z.grips of_shares 1) ⊛ ‵ (grip is_one z.grips of_shares)) (grips.takes 𝓛 z.grips of_shares 0 (lit< tt)) $ split ! $
      use1 𝓛 (‵ (grips_left z.grips of_shares 2) ⊛ ‵ (grip is_one z.grips of_shares)) (grips.takes 𝓛 z.grips of_shares 1 (lit< tt)) $ split ! $
      -- [the shares' grips; one; one more; the age's rest and part; the last share's]
      move ! (0 ∷ 5 ∷ []) $ fjoin ! $ move ! (3 ∷ 0 ∷ []) $ fjoin ! $ frame ! $ frame ! $ move ! (1 ∷ 0 ∷ []) $ fjoin ! $ done !

only_word : (ns : List ℕ) → length ns ≡ 1 → ns ≡ get_or ns 0 0 ∷ []
only_word [] l = absurd (omega arith)
only_word (n ∷ []) l = refl
only_word (n ∷ m ∷ ns) l = absurd (omega arith)

module _ {X : Type 0} where
  abbrev Had : maybe.Option X → X → Type 0
  Had h x = (y : X) → h ≡ maybe.some y → x ≡ y

  -- the slots at home have their values
  abbrev Tied : List (maybe.Option X) → X → X → Type 0
  Tied hs x y = (k : ℕ) (u : X) → get_elem? hs k ≡ maybe.some (maybe.some u) → get_elem? (x ∷ y ∷ []) k ≡ maybe.some u

  tied : (a b : maybe.Option X) (x y : X) → Had a x → Had b y → Tied (a ∷ b ∷ []) x y
  tied a b x y ha hb zero u e = ap maybe.some (ha u (maybe.some-injective a (maybe.some u) e))
  tied a b x y ha hb (suc zero) u e = ap maybe.some (hb u (maybe.some-injective b (maybe.some u) e))
  tied a b x y ha hb (suc (suc k)) u e = absurd (maybe.some-ne-none (maybe.some u) (sym e))

module _ {M : Type 1} {𝓤 : Ura M} (𝓛 : Logic 𝓤) (R Q T : RattleType) where
  open 𝓛 use {H, A}

  abbrev Pr : Type 2
  Pr = SProp 𝓤

  abbrev 𝓝 : Signs 𝓛
  𝓝 = signs 𝓛

  open 𝓝 use {⟦◌⟧, ◌⊢◌, ◌∗◌}

  abbrev S : Type 0
  S = Place R.Denot Q.Denot

  module _ {V : Type 0} (cv : Coded V) (holds : State S V → Type 0) (out : ℕ → ℕ) (k : Ty → Ptr → Fml) (x : T.Denot) (b o : ℕ) where
    -- a place with no names yet
    abbrev pub unnamed : BlockId
    unnamed = record { views = 0; age = 0; grips = 0; first = 0; second = 0; block = b; offset = o }

    abbrev P : Fml
    P = content R Q T k unnamed x

    module _ (y : Bool) (n : ℕ) (m : R.Denot × Q.Denot) (v : V) where
      abbrev pub Begun : BlockId → Pr
      Begun z = guard 𝓤 (place z ≡ block_ptr b o) (⟦ parts z ⟧ ∗ ⟦ parts_if y false z ⟧ ∗ ⟦ kept_of R Q T cv.code holds out k z x ⟧ ∗ ⟦ looked_at R Q T k z x (life z) ⟧
          ∗ ⟦ seat_owns R Q z cv.code 0 (v, []) ⟧)

      packs : (z : BlockId) → place z ≡ block_ptr b o → ⟦ parts z ⟧ ∗ ⟦ parts_if y false z ⟧ ∗ ⟦ kept_of R Q T cv.code holds out k z x ⟧ ∗
          ⟦ looked_at R Q T k z x (life z) ⟧
          ∗ ⟦ seat_owns R Q z cv.code 0 (v, []) ⟧ ⊢ ex 𝓤 Begun
      packs z at = qed 𝓛 (‵ (parts z) ∷ ‵ (parts_if y false z) ∷ ‵ (kept_of R Q T cv.code holds out k z x) ∷ ‵ (looked_at R Q T k z x (life z)) ∷
          ‵ (seat_owns R Q z cv.code 0 (v, [])) ∷
          []) ∵ show ! Begun z $ check ! at $ done !

      pub begun : out n ≡ first_out y → holds (opening (n ∷ []) (First m.0 ∷ Second m.1 ∷ []) v) → (l : Lft) → Lends 𝓛 P (looked_at R Q T k unnamed x) l → (μ : Lft) (q : Share) →
          Incl μ l
          → ⟦ words_in unnamed n 0 ⟧ ∗ ⟦ slots_there R Q T k unnamed x m ⟧ ∗ ⟦ P ⟧ ∗ A.lft μ q ⊢ H.⇛ (ex 𝓤 Begun ∗ A.lft μ q)
      begun count good l lends μ q inc = qed 𝓛 (‵ (words_in unnamed n 0) ∷ ‵ (slots_there R Q T k unnamed x m) ∷ ‵ P ∷ ‵ (flft μ q) ∷ []) ∵ updating ! $
          lft_new ! tt (λ a. use1 𝓛 (‵ (rest 64 a 1) ⊛ ‵ (part 64 a)) (cut 64 𝓛 a 0 full_share (lit< tt) (Counts-all 64)) $ split ! $
          -- [the age's rest and part; the words; the slots; the content; the token]
          move ! (3 ∷ []) $ fsplit ! $ name_new ! tt (R.coded.code m.0) (λ d₀. move ! (2 ∷ 1 ∷ []) $ fjoin ! $ fpack ! R.Denot (λ w. fsep (part_at R full_share w b (o + at_first R))
          (fauth d₀ (R.coded.code w))) m.0 $ bor_new ! tt (a ∷ []) $ move ! (2 ∷ 0 ∷ []) $ fjoin ! $ move ! (2 ∷ []) $ name_new ! tt (Q.coded.code m.1) (λ d₁. move ! (2 ∷ 1 ∷ []) $
          fjoin ! $ fpack ! Q.Denot (λ w. fsep (part_at Q full_share w b (o + at_second R Q)) (fauth d₁ (Q.coded.code w))) m.1 $ bor_new ! tt (a ∷ []) $ move ! (2 ∷ 0 ∷ []) $ fjoin ! $
          -- [the second slot and the right to it; the first's; the age's rest and part; the words; the content; the token]
          nothing ! $ move ! (1 ∷ 0 ∷ []) $ fjoin ! $ move ! (2 ∷ 0 ∷ []) $ fjoin ! $ move ! (2 ∷ 1 ∷ []) $ fjoin ! $
          -- [the rights; the shelf; the age's rest and part; the words; the content; the token]
          move ! (5 ∷ []) $ bor_new ! tt (a ∷ []) $ move ! (1 ∷ 2 ∷ []) $ fjoin ! $ move ! (2 ∷ 0 ∷ []) $ fjoin ! $ use0 𝓛 (later (some (λ (γ : ℕ). ‵ (grips.Begun 𝓛 γ))))
          (via 𝓤 _ (grips.begins 𝓛) (basic 𝓛 (ex 𝓤 (λ (γ : ℕ). ⟦ grips.Begun 𝓛 γ ⟧)))) $ await ! tt $
          pick ! (λ γ'. fsplit3 ! $ use0 𝓛 (later (some (λ (γ : ℕ). ‵ (roster cv.code γ 0 (v ∷ [])) ⊛ ‵ (mark_owns cv.code γ 0 v)))) (marking.begins 𝓛 cv v) $ await ! tt $
          pick ! (λ γ. split ! $ let z : BlockId = record { views = γ; age = a; grips = γ'; first = d₀; second = d₁; block = b; offset = o } in
          let s₀ : State S V = opening (n ∷ []) (First m.0 ∷ Second m.1 ∷ []) v in
          -- [the roster; the view; the grips, of each kind; the slots and what is lent; the content's borrow; the age's rest and part; the words; the token]
          nothing ! $ fpack ! (Fits holds s₀) (λ _. ftrue) (good, refl, refl) $ move ! (1 ∷ 0 ∷ []) $ fjoin ! $ move ! (7 ∷ 3 ∷ 4 ∷ []) $
          use3 𝓛 (‵ (Grips 𝓛 z (first_out y)) ⊛ ‵ (grip is_one γ' of_shares) ⊛ ‵ (parts_if y false z)) (first_parts 𝓛 z y) $ split3 ! $
          rewrite ! 0 (λ (i : ℕ). ‵ (Grips 𝓛 z i)) (sym count) refl $ move ! (0 ∷ 5 ∷ []) $ fjoin ! $ nothing ! $ fpack ! (0 < 9223372036854775808) (λ _. ftrue) (lit< tt) $
          fjoin ! $
          -- [the counts; a grip; the second share; the views; the view; the slots and what is lent; the borrow; the age's part; the words; the token]
          move ! (5 ∷ 3 ∷ []) $ fjoin ! $ move ! (7 ∷ 1 ∷ 0 ∷ []) $ fjoin3 ! $ fpack ! (Bool × (State S V × ℕ)) (standing R Q cv.code holds out P z) (true, (s₀, 0)) $
          fpack ! Bool (stands R Q cv.code holds out P z) true $ use1 𝓛 (later (‵ (kept_of R Q T cv.code holds out k z x))) (keeps_new R Q cv.code holds out P z 𝓛) $ await ! tt $
          -- [what is kept; a grip; the second share; the view; the borrow; the age's part; the token]
          move ! (5 ∷ []) $ fpick ! (λ e. fpick ! (λ c. move ! (0 ∷ 6 ∷ []) $ join ! $ move ! (5 ∷ 0 ∷ []) $ use2 𝓛 (later (‵ (looked_at R Q T k unnamed x (a ∷ [])) ⊛
          ‵ (flft (a ∷ []) e) ⊛ ‵ (flft μ q))) (lends (a ∷ []) ((a ∷ [], e) ∷ (μ, q) ∷ []) (Incl-trans (meet_⊑_right (a ∷ []) μ) inc) (meet_⊑_left (a ∷ []) μ)) $
          await ! tt $
          split3 ! $ move ! (1 ∷ []) $ use1 𝓛 (‵ (part 64 a)) (part_in 64 𝓛 a e c) $ move ! (0 ∷ 4 ∷ []) $ fjoin ! $
          -- [the parts; the value; the token; what is kept; the second share; the view]
          nothing ! $ move ! (6 ∷ 0 ∷ []) $ fjoin ! $ move ! (1 ∷ 5 ∷ 4 ∷ 2 ∷ 0 ∷ []) $ group ! 5 $ use1 𝓛 (raw (ex 𝓤 Begun)) (packs z refl) $ now ! $ done !)))))))

  -- what lies in the slots of a block that has ended
  module _ (t : Ty → Ptr → Fml) (z : BlockId) (v : T.Denot) where
    abbrev FirstHad : maybe.Option S → R.Denot → Pr
    FirstHad h x = guard 𝓤 ((u : S) → h ≡ maybe.some u → First x ≡ u) ⟦ part_at R full_share x z.block (z.offset + at_first R) ⟧

    first_back : (h : maybe.Option S) → ⟦ first_body R Q z ⟧ ∗ ⟦ home R Q z 0 h ⟧ ⊢ ex 𝓤 (FirstHad h)
    first_back maybe.none = qed 𝓛 (‵ (first_body R Q z) ∷ ‵ ftrue ∷ []) ∵ fpick ! (λ x. fsplit ! $ show ! (FirstHad maybe.none) x $
        check ! (λ u e. absurd (maybe.some-ne-none u (sym e))) $ keep ! (0 ∷ []) $ done !)
    first_back (maybe.some (First y)) = qed 𝓛 (‵ (first_body R Q z) ∷ ‵ (tracked R Q z 0 (First y)) ∷ []) ∵ fpick ! (λ x. fsplit ! $ move ! (2 ∷ []) $ fsplit ! $
        move ! (0 ∷ 3 ∷ []) $ name_agree ! R.coded (λ same.
        show ! (FirstHad (maybe.some (First y))) x $ check ! (λ u e. ap First (sym same) ∙ maybe.some-injective (First y) u e) $ keep ! (3 ∷ []) $ done !))
    first_back (maybe.some (Second y)) = qed 𝓛 (‵ (first_body R Q z) ∷ ‵ ffalse ∷ []) ∵ move ! (1 ∷ []) $ keep ! (0 ∷ []) $
        by ! (never_e 𝓤 (ex 𝓤 (FirstHad (maybe.some (Second y)))))

    abbrev SecondHad : maybe.Option S → Q.Denot → Pr
    SecondHad h x = guard 𝓤 ((u : S) → h ≡ maybe.some u → Second x ≡ u) ⟦ part_at Q full_share x z.block (z.offset + at_second R Q) ⟧

    second_back : (h : maybe.Option S) → ⟦ second_body R Q z ⟧ ∗ ⟦ home R Q z 1 h ⟧ ⊢ ex 𝓤 (SecondHad h)
    second_back maybe.none = qed 𝓛 (‵ (second_body R Q z) ∷ ‵ ftrue ∷ []) ∵ fpick ! (λ x. fsplit ! $ show ! (SecondHad maybe.none) x $
        check ! (λ u e. absurd (maybe.some-ne-none u (sym e))) $ keep ! (0 ∷ []) $ done !)
    second_back (maybe.some (Second y)) = qed 𝓛 (‵ (second_body R Q z) ∷ ‵ (tracked R Q z 1 (Second y)) ∷ []) ∵ fpick ! (λ x. fsplit ! $ move ! (2 ∷ []) $ fsplit ! $
        move ! (0 ∷ 3 ∷ []) $ name_agree ! Q.coded (λ same.
        show ! (SecondHad (maybe.some (Second y))) x $ check ! (λ u e. ap Second (sym same) ∙ maybe.some-injective (Second y) u e) $ keep ! (3 ∷ []) $ done !))
    second_back (maybe.some (First y)) = qed 𝓛 (‵ (second_body R Q z) ∷ ‵ ffalse ∷ []) ∵ move ! (1 ∷ []) $ keep ! (0 ∷ []) $
        by ! (never_e 𝓤 (ex 𝓤 (SecondHad (maybe.some (First y)))))

    abbrev Slots : R.Denot × Q.Denot → Fml
    Slots = slots_there R Q T t z v

    abbrev Kept : List (maybe.Option S) → R.Denot × Q.Denot → Type 0
    Kept hs m = (k : ℕ) (u : S) → get_elem? hs k ≡ maybe.some (maybe.some u) → get_elem? (First m.0 ∷ Second m.1 ∷ []) k ≡ maybe.some u

    abbrev All : List (maybe.Option S) → R.Denot × Q.Denot → Pr
    All hs m = guard 𝓤 (Kept hs m) ⟦ Slots m ⟧

    all_back : (hs : List (maybe.Option S)) → length hs ≡ 2 → A.dead (life z) ∗ ⟦ shelf R Q z 0 hs ⟧ ∗ ⟦ owed R Q z ⟧ ⊢ H.⇛ (ex 𝓤 (All hs))
    all_back [] l = absurd (omega arith)
    all_back (a ∷ []) l = absurd (omega arith)
    all_back (a ∷ b ∷ []) l = qed 𝓛 (‵ (fdead (life z)) ∷ ‵ (shelf R Q z 0 (a ∷ b ∷ [])) ∷ ‵ (owed R Q z) ∷ []) ∵ updating ! $
        use1 𝓛 (‵ (fdead (life z)) ⊛ ‵ (fdead (life z))) (𝓛.lfts.dead_dup (life z)) $ split ! $
        -- [over, twice; the slots; the rights]
        move ! (3 ∷ []) $ fsplit ! $ move ! (4 ∷ []) $ fsplit3 ! $ move ! (2 ∷ []) $ drop ! $
        -- [the homes, two; the rights, two; over, twice]
        move ! (4 ∷ 2 ∷ []) $ lent_back ! tt $ move ! (0 ∷ 1 ∷ []) $ use2 𝓛 (some (λ (x : R.Denot). given ((u : S) → a ≡ maybe.some u → First x ≡ u) (‵ (part_at R full_share x
        z.block (z.offset + at_first R))))) (first_back a) $ pick ! (λ x. learn ! (λ ha.
        -- [the first; the second's home; its right; over]
        move ! (3 ∷ 2 ∷ []) $ lent_back ! tt $ move ! (0 ∷ 2 ∷ []) $ use2 𝓛 (some (λ (y : Q.Denot). given ((u : S) → b ≡ maybe.some u → Second y ≡ u) (‵ (part_at Q full_share y
        z.block (z.offset + at_second R Q))))) (second_back b) $ pick ! (λ y. learn ! (λ hb. move ! (1 ∷ 0 ∷ []) $ fjoin ! $ now ! $ show ! (All (a ∷ b ∷ [])) (x, y) $
        check ! (tied a b (First x) (Second y) ha hb) $ done !))))
    all_back (a ∷ b ∷ c ∷ hs) l = absurd (omega arith)

    module _ {V : Type 0} (cv : Coded V) (holds : State S V → Type 0) (out : ℕ → ℕ) (seat : maybe.Option (ℕ × V)) (s : State S V) (h : ℕ) where
      abbrev pub Gathered : R.Denot × Q.Denot → Pr
      Gathered m = guard 𝓤 (Final (Known holds seat) (word_of s ∷ []) (First m.0 ∷ Second m.1 ∷ [])) (⟦ words_in z (word_of s) h ⟧ ∗ ⟦ Slots m ⟧ ∗ ⟦ content R Q T t z v ⟧)

      pub gathers : ⟦ remaining R Q cv.code holds out (content R Q T t z v) z seat (s, h) ⟧ ⊢ H.⇛ (ex 𝓤 Gathered)
      gathers = qed 𝓛 (‵ (remaining R Q cv.code holds out (content R Q T t z v) z seat (s, h)) ∷ []) ∵ updating ! $ fsplit3 ! $ move ! (2 ∷ []) $ fpick ! (λ so. drop ! $
          move ! (1 ∷ []) $ fsplit3 ! $
          move ! (2 ∷ []) $ fsplit ! $
          -- [the right to the value; the rights to the slots; over; the slots; the words]
          move ! (2 ∷ []) $ use1 𝓛 (‵ (fdead (life z)) ⊛ ‵ (fdead (life z))) (𝓛.lfts.dead_dup (life z)) $ split ! $ move ! (0 ∷ 4 ∷ 3 ∷ []) $
          use3 𝓛 (later (some (λ (m : R.Denot × Q.Denot). given (Kept s.homes m) (‵ (Slots m))))) (all_back s.homes so.2) $ await ! tt $ pick ! (λ m. learn ! (λ tie.
          -- [the slots; over; the right to the value; the words]
          move ! (1 ∷ 2 ∷ []) $ lent_back ! tt $ now ! $ show ! Gathered m $ check ! (s, so.0, only_word s.words so.1, so.2, tie) $ move ! (2 ∷ 1 ∷ 0 ∷ []) $ done !)))
