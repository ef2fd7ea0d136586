-- What a seat does: it takes slots and brings them back, steps on the word, is made, is cut in two, and notes what it knows. Assumes `Logic`.
use Rattle.std.proofs.Common.{◌≡◌, ℕ, ◌+◌, ◌^◌, ◌<◌, Bool, true, false, List, [], ◌∷◌, length, get_or, set, sym, refl, ap, ◌∙◌, subst, arith, length-set, w64}
use Rattle.std.proofs.Common.{◌++◌, zero, suc}
use mathlib.Core.Bool.{not}
use mathlib.Core.Option as maybe
use lib.ListN.{get_elem?}
use seplogic.Ra.Ura.{Ura}
use mir.Syntax.{ty_int}
use mir.Val.{vint, has_ty, WT}
use base.Fraction.{full_share}
use base.Share.{three_quarters}
use base.Stored.{Coded, Gv}
use base.Logic.{SProp, ex, all, guard, upd, all_e, upd_i, wand, via, mono_r, id⊢, snd∗}
use base.Fml.{Share, Fml, ftrue, fsep, fex, fdead}
use types.Logic.{Logic, sem}
use types.Kit.{‵, raw, ◌⊛◌, some, given, ◌$◌, ◌∵◌, !, qed, by, move, keep, drop, split, fsplit, fsplit3, fjoin, fjoin3, fpick, fpack, pick, learn, show, check, frame, assume, done}
use types.Kit.{suffices, settle, use1, use2, rewrite, each}
use denote.RattleType.{RattleType}
use denote.RawPtr.{block_ptr}
use denote.Steps.{nothing}
use Rattle.std.specs.Sync.RawAtomic.{asks, always}
use Rattle.atomic_table.specs.Table.{State, Me, Act, Allows, carried_after, stepped, keeps, Enters, Splits, takes, gives, chain, homes_after, Valid, turned}
use Rattle.atomic_table.specs.Seated.{word, fact, seen, roster}
use Rattle.atomic_table.proofs.Roster.{Moved, moves, Joined, joins}
use Rattle.counted_block.specs.declared.place.Place.{Place}
use Rattle.counted_block.specs.Blocks.{BlockId, of_shares, of_last, gripped, parts, last_parts, parts_if, closed, word_of, Fits, shelf, carried, seat_owns, words_in, counted, standing, stands}
use Rattle.counted_block.specs.Blocks.{block, life, views_in, ghostly, tracked, home}
use Rattle.counted_block.specs.Counts.{Same, More, Less, Notes}
use Rattle.counted_block.proofs.Opening.{Lies, Ends, entered}
use Rattle.counted_block.proofs.Counting as counting
use Rattle.counted_block.proofs.Signs.{Signs, signs}
use mathlib.Core.Option.{Option, none, some, some-injective, some-ne-none}

set_first : (ns : List ℕ) (n : ℕ) → length ns ≡ 1 → n ≡ get_or (set ns 0 n) 0 0
set_first [] n l = absurd (omega arith)
set_first (m ∷ ms) n l = refl

set_own : (ns : List ℕ) → ns ≡ set ns 0 (get_or ns 0 0)
set_own [] = refl
set_own (n ∷ ns) = refl

pub same_size : {S : Type 0} (hs : List (Option S)) (cs : List (ℕ × S)) (a : Act S) → length (homes_after hs cs a) ≡ length hs
same_size hs cs keeps = refl
same_size hs cs (takes k y) = length-set hs k none
same_size hs [] gives = refl
same_size hs (x ∷ xs) gives = length-set hs x.0 (some x.1)
same_size hs cs (chain a a') = same_size (homes_after hs cs a) (carried_after cs a) a' ∙ same_size hs cs a

module _ {M : Type 1} {𝓤 : Ura M} (𝓛 : Logic 𝓤) (R Q : RattleType) where
  open 𝓛 use {H, A}

  abbrev Pr : Type 2
  Pr = SProp 𝓤

  abbrev 𝓝 : Signs 𝓛
  𝓝 = signs 𝓛

  open 𝓝 use {⟦◌⟧, ◌⊢◌, ◌∗◌}

  abbrev S : Type 0
  S = Place R.Denot Q.Denot

  -- a seat takes slots and brings them back
  module _ (z : BlockId) where
    abbrev Left : ℕ → List (Option S) → ℕ → ℕ → S → SProp 𝓤
    Left k hs i j y = guard 𝓤 (i < length hs) (⟦ tracked R Q z j y ⟧ ∗ ⟦ shelf R Q z k (set hs i none) ⟧)

    leaves : (hs : List (Option S)) (k i j : ℕ) (y : S) → j ≡ k + i → get_elem? hs i ≡ some (some y) → ⟦ shelf R Q z k hs ⟧ ⊢ Left k hs i j y
    leaves [] k i j y e at = absurd (some-ne-none (some y) (sym at))
    leaves (h ∷ hs) k zero j y e at = let is : k ≡ j = omega arith in qed 𝓛 (‵ (shelf R Q z k (h ∷ hs)) ∷ []) ∵ fsplit ! $ check ! (let r : zero < suc (length hs) = omega arith in r) $
        rewrite ! 0 (λ (x : Option S). ‵ (home R Q z k x)) (some-injective h (some y) at) refl $ rewrite ! 0 (λ (m : ℕ). ‵ (tracked R Q z m y)) is refl $ frame ! $ nothing ! $ fjoin ! $ done !
    leaves (h ∷ hs) k (suc i) j y e at = qed 𝓛 (‵ (shelf R Q z k (h ∷ hs)) ∷ []) ∵ fsplit ! $ move ! (1 ∷ []) $
        use1 𝓛 (given (i < length hs) (‵ (tracked R Q z j y) ⊛ ‵ (shelf R Q z (suc k) (set hs i none)))) (leaves hs (suc k) i j y (omega arith) at) $
        learn ! (λ near. check ! (let r : suc i < suc (length hs) = omega arith in r) $ split ! $ frame ! $ move ! (1 ∷ 0 ∷ []) $ fjoin ! $ done !)

    arrives : (hs : List (Option S)) (k i j : ℕ) (y : S) → j ≡ k + i → ⟦ shelf R Q z k hs ⟧ ∗ ⟦ tracked R Q z j y ⟧ ⊢ ⟦ shelf R Q z k (set hs i (some y)) ⟧
    arrives [] k i j y e = qed 𝓛 (‵ ftrue ∷ ‵ (tracked R Q z j y) ∷ []) ∵ keep ! (0 ∷ []) $ done !
    arrives (h ∷ hs) k zero j y e = let is : j ≡ k = omega arith in qed 𝓛 (‵ (shelf R Q z k (h ∷ hs)) ∷ ‵ (tracked R Q z j y) ∷ []) ∵ fsplit ! $ drop ! $
        rewrite ! 1 (λ (m : ℕ). ‵ (tracked R Q z m y)) is refl $ move ! (1 ∷ 0 ∷ []) $ fjoin ! $ done !
    arrives (h ∷ hs) k (suc i) j y e = qed 𝓛 (‵ (shelf R Q z k (h ∷ hs)) ∷ ‵ (tracked R Q z j y) ∷ []) ∵ fsplit ! $ move ! (1 ∷ 2 ∷ []) $
        use2 𝓛 (‵ (shelf R Q z (suc k) (set hs i (some y)))) (arrives hs (suc k) i j y (omega arith)) $ move ! (1 ∷ 0 ∷ []) $ fjoin ! $ done !

    abbrev pub Done : List (Option S) → List (ℕ × S) → Act S → SProp 𝓤
    Done hs cs a = ⟦ shelf R Q z 0 (homes_after hs cs a) ⟧ ∗ ⟦ carried R Q z (carried_after cs a) ⟧

    pub acts : (hs : List (Option S)) (cs : List (ℕ × S)) (a : Act S) → length hs ≡ 2 → Valid hs cs a → ⟦ shelf R Q z 0 hs ⟧ ∗ ⟦ carried R Q z cs ⟧ ⊢ Done hs cs a
    acts hs cs keeps long ok = id⊢ 𝓤 (Done hs cs keeps)
    acts hs cs (takes k y) long ok = qed 𝓛 (‵ (shelf R Q z 0 hs) ∷ ‵ (carried R Q z cs) ∷ []) ∵
        use1 𝓛 (given (k < length hs) (‵ (tracked R Q z k y) ⊛ ‵ (shelf R Q z 0 (set hs k none)))) (leaves hs 0 k k y (omega arith) ok) $ learn ! (λ near. split ! $ move ! (1 ∷ []) $
        frame ! $ fjoin ! $ done !)
    acts hs [] gives long ok = id⊢ 𝓤 (Done hs [] keeps)
    acts hs (x ∷ xs) gives long ok = qed 𝓛 (‵ (shelf R Q z 0 hs) ∷ ‵ (carried R Q z (x ∷ xs)) ∷ []) ∵ move ! (1 ∷ []) $ fsplit ! $ move ! (2 ∷ 0 ∷ []) $
        use2 𝓛 (‵ (shelf R Q z 0 (set hs x.0 (some x.1)))) (arrives hs 0 x.0 x.0 x.1 (omega arith)) $ done !
    acts hs cs (chain a a') long ok = let hs' : List (Option S) = homes_after hs cs a in let cs' : List (ℕ × S) = carried_after cs a in qed 𝓛 (‵ (shelf R Q z 0 hs) ∷
        ‵ (carried R Q z cs) ∷
        []) ∵
        use2 𝓛 (‵ (shelf R Q z 0 hs') ⊛ ‵ (carried R Q z cs')) (acts hs cs a long ok.0) $ split ! $ by ! (acts hs' cs' a' (same_size hs cs a ∙ long) ok.1)

    module _ {V : Type 0} (c : V → Gv) (id : ℕ) (v : V) where
      abbrev pub Swapped : ℕ → List (ℕ × S) → S → SProp 𝓤
      Swapped k xs y = sem 𝓛 (base.Fml.fwand (tracked R Q z k y) (seat_owns R Q z c id (v, (k, y) ∷ xs)))

      -- the slot that was taken last, and the way back with any value
      pub holding : (k : ℕ) (x : S) (xs : List (ℕ × S)) → ⟦ seat_owns R Q z c id (v, (k, x) ∷ xs) ⟧ ⊢ ⟦ tracked R Q z k x ⟧ ∗ all 𝓤 (Swapped k xs)
      holding k x xs = qed 𝓛 (‵ (seat_owns R Q z c id (v, (k, x) ∷ xs)) ∷ []) ∵ fsplit ! $ move ! (1 ∷ []) $ fsplit ! $ frame ! $
          each ! (Swapped k xs) (λ y. assume ! (‵ (tracked R Q z k y)) $ move ! (0 ∷ 1 ∷ []) $ fjoin ! $ move ! (1 ∷ 0 ∷ []) $ fjoin ! $ done !)

    behind : (xs : List (ℕ × S)) (x : ℕ × S) → ⟦ carried R Q z xs ⟧ ∗ ⟦ carried R Q z (x ∷ []) ⟧ ⊢ ⟦ carried R Q z (xs ++ x ∷ []) ⟧
    behind [] x = snd∗ 𝓤 ⟦ carried R Q z [] ⟧ ⟦ carried R Q z (x ∷ []) ⟧
    behind (y ∷ ys) x = qed 𝓛 (‵ (carried R Q z (y ∷ ys)) ∷ ‵ (carried R Q z (x ∷ [])) ∷ []) ∵ fsplit ! $ move ! (1 ∷ 2 ∷ []) $ use2 𝓛 (‵ (carried R Q z (ys ++ x ∷ [])))
        (behind ys x) $ move ! (1 ∷ 0 ∷ []) $ fjoin ! $ done !

    pub turns : {V : Type 0} (c : V → Gv) (id : ℕ) (v : V) (cs : List (ℕ × S)) → ⟦ seat_owns R Q z c id (v, cs) ⟧ ⊢ ⟦ seat_owns R Q z c id (v, turned cs) ⟧
    turns c id v [] = id⊢ 𝓤 _
    turns c id v (x ∷ xs) = qed 𝓛 (‵ (seat_owns R Q z c id (v, x ∷ xs)) ∷ []) ∵ fsplit ! $ move ! (1 ∷ []) $ fsplit ! $ nothing ! $ move ! (1 ∷ 0 ∷ []) $ fjoin ! $
        move ! (1 ∷ 0 ∷ []) $ use2 𝓛 (‵ (carried R Q z (xs ++ x ∷ []))) (behind xs x) $ move ! (1 ∷ 0 ∷ []) $ fjoin ! $ done !

  module _ {V : Type 0} (cv : Coded V) (holds : State S V → Type 0) (out : ℕ → ℕ) (P : Fml) (z : BlockId) where
    abbrev J : Fml
    J = block R Q cv.code holds out P z

    abbrev b : ℕ
    b = z.block

    abbrev o : ℕ
    o = z.offset + 0

    abbrev Counts : Bool → ℕ → ℕ → Fml
    Counts = counted R Q cv.code holds out P z

    -- what a step on the word changes beside it
    abbrev pub body : ℕ → ℕ → State S V → Fml
    body w h s = fsep (Counts true w h) (fsep (shelf R Q z 0 s.homes) (roster cv.code z.views 0 s.views))

    abbrev pub Next : (ℕ → ℕ) → (ℕ → Fml) → State S V → ℕ → State S V → Pr
    Next f after s h t = guard 𝓤 ((t.words ≡ set s.words 0 (f (word_of s))) × holds t × (length t.homes ≡ 2)) (⟦ body (f (word_of s)) h t ⟧ ∗ ⟦ after (word_of s) ⟧)

    -- whoever shows that the closer is here finds the word, and may go on by a state that keeps the rule
    module _ (f : ℕ → ℕ) (after : ℕ → Fml) (E : Pr) (here : (Z : Pr) → E ∗ ⟦ closed z ⟧ ⊢ Z)
        (law : (s : State S V) (h : ℕ) → Fits holds s → word_of s < 2 ^ 64 → ⟦ body (word_of s) h s ⟧ ∗ E ⊢ upd 𝓤 (ex 𝓤 (Next f after s h))) where
      abbrev G : Pr
      G = ex 𝓤 (Lies 𝓛 J b o f after)

      with_closer : (y : Bool) (s : State S V) (h : ℕ) → ⟦ standing R Q cv.code holds out P z (y, (s, h)) ⟧ ∗ E ⊢ upd 𝓤 G
      with_closer false s h = qed 𝓛 (‵ (standing R Q cv.code holds out P z (false, (s, h))) ∷ raw E ∷ []) ∵ fsplit3 ! $ move ! (1 ∷ []) $ fsplit3 ! $ move ! (1 ∷ []) $ fsplit ! $
          keep ! (6 ∷ 1 ∷ []) $ by ! (here (upd 𝓤 G))
      with_closer true s h = let n : ℕ = word_of s in qed 𝓛 (‵ (standing R Q cv.code holds out P z (true, (s, h))) ∷ raw E ∷ []) ∵ suffices ! _ (upd_i 𝓤 G) $ fsplit3 ! $
          move ! (2 ∷ []) $ fsplit ! $ move ! (1 ∷ []) $ fsplit ! $ move ! (1 ∷ []) $ fpick ! (λ so. drop ! $
          -- [the roster; the slots and what is lent; the words; the counts; E]
          move ! (2 ∷ []) $ fsplit ! $ use1 𝓛 (given (lib.Dec.T (has_ty (ty_int w64) (vint w64 n)) × WT (vint w64 n)) (‵ (word b o n))) (𝓛.laws.at_wt full_share (ty_int w64) b o
          (vint w64 n)) $ learn ! (λ typed. show ! (Lies 𝓛 J b o f after) n $ frame ! $ assume ! (‵ (word b o (f n))) $ show ! (λ (ls : List ℕ). Ends 𝓛 J b o f after ls n) [] $
          -- [the word; the holds; the roster; the slots and what is lent; the counts; E]
          move ! (3 ∷ []) $ fsplit ! $ move ! (0 ∷ 4 ∷ []) $ fjoin ! $ move ! (4 ∷ 0 ∷ []) $ fjoin ! $ move ! (0 ∷ 4 ∷ []) $ use2 𝓛 (raw (upd 𝓤 (ex 𝓤 (Next f after s h))))
          (law s h so typed.1.fits) $ let Z : Pr = ⟦ J ⟧ ∗ ⟦ after n ⟧ in settle 𝓛 Z (some (λ (t : State S V). given ((t.words ≡ set s.words 0 (f n)) × holds t × (length t.homes ≡
          2)) (‵ (body (f n) h t) ⊛ ‵ (after n)))) $ pick ! (λ t. learn ! (λ good. split ! $ fsplit3 ! $ let fits : Fits holds t =
          (good.1, subst (λ (ws : List ℕ). length ws ≡ 1) (sym good.0) (length-set s.words 0 (f n) ∙ so.1), good.2) in let is : f n ≡ word_of t = set_first s.words (f n) so.1 ∙
          ap (λ (ws : List ℕ). get_or ws 0 0) (sym good.0) in
          -- [the counts; the slots; the roster; what is after; what is lent; the word; the holds]
          nothing ! $ fpack ! (Fits holds t) (λ _. ftrue) fits $ move ! (3 ∷ 0 ∷ []) $ fjoin ! $ move ! (2 ∷ 4 ∷ []) $ fjoin ! $ move ! (0 ∷ 1 ∷ []) $ fjoin ! $ move ! (3 ∷ 4 ∷ []) $
          fjoin ! $ rewrite ! 0 (λ (m : ℕ). ‵ (words_in z m h)) is refl $ rewrite ! 2 (λ (m : ℕ). ‵ (Counts true m h)) is refl $ move ! (0 ∷ 2 ∷ 1 ∷ []) $ fjoin3 ! $
          fpack ! (Bool × (State S V × ℕ)) (standing R Q cv.code holds out P z) (true, (t, h)) $ fpack ! Bool (stands R Q cv.code holds out P z) true $ suffices ! _ (upd_i 𝓤 Z) $ done !))))

      either_way : (y : Bool) → ⟦ stands R Q cv.code holds out P z y ⟧ ∗ E ⊢ upd 𝓤 G
      either_way false = qed 𝓛 (‵ (stands R Q cv.code holds out P z false) ∷ raw E ∷ []) ∵ fsplit ! $ fsplit ! $ keep ! (3 ∷ 1 ∷ []) $ by ! (here (upd 𝓤 G))
      either_way true = qed 𝓛 (‵ (stands R Q cv.code holds out P z true) ∷ raw E ∷ []) ∵ fpick ! (λ t. by ! (with_closer t.0 t.1.0 t.1.1))

      pub opened : A.inv J ∗ E ⊢ asks 𝓛 (block_ptr b o) f always after
      opened = entered 𝓛 J b o f after E (qed 𝓛 (‵ J ∷ raw E ∷ []) ∵ fpick ! (λ y. by ! (either_way y)))

    -- what a part of the shares' grips shows
    abbrev pub at_live : Share → ℕ → Fml
    at_live q n = fsep (fact (0 < out n)) (gripped z.grips of_shares q)

    -- what an attempt of the last share shows
    abbrev pub at_last : Share → ℕ → Fml
    at_last q n = fsep (fact (out n ≡ 0)) (gripped z.grips of_last q)

    -- what the last share is once it is a share again
    abbrev pub revived : ℕ → Fml
    revived n = fsep (fact (out n ≡ 0)) (parts z)

    -- a seat goes on, with what else the step takes and gives: `before` beside what is not out of the counts, and `left` after it
    module _ (id : ℕ) (me : Me S V) (f : ℕ → ℕ) (told : ℕ → Me S V → Type 0) (asked : Allows holds 2 id me 0 f told) where
      abbrev pub goes : ℕ → Me S V → Fml
      goes n u = fsep (fact (told n u)) (seat_owns R Q z cv.code id u)

      abbrev pub after : (ℕ → Fml) → ℕ → Fml
      after left n = fsep (left n) (fex (Me S V) (goes n))

      moved : (before : Fml) (left : ℕ → Fml) → ((Z : Pr) → ⟦ before ⟧ ∗ ⟦ closed z ⟧ ⊢ Z)
          → ((s : State S V) (h : ℕ) → holds s → get_elem? s.views id ≡ maybe.some me.0 → ⟦ Counts true (word_of s) h ⟧ ∗ ⟦ before ⟧ ⊢ ⟦ Counts true (f (word_of s)) h ⟧
          ∗ ⟦ left (word_of s) ⟧) → A.inv J ∗ ⟦ before ⟧ ∗ ⟦ seat_owns R Q z cv.code id me ⟧ ⊢ asks 𝓛 (block_ptr b o) f always (after left)
      moved before left here trades = opened f (after left) (⟦ before ⟧ ∗ ⟦ seat_owns R Q z cv.code id me ⟧)
          (λ Z. qed 𝓛 ((‵ before ⊛ ‵ (seat_owns R Q z cv.code id me)) ∷ ‵ (closed z) ∷ []) ∵ split ! $ keep ! (0 ∷ 2 ∷ []) $ by ! (here Z)) (λ s h so small. let n : ℕ =
          word_of s in let γ : ℕ = z.views in qed 𝓛 (‵ (body n h s) ∷ ‵ before ∷ ‵ (seat_owns R Q z cv.code id me) ∷ []) ∵ fsplit3 ! $ move ! (4 ∷ []) $ fsplit ! $
          move ! (4 ∷ 0 ∷ []) $ use2 𝓛 (given (get_elem? s.views id ≡ maybe.some me.0) (raw (all 𝓤 (Moved 𝓛 cv γ 0 s.views id id)))) (moves 𝓛 cv γ s.views 0 id id me.0
          (omega arith)) $ learn ! (λ at. let r = asked s so.0 so.2 at small in let u : V = r.0 in let a : Act S = r.1 in let t : State S V = stepped s 0 (f n) id me.1 u a in
          let me' : Me S V = (u, carried_after me.1 a) in let Z : Pr = ex 𝓤 (Next f (after left) s h) in use1 𝓛 (raw (Moved 𝓛 cv γ 0 s.views id id u)) (all_e 𝓤 (Moved 𝓛 cv γ 0 s.views
          id id) u) $ settle 𝓛 Z (‵ (roster cv.code γ 0 t.views) ⊛ ‵ (seen cv.code γ id three_quarters u)) $ suffices ! _ (upd_i 𝓤 Z) $ split ! $
          -- [the roster; the view; what the seat carries; the counts; the slots; before]
          move ! (4 ∷ 2 ∷ []) $ use2 𝓛 (‵ (shelf R Q z 0 t.homes) ⊛ ‵ (carried R Q z me'.1)) (acts z s.homes me.1 a so.2 r.2) $ split ! $
          move ! (4 ∷ 5 ∷ []) $ use2 𝓛 (‵ (Counts true (f n) h) ⊛ ‵ (left n)) (trades s h so.0 at) $ split ! $
          -- [the counts; left; the slots; what the seat carries; the roster; the view]
          show ! (Next f (after left) s h) t $ check ! (refl, r.3, same_size s.homes me.1 a ∙ so.2) $ move ! (2 ∷ 4 ∷ []) $ fjoin ! $ move ! (1 ∷ 0 ∷ []) $ fjoin ! $ frame ! $
          move ! (2 ∷ 1 ∷ []) $ fjoin ! $ nothing ! $ fpack ! (told n me') (λ _. ftrue) r.4 $ fjoin ! $ fpack ! (Me S V) (goes n) me' $ move ! (1 ∷ 0 ∷ []) $ fjoin ! $ done !))

      module _ (q : Share) where
        abbrev token : Fml
        token = gripped z.grips of_shares q

        -- as many shares are out as before
        pub looks : Same holds out id me.0 f → A.inv J ∗ ⟦ token ⟧ ∗ ⟦ seat_owns R Q z cv.code id me ⟧ ⊢ asks 𝓛 (block_ptr b o) f always (after (at_live q))
        looks same = moved token (at_live q) (counting.share_closed 𝓛 R Q cv holds out P z q) (λ s h so at. let n : ℕ = word_of s in qed 𝓛 (‵ (Counts true n h) ∷ ‵ token ∷ []) ∵
            use2 𝓛 (given (0 < out n) (‵ (Counts true n h) ⊛ ‵ token)) (counting.live 𝓛 R Q cv holds out P z n h q) $ learn ! (λ live. split ! $
            use1 𝓛 (‵ (Counts true (f n) h)) (counting.same 𝓛 R Q cv holds out P z n (f n) h (same s so at)) $ frame ! $ nothing ! $ fpack ! (0 < out n) (λ _. ftrue) live $ fjoin ! $ done !))

        abbrev pub with_more : (ℕ → Bool) → ℕ → Fml
        with_more counts n = fsep (at_live q n) (parts_if (counts n) false z)

        -- maybe one more, which the caller gets
        pub gains : (counts : ℕ → Bool) → More holds out id me.0 f counts → A.inv J ∗ ⟦ token ⟧ ∗ ⟦ seat_owns R Q z cv.code id me ⟧ ⊢ asks 𝓛 (block_ptr b o) f always
            (after (with_more counts))
        gains counts more = moved token (with_more counts) (counting.share_closed 𝓛 R Q cv holds out P z q) (λ s h so at. let n : ℕ = word_of s in qed 𝓛 (‵ (Counts true n h) ∷
            ‵ token ∷
            []) ∵ use2 𝓛 (given (0 < out n) (‵ (Counts true n h) ⊛ ‵ token)) (counting.live 𝓛 R Q cv holds out P z n h q) $ learn ! (λ live. split ! $
            use1 𝓛 (‵ (Counts true (f n) h) ⊛ ‵ (parts_if (counts n) false z)) (counting.more_by 𝓛 R Q cv holds out P z n (f n) h (counts n) (more s so at) live) $ split ! $ frame ! $
            nothing ! $ fpack ! (0 < out n) (λ _. ftrue) live $ move ! (0 ∷ 2 ∷ []) $ fjoin ! $ fjoin ! $ done !))

      abbrev pub kept_where : (ℕ → Bool) → (ℕ → Bool) → ℕ → Fml
      kept_where counts lasts n = fsep (fact (0 < out n)) (parts_if (not (counts n)) (lasts n) z)

      -- maybe one less, which the caller had; if it was the last, the caller has the last share
      pub ends_one : (counts lasts : ℕ → Bool) → Less holds out id me.0 f counts lasts → A.inv J ∗ ⟦ parts z ⟧ ∗ ⟦ seat_owns R Q z cv.code id me ⟧ ⊢ asks 𝓛 (block_ptr b o)
          f always
          (after (kept_where counts lasts))
      ends_one counts lasts less = moved (parts z) (kept_where counts lasts) (counting.parts_closed 𝓛 R Q cv holds out P z) (λ s h so at. let n : ℕ = word_of s in
          qed 𝓛 (‵ (Counts true n h) ∷ ‵ (parts z) ∷ []) ∵
          use2 𝓛 (given (0 < out n) (‵ (Counts true n h) ⊛ ‵ (parts z))) (counting.live_parts 𝓛 R Q cv holds out P z n h) $ learn ! (λ live.
          use1 𝓛 (‵ (Counts true (f n) h) ⊛ ‵ (parts_if (not (counts n)) (lasts n) z)) (counting.less_by 𝓛 R Q cv holds out P z n (f n) h (counts n) (lasts n) (less s so at)) $
          split ! $ frame ! $ nothing ! $ fpack ! (0 < out n) (λ _. ftrue) live $ fjoin ! $ done !))

      -- the last share looks
      pub looks_alone : (q : Share) → ((n : ℕ) → f n ≡ n) → A.inv J ∗ ⟦ gripped z.grips of_last q ⟧ ∗ ⟦ seat_owns R Q z cv.code id me ⟧ ⊢ asks 𝓛 (block_ptr b o) f always
          (after (at_last q))
      looks_alone q still = let token : Fml = gripped z.grips of_last q in moved token (at_last q) (counting.last_closed 𝓛 R Q cv holds out P z q) (λ s h so at. let n : ℕ = word_of s in
          qed 𝓛 (‵ (Counts true n h) ∷ ‵ token ∷ []) ∵ use2 𝓛 (given (out n ≡ 0) (‵ (Counts true n h) ⊛ ‵ token)) (counting.lone 𝓛 R Q cv holds out P z n h q) $
          learn ! (λ none. split ! $ rewrite ! 0 (λ (m : ℕ). ‵ (Counts true m h)) (sym (still n)) refl $ frame ! $ nothing ! $ fpack ! (out n ≡ 0) (λ _. ftrue) none $ fjoin ! $ done !))

      -- the last share becomes a share again
      pub revives : ((n : ℕ) → out (f n) ≡ 1) → A.inv J ∗ ⟦ last_parts z ⟧ ∗ ⟦ seat_owns R Q z cv.code id me ⟧ ⊢ asks 𝓛 (block_ptr b o) f always (after revived)
      revives one = moved (last_parts z) revived (counting.lone_closed 𝓛 R Q cv holds out P z) (λ s h so at. let n : ℕ = word_of s in qed 𝓛 (‵ (Counts true n h) ∷
          ‵ (last_parts z) ∷ []) ∵
          use2 𝓛 (given (out n ≡ 0) (‵ (Counts true n h) ⊛ ‵ (last_parts z))) (counting.lone_parts 𝓛 R Q cv holds out P z n h) $ learn ! (λ none.
          use1 𝓛 (‵ (Counts true (f n) h) ⊛ ‵ (parts z)) (counting.revives 𝓛 R Q cv holds out P z n (f n) h none (one n)) $ split ! $ frame ! $ nothing ! $
          fpack ! (out n ≡ 0) (λ _. ftrue) none $ fjoin ! $ done !))

    abbrev γ : ℕ
    γ = z.views

    abbrev Views : State S V → Fml
    Views = views_in R Q cv.code holds out P z

    module _ (q : Share) where
      abbrev pub of_share : Fml
      of_share = gripped z.grips of_shares q

      abbrev unless_closed : (Z : Pr) → ⟦ of_share ⟧ ∗ ⟦ closed z ⟧ ⊢ Z
      unless_closed = counting.share_closed 𝓛 R Q cv holds out P z q

      -- a look that tells nothing
      pub glances : A.inv J ∗ ⟦ of_share ⟧ ⊢ asks 𝓛 (block_ptr z.block (z.offset + 0)) (λ n. n) always (λ _. of_share)
      glances = opened (λ n. n) (λ _. of_share) ⟦ of_share ⟧ unless_closed (λ s h so small. let Z : Pr = ex 𝓤 (Next (λ n. n) (λ _. of_share) s h) in
          qed 𝓛 (‵ (body (word_of s) h s) ∷ ‵ of_share ∷ []) ∵ suffices ! _ (upd_i 𝓤 Z) $ show ! (Next (λ n. n) (λ _. of_share) s h) s $
          check ! (set_own s.words, so.0, so.2) $ done !)

      module _ (then : ℕ → V → Type 0) (asked : Enters holds 2 0 then) where
        abbrev pub seated : ℕ → ℕ × V → Fml
        seated n t = fsep (fact (then n t.1)) (seat_owns R Q z cv.code t.0 (t.1, []))

        abbrev pub seated_after : ℕ → Fml
        seated_after n = fsep (fsep (fact (0 < out n)) of_share) (fex (ℕ × V) (seated n))

        -- a new seat, at a load
        pub enters : A.inv J ∗ ⟦ of_share ⟧ ⊢ asks 𝓛 (block_ptr z.block (z.offset + 0)) (λ n. n) always seated_after
        enters = opened (λ n. n) seated_after ⟦ of_share ⟧ unless_closed (λ s h so small. let n : ℕ = word_of s in let r = asked s so.0 so.2 small in
            let u : V = r.0 in let t : State S V = record { words = s.words; homes = s.homes; views = s.views ++ u ∷ [] } in
            let Z : Pr = ex 𝓤 (Next (λ n. n) seated_after s h) in qed 𝓛 (‵ (body n h s) ∷ ‵ of_share ∷ []) ∵ fsplit3 ! $ move ! (0 ∷ 3 ∷ []) $
            use2 𝓛 (given (0 < out n) (‵ (counted R Q cv.code holds out P z true n h) ⊛ ‵ of_share)) (counting.live 𝓛 R Q cv holds out P z n h q) $ learn ! (λ live. split ! $
            move ! (3 ∷ 0 ∷ 2 ∷ []) $
            use1 𝓛 (raw (upd 𝓤 (ex 𝓤 (Joined 𝓛 cv γ 0 s.views u)))) (joins 𝓛 cv γ s.views 0 u) $ settle 𝓛 Z (some (λ (j : ℕ). ‵ (roster cv.code γ 0 t.views) ⊛
            ‵ (seen cv.code γ j three_quarters u))) $ suffices ! _ (upd_i 𝓤 Z) $ pick ! (λ j. split ! $
            -- [the roster; the view; the counts; the slots; the of_share]
            show ! (Next (λ n. n) seated_after s h) t $ check ! (set_own s.words, r.1, so.2) $ move ! (3 ∷ 0 ∷ []) $ fjoin ! $ move ! (2 ∷ 0 ∷ []) $ fjoin ! $ frame ! $
            nothing ! $ move ! (1 ∷ 0 ∷ []) $ fjoin ! $ nothing ! $ fpack ! (then n u) (λ _. ftrue) r.2 $ fjoin ! $ fpack ! (ℕ × V) (seated n) (j, u) $ nothing ! $
            fpack ! (0 < out n) (λ _. ftrue) live $ move ! (0 ∷ 2 ∷ []) $ fjoin ! $ fjoin ! $ done !)))

    -- the invariant is opened beside the machine, whether the block stands or is gone; only the views change
    module _ (K left : Fml) (law : (s : State S V) → word_of s < 18446744073709551616 → ⟦ Views s ⟧ ∗ ⟦ K ⟧ ⊢ upd 𝓤 (ex 𝓤 (λ (t : State S V). guard 𝓤 ((t.words ≡
        s.words) ×
        (t.homes ≡ s.homes)) (⟦ Views t ⟧ ∗ ⟦ left ⟧)))) where
      abbrev After : State S V → State S V → Pr
      After s t = guard 𝓤 ((t.words ≡ s.words) × (t.homes ≡ s.homes)) (⟦ Views t ⟧ ∗ ⟦ left ⟧)

      abbrev Z : Pr
      Z = ⟦ J ⟧ ∗ ⟦ left ⟧

      while_standing : (y : Bool) (s : State S V) (h : ℕ) → ⟦ standing R Q cv.code holds out P z (y, (s, h)) ⟧ ∗ ⟦ K ⟧ ⊢ upd 𝓤 Z
      while_standing y s h = let n : ℕ = word_of s in let e : ℕ = z.offset + 0 in qed 𝓛 (‵ (standing R Q cv.code holds out P z (y, (s, h))) ∷ ‵ K ∷ []) ∵ fsplit3 ! $ fsplit ! $
          use1 𝓛 (given (lib.Dec.T (has_ty (ty_int w64) (vint w64 n)) × WT (vint w64 n)) (‵ (word z.block e n))) (𝓛.laws.at_wt full_share (ty_int w64) z.block e (vint w64 n)) $
          learn ! (λ typed.
          -- [the word; the holds; the counts; the slots, what is lent and the views; K]
          fjoin ! $ move ! (2 ∷ []) $ fsplit ! $ fsplit ! $ move ! (2 ∷ 5 ∷ []) $ use2 𝓛 (raw (upd 𝓤 (ex 𝓤 (After s)))) (law s typed.1.fits) $
          settle 𝓛 Z (some (λ (t : State S V). given ((t.words ≡ s.words) × (t.homes ≡ s.homes)) (‵ (Views t) ⊛ ‵ left))) $ suffices ! _ (upd_i 𝓤 Z) $
          pick ! (λ t. learn ! (λ as_before. split ! $ let same : n ≡ word_of t = ap (λ (ws : List ℕ). get_or ws 0 0) (sym as_before.0) in
          -- [the views; left; the slots; what is lent; the words; the counts]
          rewrite ! 2 (λ (hs : List (maybe.Option S)). ‵ (shelf R Q z 0 hs)) (sym as_before.1) refl $ rewrite ! 4 (λ (m : ℕ). ‵ (words_in z m h)) same refl $
          rewrite ! 5 (λ (m : ℕ). ‵ (counted R Q cv.code holds out P z y m h)) same refl $ move ! (2 ∷ 3 ∷ []) $ fjoin ! $ move ! (0 ∷ 1 ∷ []) $ fjoin ! $ move ! (2 ∷ 3 ∷ 0 ∷ []) $
          fjoin3 ! $ fpack ! (Bool × (State S V × ℕ)) (standing R Q cv.code holds out P z) (y, (t, h)) $ fpack ! Bool (stands R Q cv.code holds out P z) true $ done !)))

      once_gone : (s : State S V) → ⟦ ghostly R Q cv.code holds out P z s ⟧ ∗ ⟦ K ⟧ ∗ A.dead (life z) ∗ ⟦ closed z ⟧ ⊢ upd 𝓤 Z
      once_gone s = let n : ℕ = word_of s in qed 𝓛 (‵ (ghostly R Q cv.code holds out P z s) ∷ ‵ K ∷ ‵ (fdead (life z)) ∷ ‵ (closed z) ∷ []) ∵ fsplit ! $
          fpick ! (λ small. drop ! $
          use2 𝓛 (raw (upd 𝓤 (ex 𝓤 (After s)))) (law s small) $ settle 𝓛 Z (some (λ (t : State S V). given ((t.words ≡ s.words) × (t.homes ≡ s.homes)) (‵ (Views t) ⊛
          ‵ left))) $
          suffices ! _ (upd_i 𝓤 Z) $ pick ! (λ t. learn ! (λ as_before. split ! $ let same : n ≡ word_of t = ap (λ (ws : List ℕ). get_or ws 0 0) (sym as_before.0) in nothing ! $
          fpack ! (word_of t < 18446744073709551616) (λ _. ftrue) (subst (λ (m : ℕ). m < 18446744073709551616) same small) $ fjoin ! $ fpack ! (State S V) (ghostly R Q cv.code holds out P z) t $
          move ! (2 ∷ 3 ∷ []) $ fjoin ! $ move ! (0 ∷ 1 ∷ []) $ fjoin ! $ fpack ! Bool (stands R Q cv.code holds out P z) false $ done !)))

      stands_or_gone : (y : Bool) → ⟦ stands R Q cv.code holds out P z y ⟧ ∗ ⟦ K ⟧ ⊢ upd 𝓤 Z
      stands_or_gone true = qed 𝓛 (‵ (stands R Q cv.code holds out P z true) ∷ ‵ K ∷ []) ∵ fpick ! (λ t. by ! (while_standing t.0 t.1.0 t.1.1))
      stands_or_gone false = qed 𝓛 (‵ (stands R Q cv.code holds out P z false) ∷ ‵ K ∷ []) ∵ fsplit ! $ move ! (1 ∷ []) $ fpick ! (λ s. move ! (1 ∷ []) $ fsplit ! $
          move ! (2 ∷ 3 ∷ 0 ∷ 1 ∷ []) $ by ! (once_gone s))

      quietly : A.inv J ∗ ⟦ K ⟧ ⊢ H.⇛ ⟦ left ⟧
      quietly = via 𝓤 (A.inv J ∗ wand 𝓤 ⟦ J ⟧ (upd 𝓤 Z)) (mono_r 𝓤 (A.inv J) (qed 𝓛 (‵ K ∷ []) ∵ assume ! (‵ J) $
          fpick ! (λ y. by ! (stands_or_gone y)))) (𝓛.invs.inv_acc J
          ⟦ left ⟧)

    module _ (id : ℕ) (me : Me S V) where
      abbrev Mine : Fml
      Mine = seat_owns R Q z cv.code id me

      module _ (then : ℕ → Me S V → Type 0) (asked : Notes holds id me then) where
        abbrev pub noted : ℕ × V → Fml
        noted x = fsep (fact (then x.0 (x.1, me.1))) (seat_owns R Q z cv.code id (x.1, me.1))

        note_law : (s : State S V) → word_of s < 18446744073709551616 → ⟦ Views s ⟧ ∗ ⟦ Mine ⟧ ⊢ upd 𝓤 (ex 𝓤 (λ (t : State S V). guard 𝓤 ((t.words ≡ s.words) ×
            (t.homes ≡ s.homes)) (⟦ Views t ⟧ ∗ ⟦ fex (ℕ × V) noted ⟧)))
        note_law s small = let n : ℕ = word_of s in let F : State S V → Pr = λ t. guard 𝓤 ((t.words ≡ s.words) × (t.homes ≡ s.homes)) (⟦ Views t ⟧ ∗ ⟦ fex (ℕ × V) noted ⟧) in
            let Z : Pr = ex 𝓤 F in
            qed 𝓛 (‵ (Views s) ∷ ‵ Mine ∷ []) ∵ fsplit ! $ move ! (1 ∷ []) $ fpick ! (λ so. drop ! $ move ! (1 ∷ []) $ fsplit ! $ move ! (2 ∷ 0 ∷ []) $
            use2 𝓛 (given (get_elem? s.views id ≡ maybe.some me.0) (raw (all 𝓤 (Moved 𝓛 cv γ 0 s.views id id)))) (moves 𝓛 cv γ s.views 0 id id me.0 (omega arith)) $
            learn ! (λ at. let r = asked s so.0 so.2 at small in let u : V = r.0 in let t : State S V = stepped s 0 n id me.1 u keeps in use1 𝓛 (raw (Moved 𝓛 cv γ 0 s.views id id u))
            (all_e 𝓤 (Moved 𝓛 cv γ 0 s.views id id) u) $ settle 𝓛 Z (‵ (roster cv.code γ 0 t.views) ⊛ ‵ (seen cv.code γ id three_quarters u)) $ suffices ! _ (upd_i 𝓤 Z) $
            split ! $
            -- [the roster; the view; what the seat carries]
            show ! F t $ check ! (sym (set_own s.words), refl) $ nothing ! $ fpack ! (Fits holds t) (λ _. ftrue) (r.1, ap length (sym (set_own s.words)) ∙ so.1, so.2) $ move ! (1 ∷ 0 ∷ []) $
            fjoin ! $ frame ! $ fjoin ! $ nothing ! $ fpack ! (then n (u, me.1)) (λ _. ftrue) r.2 $ fjoin ! $ fpack ! (ℕ × V) noted (n, u) $ done !))

        -- a seat notes what it knows, and nothing else changes
        pub notes : A.inv J ∗ ⟦ Mine ⟧ ⊢ H.⇛ ⟦ fex (ℕ × V) noted ⟧
        notes = quietly Mine (fex (ℕ × V) noted) note_law

      module _ (one two : V) (asked : Splits holds id me.0 one two) where
        abbrev pub both : ℕ → Fml
        both j = fsep (seat_owns R Q z cv.code id (one, me.1)) (seat_owns R Q z cv.code j (two, []))

        split_law : (s : State S V) → word_of s < 18446744073709551616 → ⟦ Views s ⟧ ∗ ⟦ Mine ⟧ ⊢ upd 𝓤 (ex 𝓤 (λ (t : State S V). guard 𝓤 ((t.words ≡ s.words) ×
            (t.homes ≡ s.homes)) (⟦ Views t ⟧ ∗ ⟦ fex ℕ both ⟧)))
        split_law s small = let F : State S V → Pr = λ t. guard 𝓤 ((t.words ≡ s.words) × (t.homes ≡ s.homes)) (⟦ Views t ⟧ ∗ ⟦ fex ℕ both ⟧) in let Z : Pr = ex 𝓤 F in
            let vs : List V = set s.views id one in let t : State S V = record { words = s.words; homes = s.homes; views = vs ++ two ∷ [] } in
            qed 𝓛 (‵ (Views s) ∷ ‵ Mine ∷ []) ∵ fsplit ! $ move ! (1 ∷ []) $ fpick ! (λ so. drop ! $ move ! (1 ∷ []) $ fsplit ! $ move ! (2 ∷ 0 ∷ []) $
            use2 𝓛 (given (get_elem? s.views id ≡ maybe.some me.0) (raw (all 𝓤 (Moved 𝓛 cv γ 0 s.views id id)))) (moves 𝓛 cv γ s.views 0 id id me.0 (omega arith)) $
            learn ! (λ at. use1 𝓛 (raw (Moved 𝓛 cv γ 0 s.views id id one)) (all_e 𝓤 (Moved 𝓛 cv γ 0 s.views id id) one) $ settle 𝓛 Z (‵ (roster cv.code γ 0 vs) ⊛
            ‵ (seen cv.code γ id three_quarters one)) $ split ! $ use1 𝓛 (raw (upd 𝓤 (ex 𝓤 (Joined 𝓛 cv γ 0 vs two)))) (joins 𝓛 cv γ vs 0 two) $
            settle 𝓛 Z (some (λ (j : ℕ). ‵ (roster cv.code γ 0 t.views) ⊛ ‵ (seen cv.code γ j three_quarters two))) $ suffices ! _ (upd_i 𝓤 Z) $ pick ! (λ j. split ! $
            -- [the roster; the new view; the old; what the seat carries]
            show ! F t $ check ! (refl, refl) $ nothing ! $ fpack ! (Fits holds t) (λ _. ftrue) (asked s so.0 at, so.1, so.2) $ move ! (1 ∷ 0 ∷ []) $ fjoin ! $ frame ! $
            nothing ! $ move ! (1 ∷ 0 ∷ []) $ fjoin ! $ move ! (1 ∷ 2 ∷ []) $ fjoin ! $ fjoin ! $ fpack ! ℕ both j $ done !)))

        -- a view is cut in two
        pub splits : A.inv J ∗ ⟦ Mine ⟧ ⊢ H.⇛ ⟦ fex ℕ both ⟧
        splits = quietly Mine (fex ℕ both) split_law
