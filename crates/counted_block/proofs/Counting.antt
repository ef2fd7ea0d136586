-- What is not out of a block's counts: one grip more and one less, a share or a hold more, and one less. Assumes `Logic`.
use Rattle.std.proofs.Common.{◌≡◌, ℕ, suc, ◌+◌, ◌-◌, ◌^◌, ◌<◌, [], ◌∷◌, refl, subst, arith, ◌⊎◌, inl, inr, zero, ◌≤◌, Bool, true, false, eqb, ne_eqb, sym}
use native.Mathlib.Decide.{ℕ_discrete}
use mathlib.Mathlib.Data.Part.{◌∈◌, mem_unique}
use seplogic.Ra.Ura.{Ura}
use seplogic.Ra.Constructions.Prod
use seplogic.Ra.Instances.Ag
use base.Fraction.{full_share}
use base.FractionLaws.{Counts, counts_some, Counts-op, Counts-all, not-OpDef-full_share}
use base.Share
use base.Stored.{Gv, gnum, Coded}
use base.SetCodes.{coded, SetCoded-set}
use base.Logic.{SProp, ent, sep, ex, guard, upd, emp, via, id⊢, ex_e, guard_e, guard_i, never, never_e}
use base.Fml.{Share, Fml, fex, fsep, ftrue, flft, fdead}
use types.Logic.{Logic, sem}
use types.Keyed.{entry, entries_from, entry_cut, entry_glue, entries_new, entries_take}
use types.Kit.{‵, raw, ◌⊛◌, some, ◌$◌, ◌∵◌, !, qed, by, move, keep, split, fjoin3, fpick, fpack, pick, check, show, use0, use1, settle, suffices, done, given, drop, fsplit}
use types.Kit.{fsplit3, fjoin, learn, frame, assume, use2, rewrite}
use Rattle.atomic_table.specs.Seated.{halved, itself, fact}
use ghost.Rules.{Halves}
use Rattle.counted_block.specs.Blocks.{gripped, is_one, is_all, of_holds, of_shares, of_last, grip, Free, grips_left, BlockId, life, parts, last_parts, parts_if, hold_parts, keepers, shares_left}
use Rattle.counted_block.specs.Blocks.{closed, counted}
use mathlib.Core.Bool.{not}
use denote.RattleType.{RattleType}
use denote.Steps.{nothing}
use types.RcWeak.{part, rest}
use types.RcWeak as counts
use Rattle.atomic_table.specs.Table.{State}
use Rattle.counted_block.specs.declared.place.Place.{Place}
use Rattle.counted_block.proofs.Signs.{Signs, signs}

abbrev v : Gv
v = gnum 0

together : (a b c : Share) → c ∈ Share.op a b → ◌∈◌ {α = Share × Gv} (c, v) (halved.op (a, v) (b, v))
together a b c m = Prod.mk-mem-op Share.op (Ag.op (SetCoded-set (coded itself))) {a = a} {a' = b} {x = c} {b = v} {b' = v} {y = v} m (Ag.idem (SetCoded-set (coded itself)) v)

positive : (n : ℕ) → ¬ (n ≡ 0) → 0 < n
positive n ne = omega (arith, ne)

-- a share with so many parts, which is the whole if all are there
some_parts : (h : ℕ) → h < 9223372036854775808 → (r : Share) × Free h r
some_parts h near = by_zero (ℕ_discrete h 0)
  where
    by_zero : Dec (h ≡ 0) → (r : Share) × Free h r
    by_zero (yes e) = (full_share, (near, subst (λ (n : ℕ). Counts 63 full_share n) (let r : 2 ^ 63 ≡ 9223372036854775808 - h = omega arith in r) (Counts-all 63), λ _. refl))
    by_zero (no ne) = let c = counts_some 63 (9223372036854775808 - h) (omega arith) (omega arith) in (c.0, (near, c.1, λ e. absurd (ne e)))

module _ {M : Type 1} {𝓤 : Ura M} (𝓛 : Logic 𝓤) (γ k : ℕ) where
  left_in : (h : ℕ) (r : Share) → Free h r → ent 𝓤 (sem 𝓛 (gripped γ k r)) (sem 𝓛 (grips_left γ k h))
  left_in h r f = qed 𝓛 (‵ (gripped γ k r) ∷ []) ∵ fpack ! (Free h r) (λ _. gripped γ k r) f $ fpack ! Share (λ s. fex (Free h s) (λ _. gripped γ k s)) r $ done !

  grip_in : (e : Share) → Counts 63 e 1 → ent 𝓤 (sem 𝓛 (gripped γ k e)) (sem 𝓛 (grip is_one γ k))
  grip_in e c = qed 𝓛 (‵ (gripped γ k e) ∷ []) ∵ fpack ! (Counts 63 e 1) (λ _. gripped γ k e) c $ fpack ! Share (λ s. fex (Counts 63 s 1) (λ _. gripped γ k s)) e $ done !

  pub none_out : ent 𝓤 (sem 𝓛 (gripped γ k full_share)) (sem 𝓛 (grips_left γ k 0))
  none_out = left_in 0 full_share (omega arith, Counts-all 63, λ _. refl)

  pub few_out : (h : ℕ) → ent 𝓤 (sem 𝓛 (grips_left γ k h)) (guard 𝓤 (h < 9223372036854775808) (sem 𝓛 (grips_left γ k h)))
  few_out h = qed 𝓛 (‵ (grips_left γ k h) ∷ []) ∵ fpick ! (λ r. fpick ! (λ f. check ! f.0 $ by ! (left_in h r f)))

  pub takes : (h : ℕ) → h + 1 < 9223372036854775808 → ent 𝓤 (sem 𝓛 (grips_left γ k h)) (sep 𝓤 (sem 𝓛 (grips_left γ k (h + 1))) (sem 𝓛 (grip is_one γ k)))
  takes h room = let e = counts_some 63 1 (omega arith) (omega arith) in let r' = some_parts (h + 1) room in
      qed 𝓛 (‵ (grips_left γ k h) ∷ []) ∵ fpick ! (λ r. fpick ! (λ f. let f1 = f.1 in use1 𝓛 (‵ (gripped γ k e.0) ⊛ ‵ (gripped γ k r'.0)) (entry_cut halved 𝓛 γ k (e.0, v)
      (r'.0, v) (r, v) (together e.0 r'.0 r (Counts-op 63 e.0 r'.0 r 1 (9223372036854775808 - (h + 1)) (9223372036854775808 - h) e.1 r'.1.1 f.1 (omega arith)))) $ split ! $
      use1 𝓛 (‵ (grip is_one γ k)) (grip_in e.0 e.1) $ move ! (1 ∷ []) $ use1 𝓛 (‵ (grips_left γ k (h + 1))) (left_in (h + 1) r'.0 r'.1) $ done !))

  joined : (a b c : Share) → c ∈ Share.op a b → ent 𝓤 (sep 𝓤 (sem 𝓛 (gripped γ k a)) (sem 𝓛 (gripped γ k b))) (sem 𝓛 (gripped γ k c))
  joined a b c m = let F : Share × Gv → SProp 𝓤 = λ x. guard 𝓤 (x ∈ halved.op (a, v) (b, v)) (sem 𝓛 (entry halved γ k x)) in
      let is : ◌∈◌ {α = Share × Gv} (c, v) (halved.op (a, v) (b, v)) =
      together a b c m in via 𝓤 (ex 𝓤 F) (entry_glue halved 𝓛 γ k (a, v) (b, v)) (ex_e 𝓤 F (λ x. guard_e 𝓤 (x ∈ halved.op (a, v) (b, v)) (sem 𝓛 (entry halved γ k x))
      (λ n. subst (λ (y : Share × Gv). ent 𝓤 (sem 𝓛 (entry halved γ k y)) (sem 𝓛 (gripped γ k c))) (mem_unique (halved.op (a, v) (b, v)) is n) (id⊢ 𝓤 (sem 𝓛 (gripped γ k c))))))

  pub halve : Halves 𝓤 𝓛.H 𝓛.A (λ q. gripped γ k q)
  halve = record {
    cut = λ q. entry_cut halved 𝓛 γ k (Share.left q, v) (Share.right q, v) (q, v) (together (Share.left q) (Share.right q) q (Share.halves q));
    join = λ q. joined (Share.left q) (Share.right q) q (Share.halves q);
  }

  glued : (h : ℕ) (r e : Share) → Free h r → Counts 63 e 1 → 0 < h → ent 𝓤 (sep 𝓤 (sem 𝓛 (gripped γ k e)) (sem 𝓛 (gripped γ k r))) (sem 𝓛 (grips_left γ k (h - 1)))
  glued h r e f c some_out = let near = f.0 in let r' = some_parts (h - 1) (omega arith) in via 𝓤 (sem 𝓛 (gripped γ k r'.0)) (joined e r r'.0 (Counts-op 63 e r r'.0 1
      (9223372036854775808 - h) (9223372036854775808 - (h - 1)) c f.1 r'.1.1 (omega arith))) (left_in (h - 1) r'.0 r'.1)

  never_none : (r e : Share) (Z : SProp 𝓤) → r ≡ full_share → ent 𝓤 (sep 𝓤 (sem 𝓛 (gripped γ k e)) (sem 𝓛 (gripped γ k r))) Z
  never_none r e Z whole = let F : Share × Gv → SProp 𝓤 = λ x. guard 𝓤 (x ∈ halved.op (e, v) (r, v)) (sem 𝓛 (entry halved γ k x)) in
      via 𝓤 (ex 𝓤 F) (entry_glue halved 𝓛 γ k (e, v) (r, v)) (ex_e 𝓤 F (λ x. guard_e 𝓤 (x ∈ halved.op (e, v) (r, v)) (sem 𝓛 (entry halved γ k x))
      (λ m. absurd (beside (m.0.0)))))
    where
      beside : seplogic.Ra.Pcs.OpDef Share.op e r → ⊥
      beside d = not-OpDef-full_share e ((seplogic.Ra.Pcs.OpDef-comm (base.Algebras.pcs base.Algebras.shares) {a = e} {b = full_share}).0 (subst (λ (s : Share). seplogic.Ra.Pcs.OpDef Share.op e s)
          whole d))

  abbrev pub Given : ℕ → SProp 𝓤
  Given h = guard 𝓤 (0 < h) (sem 𝓛 (grips_left γ k (h - 1)))

  gives_by : (h : ℕ) (r e : Share) → Free h r → Counts 63 e 1 → Dec (h ≡ 0) → ent 𝓤 (sep 𝓤 (sem 𝓛 (gripped γ k e)) (sem 𝓛 (gripped γ k r))) (Given h)
  gives_by h r e f c (yes z) = never_none r e (Given h) (f.2 z)
  gives_by h r e f c (no ne) = let out : 0 < h = positive h ne in via 𝓤 (sem 𝓛 (grips_left γ k (h - 1))) (glued h r e f c out) (guard_i 𝓤 (0 < h) (sem 𝓛 (grips_left γ k (h - 1))) out)

  pub gives : (h : ℕ) → ent 𝓤 (sep 𝓤 (sem 𝓛 (grips_left γ k h)) (sem 𝓛 (grip is_one γ k))) (Given h)
  gives h = qed 𝓛 (‵ (grips_left γ k h) ∷ ‵ (grip is_one γ k) ∷ []) ∵ fpick ! (λ r. fpick ! (λ f. move ! (1 ∷ []) $
      fpick ! (λ e. fpick ! (λ c. by ! (gives_by h r e f c (ℕ_discrete h 0))))))

  -- whoever has some of them knows that some are out
  some_by : (h : ℕ) (r e : Share) → Free h r → Dec (h ≡ 0) → ent 𝓤 (sep 𝓤 (sem 𝓛 (gripped γ k e)) (sem 𝓛 (gripped γ k r))) (guard 𝓤 (0 < h) (sep 𝓤 (sem 𝓛
      (grips_left γ k h))
      (sem 𝓛 (gripped γ k e))))
  some_by h r e f (yes z) = never_none r e _ (f.2 z)
  some_by h r e f (no ne) = qed 𝓛 (‵ (gripped γ k e) ∷ ‵ (gripped γ k r) ∷ []) ∵ check ! (positive h ne) $ move ! (1 ∷ []) $
      use1 𝓛 (‵ (grips_left γ k h)) (left_in h r f) $ done !

  pub some_out : (h : ℕ) (e : Share) → ent 𝓤 (sep 𝓤 (sem 𝓛 (grips_left γ k h)) (sem 𝓛 (gripped γ k e))) (guard 𝓤 (0 < h) (sep 𝓤 (sem 𝓛 (grips_left γ k h)) (sem 𝓛
      (gripped γ k e))))
  some_out h e = qed 𝓛 (‵ (grips_left γ k h) ∷ ‵ (gripped γ k e) ∷ []) ∵ fpick ! (λ r. fpick ! (λ f. move ! (1 ∷ []) $ by ! (some_by h r e f (ℕ_discrete h 0))))

  -- beside all of them nobody has any
  pub none_beside : (e : Share) (Z : SProp 𝓤) → ent 𝓤 (sep 𝓤 (sem 𝓛 (grip is_all γ k)) (sem 𝓛 (gripped γ k e))) Z
  none_beside e Z = qed 𝓛 (‵ (grip is_all γ k) ∷ ‵ (gripped γ k e) ∷ []) ∵ fpick ! (λ r. fpick ! (λ whole. move ! (1 ∷ []) $ by ! (never_none r e Z whole)))

module _ {M : Type 1} {𝓤 : Ura M} (𝓛 : Logic 𝓤) where
  abbrev pub Begun : ℕ → Fml
  Begun γ = fsep (grips_left γ of_holds 0) (fsep (grips_left γ of_shares 0) (grip is_all γ of_last))

  abbrev All : ℕ → ℕ → Fml
  All γ n = entries_from halved γ n (λ _. (full_share, v))

  pub begins : ent 𝓤 (emp 𝓤) (upd 𝓤 (ex 𝓤 (λ (γ : ℕ). sem 𝓛 (Begun γ))))
  begins = let Z : SProp 𝓤 = ex 𝓤 (λ (γ : ℕ). sem 𝓛 (Begun γ)) in qed 𝓛 [] ∵ use0 𝓛 (raw (upd 𝓤 (ex 𝓤 (λ (γ : ℕ). sem 𝓛 (All γ 0)))))
      (entries_new halved 𝓛 0 (λ _. (full_share, v))) $ settle 𝓛 Z (some (λ (γ : ℕ). ‵ (All γ 0))) $ suffices ! _ (base.Logic.upd_i 𝓤 Z) $ pick ! (λ γ.
      let taken : (n : ℕ) → ent 𝓤 (sem 𝓛 (All γ n)) (sep 𝓤 (sem 𝓛 (gripped γ n full_share)) (sem 𝓛 (All γ (suc n)))) = λ n. entries_take halved 𝓛 γ n (λ _.
      (full_share, v)) in
      use1 𝓛 (‵ (gripped γ of_holds full_share) ⊛ ‵ (All γ 1)) (taken 0) $ split ! $ use1 𝓛 (‵ (grips_left γ of_holds 0)) (none_out 𝓛 γ of_holds) $ move ! (1 ∷ []) $
      use1 𝓛 (‵ (gripped γ of_shares full_share) ⊛ ‵ (All γ 2)) (taken 1) $ split ! $ use1 𝓛 (‵ (grips_left γ of_shares 0)) (none_out 𝓛 γ of_shares) $ move ! (1 ∷ []) $
      use1 𝓛 (‵ (gripped γ of_last full_share) ⊛ ‵ (All γ 3)) (taken 2) $ split ! $ fpack ! (full_share ≡ full_share) (λ _. gripped γ of_last full_share) refl $
      fpack ! Share (λ e. fex (is_all e) (λ _. gripped γ of_last e)) full_share $ move ! (3 ∷ 2 ∷ 0 ∷ []) $ fjoin3 ! $ keep ! (0 ∷ []) $
      show ! (λ (γ : ℕ). sem 𝓛 (Begun γ)) γ $ done !)

not_none : (n : ℕ) → ¬ (suc n ≡ 0)
not_none n e = omega (arith, e)

module _ {M : Type 1} {𝓤 : Ura M} (𝓛 : Logic 𝓤) (a : ℕ) where
  -- a part of a token that has ended is no part
  pub part_dead : (N : ℕ) (Z : SProp 𝓤) → ent 𝓤 (sep 𝓤 (sem 𝓛 (part N a)) (𝓛.A.dead (a ∷ []))) Z
  part_dead N Z = qed 𝓛 (‵ (part N a) ∷ ‵ (fdead (a ∷ [])) ∷ []) ∵ fpick ! (λ e. fpick ! (λ c. by ! (via 𝓤 (never 𝓤) (𝓛.lfts.lft-dead (a ∷ []) e) (never_e 𝓤 Z))))

module _ {M : Type 1} {𝓤 : Ura M} (𝓛 : Logic 𝓤) (R Q : RattleType) {V : Type 0} (cv : Coded V) (holds : State (Place R.Denot Q.Denot) V → Type 0) (out : ℕ → ℕ) (P : Fml)
    (z : BlockId) where
  abbrev 𝓝 : Signs 𝓛
  𝓝 = signs 𝓛

  open 𝓝 use {⟦◌⟧, ◌⊢◌, ◌∗◌}

  abbrev Counted : Bool → ℕ → ℕ → Fml
  Counted = counted R Q cv.code holds out P z

  abbrev few : ℕ → Fml
  few h = fact (h < 9223372036854775808)

  -- where so many are out
  abbrev On : ℕ → ℕ → Fml
  On n h = fsep (few h) (fsep (fsep (rest 64 z.age (keepers n + h)) (shares_left z n)) (grips_left z.grips of_holds h))

  pub same : (w w' h : ℕ) → out w' ≡ out w → ⟦ Counted true w h ⟧ ⊢ ⟦ Counted true w' h ⟧
  same w w' h e = qed 𝓛 (‵ (Counted true w h) ∷ []) ∵ rewrite ! 0 (λ (n : ℕ). ‵ (On n h)) (sym e) refl $ done !

  -- a part of the grips of shares shows that one is out, and one of the last share's that none is
  live_on : (n h : ℕ) (q : Share) → ⟦ On n h ⟧ ∗ ⟦ gripped z.grips of_shares q ⟧ ⊢ guard 𝓤 (0 < n) (⟦ On n h ⟧ ∗ ⟦ gripped z.grips of_shares q ⟧)
  live_on n h q = qed 𝓛 (‵ (On n h) ∷ ‵ (gripped z.grips of_shares q) ∷ []) ∵ fsplit3 ! $ move ! (1 ∷ []) $ fsplit ! $ move ! (1 ∷ []) $ fsplit ! $ move ! (0 ∷ 5 ∷ []) $
      use2 𝓛 (given (0 < n) (‵ (grips_left z.grips of_shares n) ⊛ ‵ (gripped z.grips of_shares q))) (some_out 𝓛 z.grips of_shares n q) $ learn ! (λ any_out. split ! $
      -- [the grips; the part; the last share's; the age's rest; few; the grips of holds]
      check ! any_out $ move ! (0 ∷ 2 ∷ []) $ fjoin ! $ move ! (2 ∷ 0 ∷ []) $ fjoin ! $ move ! (2 ∷ 0 ∷ 3 ∷ []) $ fjoin3 ! $ done !)

  last_on : (n h : ℕ) (q : Share) → ⟦ On n h ⟧ ∗ ⟦ gripped z.grips of_last q ⟧ ⊢ guard 𝓤 (n ≡ 0) (⟦ On n h ⟧ ∗ ⟦ gripped z.grips of_last q ⟧)
  last_on zero h q = qed 𝓛 (‵ (On zero h) ∷ ‵ (gripped z.grips of_last q) ∷ []) ∵ check ! refl $ done !
  last_on (suc n) h q = qed 𝓛 (‵ (On (suc n) h) ∷ ‵ (gripped z.grips of_last q) ∷ []) ∵ fsplit3 ! $ move ! (1 ∷ []) $ fsplit ! $ move ! (1 ∷ []) $ fsplit ! $ keep ! (1 ∷ 5 ∷ []) $
      by ! (none_beside 𝓛 z.grips of_last q _)

  gripped_in : (much : Share → Type 0) (k : ℕ) (q : Share) → much q → ⟦ gripped z.grips k q ⟧ ∗ ⟦ part 64 z.age ⟧ ⊢ ⟦ fsep (part 64 z.age) (grip much z.grips k) ⟧
  gripped_in much k q c = qed 𝓛 (‵ (gripped z.grips k q) ∷ ‵ (part 64 z.age) ∷ []) ∵ fpack ! (much q) (λ _. gripped z.grips k q) c $
      fpack ! Share (λ e. fex (much e) (λ _. gripped z.grips k e)) q $ move ! (1 ∷ 0 ∷ []) $ fjoin ! $ done !

  pub live : (w h : ℕ) (q : Share) → ⟦ Counted true w h ⟧ ∗ ⟦ gripped z.grips of_shares q ⟧ ⊢ guard 𝓤 (0 < out w) (⟦ Counted true w h ⟧ ∗ ⟦ gripped z.grips of_shares q ⟧)
  live w h q = live_on (out w) h q

  pub lone : (w h : ℕ) (q : Share) → ⟦ Counted true w h ⟧ ∗ ⟦ gripped z.grips of_last q ⟧ ⊢ guard 𝓤 (out w ≡ 0) (⟦ Counted true w h ⟧ ∗ ⟦ gripped z.grips of_last q ⟧)
  lone w h q = last_on (out w) h q

  -- a whole grip shows that a share is out
  pub live_parts : (w h : ℕ) → ⟦ Counted true w h ⟧ ∗ ⟦ parts z ⟧ ⊢ guard 𝓤 (0 < out w) (⟦ Counted true w h ⟧ ∗ ⟦ parts z ⟧)
  live_parts w h = qed 𝓛 (‵ (Counted true w h) ∷ ‵ (parts z) ∷ []) ∵ move ! (1 ∷ []) $ fsplit ! $ move ! (1 ∷ []) $ fpick ! (λ q. fpick ! (λ c. move ! (2 ∷ 0 ∷ []) $
      use2 𝓛 (given (0 < out w) (‵ (Counted true w h) ⊛ ‵ (gripped z.grips of_shares q))) (live w h q) $ learn ! (λ any_out. split ! $ check ! any_out $ frame ! $
      by ! (gripped_in is_one of_shares q c))))

  pub lone_parts : (w h : ℕ) → ⟦ Counted true w h ⟧ ∗ ⟦ last_parts z ⟧ ⊢ guard 𝓤 (out w ≡ 0) (⟦ Counted true w h ⟧ ∗ ⟦ last_parts z ⟧)
  lone_parts w h = qed 𝓛 (‵ (Counted true w h) ∷ ‵ (last_parts z) ∷ []) ∵ move ! (1 ∷ []) $ fsplit ! $ move ! (1 ∷ []) $ fpick ! (λ q. fpick ! (λ c. move ! (2 ∷ 0 ∷ []) $
      use2 𝓛 (given (out w ≡ 0) (‵ (Counted true w h) ⊛ ‵ (gripped z.grips of_last q))) (lone w h q) $ learn ! (λ none. split ! $ check ! none $ frame ! $
      by ! (gripped_in is_all of_last q c))))

  -- once all are closed nobody has either
  pub share_closed : (q : Share) (Z : SProp 𝓤) → ⟦ gripped z.grips of_shares q ⟧ ∗ ⟦ closed z ⟧ ⊢ Z
  share_closed q Z = qed 𝓛 (‵ (gripped z.grips of_shares q) ∷ ‵ (closed z) ∷ []) ∵ move ! (1 ∷ []) $ fsplit ! $ keep ! (0 ∷ 2 ∷ []) $
      use2 𝓛 (given (0 < 0) (‵ (grips_left z.grips of_shares 0) ⊛ ‵ (gripped z.grips of_shares q))) (some_out 𝓛 z.grips of_shares 0 q) $ learn ! (λ lt. absurd (omega arith))

  pub last_closed : (q : Share) (Z : SProp 𝓤) → ⟦ gripped z.grips of_last q ⟧ ∗ ⟦ closed z ⟧ ⊢ Z
  last_closed q Z = qed 𝓛 (‵ (gripped z.grips of_last q) ∷ ‵ (closed z) ∷ []) ∵ move ! (1 ∷ []) $ fsplit ! $ keep ! (1 ∷ 2 ∷ []) $ by ! (none_beside 𝓛 z.grips of_last q Z)

  pub parts_closed : (Z : SProp 𝓤) → ⟦ parts z ⟧ ∗ ⟦ closed z ⟧ ⊢ Z
  parts_closed Z = qed 𝓛 (‵ (parts z) ∷ ‵ (closed z) ∷ []) ∵ fsplit ! $ move ! (1 ∷ []) $ fpick ! (λ q. fpick ! (λ c. keep ! (0 ∷ 2 ∷ []) $ by ! (share_closed q Z)))

  pub lone_closed : (Z : SProp 𝓤) → ⟦ last_parts z ⟧ ∗ ⟦ closed z ⟧ ⊢ Z
  lone_closed Z = qed 𝓛 (‵ (last_parts z) ∷ ‵ (closed z) ∷ []) ∵ fsplit ! $ move ! (1 ∷ []) $ fpick ! (λ q. fpick ! (λ c. keep ! (0 ∷ 2 ∷ []) $ by ! (last_closed q Z)))

  -- one share more, where some are out; and one less, which may leave the last share
  more_on : (n h : ℕ) → 0 < n → n + 1 < 4611686018427387904 → ⟦ On n h ⟧ ⊢ ⟦ On (suc n) h ⟧ ∗ ⟦ parts z ⟧
  more_on zero h any_out room = absurd (omega arith)
  more_on (suc n) h any_out room = let m : ℕ = suc n in qed 𝓛 (‵ (On m h) ∷ []) ∵ fsplit3 ! $ fpick ! (λ small. drop ! $ fsplit ! $ move ! (1 ∷ []) $ fsplit ! $
      -- [the shares' grips; the last share's; the age's rest; the holds' grips]
      let room_in : m + h + 1 < 2 ^ 64 = omega arith in let room_of : m + 1 < 9223372036854775808 = omega arith in
      use1 𝓛 (‵ (grips_left z.grips of_shares (m + 1)) ⊛ ‵ (grip is_one z.grips of_shares)) (takes 𝓛 z.grips of_shares m room_of) $ split ! $ move ! (3 ∷ []) $
      use1 𝓛 (‵ (rest 64 z.age (m + h + 1)) ⊛ ‵ (part 64 z.age)) (counts.takes 64 𝓛 z.age (m + h) room_in) $ split ! $ let is : m + h + 1 ≡ suc m + h = omega arith in
      let is' : m + 1 ≡ suc m = omega arith in rewrite ! 0 (λ (i : ℕ). ‵ (rest 64 z.age i)) is refl $ rewrite ! 2 (λ (i : ℕ). ‵ (grips_left z.grips of_shares i)) is' refl $
      -- [the age's rest and part; the shares' grips and one; the last share's; the holds' grips]
      move ! (2 ∷ 4 ∷ []) $ fjoin ! $ move ! (1 ∷ 0 ∷ []) $ fjoin ! $ nothing ! $ fpack ! (h < 9223372036854775808) (λ _. ftrue) small $ move ! (0 ∷ 1 ∷ 4 ∷ []) $ fjoin3 ! $ frame ! $
      fjoin ! $ done !)

  less_on : (n h : ℕ) → ⟦ On (suc n) h ⟧ ∗ ⟦ parts z ⟧ ⊢ ⟦ On n h ⟧ ∗ ⟦ parts_if false (eqb n 0) z ⟧
  less_on n h = qed 𝓛 (‵ (On (suc n) h) ∷ ‵ (parts z) ∷ []) ∵ fsplit3 ! $ fpick ! (λ small. drop ! $ fsplit ! $ move ! (1 ∷ []) $ fsplit ! $ move ! (4 ∷ []) $ fsplit ! $
      -- [the part; the grip; the shares' grips; the last share's; the age's rest; the holds' grips]
      move ! (2 ∷ 1 ∷ []) $ use2 𝓛 (given (0 < suc n) (‵ (grips_left z.grips of_shares (suc n - 1)))) (gives 𝓛 z.grips of_shares (suc n)) $ learn ! (λ any_out.
      let is : suc n - 1 ≡ n = omega arith in rewrite ! 0 (λ (i : ℕ). ‵ (grips_left z.grips of_shares i)) is refl $ move ! (0 ∷ 2 ∷ 3 ∷ 1 ∷ 4 ∷ []) $ types.Kit.group ! 5 $
      by ! (left_by n h small)))
    where
      left_by : (n h : ℕ) → h < 9223372036854775808 → ⟦ grips_left z.grips of_shares n ⟧ ∗ ⟦ grip is_all z.grips of_last ⟧ ∗ ⟦ rest 64 z.age (suc n + h) ⟧ ∗
          ⟦ part 64 z.age ⟧
          ∗ ⟦ grips_left z.grips of_holds h ⟧ ⊢ ⟦ On n h ⟧ ∗ ⟦ parts_if false (eqb n 0) z ⟧
      left_by zero h small = qed 𝓛 (‵ (grips_left z.grips of_shares 0) ∷ ‵ (grip is_all z.grips of_last) ∷ ‵ (rest 64 z.age (1 + h)) ∷ ‵ (part 64 z.age) ∷
          ‵ (grips_left z.grips of_holds h) ∷ []) ∵ nothing ! $ move ! (1 ∷ 0 ∷ []) $ fjoin ! $ move ! (2 ∷ 0 ∷ []) $ fjoin ! $ nothing ! $
          fpack ! (h < 9223372036854775808) (λ _. ftrue) small $ move ! (0 ∷ 1 ∷ 4 ∷ []) $ fjoin3 ! $ frame ! $ move ! (1 ∷ 0 ∷ []) $ fjoin ! $ done !
      left_by (suc n) h small = qed 𝓛 (‵ (grips_left z.grips of_shares (suc n)) ∷ ‵ (grip is_all z.grips of_last) ∷ ‵ (rest 64 z.age (suc (suc n) + h)) ∷ ‵ (part 64 z.age) ∷
          ‵ (grips_left z.grips of_holds h) ∷ []) ∵ fjoin ! $ move ! (1 ∷ 2 ∷ []) $ use2 𝓛 (‵ (rest 64 z.age (suc (suc n) + h - 1))) (counts.gives 64 𝓛 z.age (suc (suc n) + h)
          (omega arith)) $ let is : suc (suc n) + h - 1 ≡ suc n + h = omega arith in rewrite ! 0 (λ (i : ℕ). ‵ (rest 64 z.age i)) is refl $ fjoin ! $ nothing ! $
          fpack ! (h < 9223372036854775808) (λ _. ftrue) small $ move ! (0 ∷ 1 ∷ 2 ∷ []) $ fjoin3 ! $ frame ! $ nothing ! $
          rewrite ! 0 (λ (b : Bool). ‵ (parts_if false b z)) (sym (ne_eqb (suc n) 0 (not_none n))) refl $ done !

  -- the last share becomes a share again
  pub revives : (w w' h : ℕ) → out w ≡ 0 → out w' ≡ 1 → ⟦ Counted true w h ⟧ ∗ ⟦ last_parts z ⟧ ⊢ ⟦ Counted true w' h ⟧ ∗ ⟦ parts z ⟧
  revives w w' h none one = qed 𝓛 (‵ (Counted true w h) ∷ ‵ (last_parts z) ∷ []) ∵ rewrite ! 0 (λ (n : ℕ). ‵ (On n h)) none refl $ fsplit3 ! $ move ! (1 ∷ []) $ fsplit ! $
      move ! (1 ∷ []) $ fsplit ! $ move ! (5 ∷ []) $ fsplit ! $ move ! (2 ∷ []) $
      -- [the shares' grips; the part; the last share's grip; nothing; the age's rest; few; the holds' grips]
      use1 𝓛 (‵ (grips_left z.grips of_shares 1) ⊛ ‵ (grip is_one z.grips of_shares)) (takes 𝓛 z.grips of_shares 0 (omega arith)) $ split ! $ move ! (0 ∷ 3 ∷ []) $ fjoin ! $
      move ! (4 ∷ 0 ∷ []) $ fjoin ! $ move ! (4 ∷ 0 ∷ 5 ∷ []) $ fjoin3 ! $ rewrite ! 0 (λ (n : ℕ). ‵ (On n h)) (sym one) refl $ frame ! $ keep ! (1 ∷ 0 ∷ []) $ fjoin ! $ done !

  -- how many keep the memory beside the holds
  keepers_some : (n : ℕ) → 0 < keepers n
  keepers_some zero = omega arith
  keepers_some (suc n) = omega arith

  keepers_few : (n : ℕ) → n < 9223372036854775808 → keepers n < 9223372036854775808
  keepers_few zero small = omega arith
  keepers_few (suc n) small = small

  pub hold_more : (w h : ℕ) → h + 1 < 9223372036854775808 → ⟦ Counted true w h ⟧ ⊢ ⟦ Counted true w (h + 1) ⟧ ∗ ⟦ hold_parts z ⟧
  hold_more w h room = let n : ℕ = out w in let m : ℕ = keepers n in qed 𝓛 (‵ (Counted true w h) ∷ []) ∵ fsplit3 ! $ drop ! $ fsplit ! $ move ! (1 ∷ []) $ fsplit ! $
      use1 𝓛 (given (n < 9223372036854775808) (‵ (grips_left z.grips of_shares n))) (few_out 𝓛 z.grips of_shares n) $ learn ! (λ bound. let most = keepers_few n bound in
      let room_in : m + h + 1 < 2 ^ 64 = omega arith in fjoin ! $ move ! (1 ∷ []) $ use1 𝓛 (‵ (rest 64 z.age (m + h + 1)) ⊛ ‵ (part 64 z.age)) (counts.takes 64 𝓛 z.age (m + h)
      room_in) $ split ! $ move ! (3 ∷ []) $
      use1 𝓛 (‵ (grips_left z.grips of_holds (h + 1)) ⊛ ‵ (grip is_one z.grips of_holds)) (takes 𝓛 z.grips of_holds h room) $ split ! $
      -- [the grips; a grip; the age's rest and part; the shares' grips]
      let is : m + h + 1 ≡ m + (h + 1) = omega arith in rewrite ! 2 (λ (i : ℕ). ‵ (rest 64 z.age i)) is refl $ move ! (2 ∷ 4 ∷ []) $ fjoin ! $
      nothing ! $ fpack ! (h + 1 < 9223372036854775808) (λ _. ftrue) room $ move ! (0 ∷ 1 ∷ 2 ∷ []) $ fjoin3 ! $ frame ! $ move ! (1 ∷ 0 ∷ []) $ fjoin ! $ done !)

  -- one hold less, with the closer here; some hold was out
  abbrev pub HoldLess : Bool → ℕ → ℕ → SProp 𝓤
  HoldLess true w h = guard 𝓤 ((0 < h) × (h < 9223372036854775808)) ⟦ Counted true w (h - 1) ⟧
  HoldLess false w h = guard 𝓤 ((9223372036854775808 < h) × (h < 18446744073709551616)) (⟦ rest 64 z.age (h - 9223372036854775808) ⟧ ∗ ⟦ part 64 z.age ⟧ ∗ ⟦ closed z ⟧
      ∗ ⟦ grips_left z.grips of_holds (h - 9223372036854775808 - 1) ⟧)

  pub hold_less : (y : Bool) (w h : ℕ) → ⟦ Counted y w h ⟧ ∗ ⟦ hold_parts z ⟧ ⊢ HoldLess y w h
  hold_less true w h = let m : ℕ = keepers (out w) in let least = keepers_some (out w) in qed 𝓛 (‵ (Counted true w h) ∷ ‵ (hold_parts z) ∷ []) ∵ fsplit3 ! $ fpick ! (λ small. drop ! $
      fsplit ! $ move ! (3 ∷ []) $ fsplit ! $ move ! (4 ∷ 1 ∷ []) $ use2 𝓛 (given (0 < h) (‵ (grips_left z.grips of_holds (h - 1)))) (gives 𝓛 z.grips of_holds h) $
      learn ! (λ some_out.
      -- [the grips; the part; the age's rest; the shares' grips]
      move ! (2 ∷ 1 ∷ []) $ use2 𝓛 (‵ (rest 64 z.age (m + h - 1))) (counts.gives 64 𝓛 z.age (m + h) (omega arith)) $ let is : m + h - 1 ≡ m + (h - 1) = omega arith in
      rewrite ! 0 (λ (i : ℕ). ‵ (rest 64 z.age i)) is refl $ move ! (0 ∷ 2 ∷ []) $ fjoin ! $ check ! (some_out, small) $ nothing ! $ fpack ! (h - 1 < 9223372036854775808) (λ _. ftrue)
      (omega arith) $ fjoin3 ! $ done !))
  hold_less false w h = qed 𝓛 (‵ (Counted false w h) ∷ ‵ (hold_parts z) ∷ []) ∵ fsplit3 ! $ fpick ! (λ big. drop ! $ fsplit ! $ move ! (3 ∷ []) $ fsplit ! $ move ! (4 ∷ 1 ∷ []) $
      use1 𝓛 (given (h - 9223372036854775808 < 9223372036854775808) (‵ (grips_left z.grips of_holds (h - 9223372036854775808)))) (few_out 𝓛 z.grips of_holds (h - 9223372036854775808)) $
      learn ! (λ most. use2 𝓛 (given (0 < h - 9223372036854775808) (‵ (grips_left z.grips of_holds (h - 9223372036854775808 - 1)))) (gives 𝓛 z.grips of_holds (h - 9223372036854775808)) $
      learn ! (λ some_out. check ! (omega arith, omega arith) $
      -- [the grips; the part; the age's rest; over]
      move ! (2 ∷ 1 ∷ 3 ∷ 0 ∷ []) $ done !)))

  -- the last share, and no hold
  pub alone : (w : ℕ) → out w ≡ 0 → ⟦ Counted true w 0 ⟧ ∗ ⟦ last_parts z ⟧ ⊢ 𝓛.A.lft (life z) full_share ∗ ⟦ closed z ⟧
  alone w none = qed 𝓛 (‵ (Counted true w 0) ∷ ‵ (last_parts z) ∷ []) ∵ rewrite ! 0 (λ (n : ℕ). ‵ (On n 0)) none refl $ fsplit3 ! $ drop ! $ fsplit ! $ move ! (1 ∷ []) $ fsplit ! $
      move ! (4 ∷ []) $ fsplit ! $ move ! (4 ∷ 0 ∷ []) $ use2 𝓛 (‵ (flft (life z) full_share)) (counts.whole 64 𝓛 z.age) $ keep ! (0 ∷ 2 ∷ 1 ∷ []) $ frame ! $ fjoin ! $ done !

  -- the last share leaves, and there are holds
  pub departs : (w h : ℕ) → out w ≡ 0 → 0 < h → ⟦ Counted true w h ⟧ ∗ ⟦ last_parts z ⟧ ⊢ ⟦ Counted false w (h + 9223372036854775808) ⟧
  departs w h none some_out = qed 𝓛 (‵ (Counted true w h) ∷ ‵ (last_parts z) ∷ []) ∵ rewrite ! 0 (λ (n : ℕ). ‵ (On n h)) none refl $ fsplit3 ! $ drop ! $ fsplit ! $
      move ! (1 ∷ []) $
      fsplit ! $ move ! (4 ∷ []) $ fsplit ! $ move ! (4 ∷ 0 ∷ []) $ use2 𝓛 (‵ (rest 64 z.age (1 + h - 1))) (counts.gives 64 𝓛 z.age (1 + h) (omega arith)) $
      let is : 1 + h - 1 ≡ h + 9223372036854775808 - 9223372036854775808 = omega arith in let is' : h ≡ h + 9223372036854775808 - 9223372036854775808 = omega arith in
      -- [the age's rest; the last share's grip; the shares' grips; nothing; the holds' grips]
      rewrite ! 0 (λ (n : ℕ). ‵ (rest 64 z.age n)) is refl $ rewrite ! 4 (λ (n : ℕ). ‵ (grips_left z.grips of_holds n)) is' refl $ move ! (2 ∷ 1 ∷ []) $ fjoin ! $ move ! (1 ∷
      0 ∷ []) $
      fjoin ! $ nothing ! $ fpack ! (9223372036854775808 ≤ h + 9223372036854775808) (λ _. ftrue) (omega arith) $ keep ! (0 ∷ 1 ∷ 3 ∷ []) $ fjoin3 ! $ done !

  pub hold_stays : (w h : ℕ) → 9223372036854775809 < h → h < 18446744073709551616 → ⟦ rest 64 z.age (h - 9223372036854775808) ⟧ ∗ ⟦ part 64 z.age ⟧ ∗ ⟦ closed z ⟧
      ∗ ⟦ grips_left z.grips of_holds (h - 9223372036854775808 - 1) ⟧ ⊢ ⟦ Counted false w (h - 1) ⟧
  hold_stays w h many most = qed 𝓛 (‵ (rest 64 z.age (h - 9223372036854775808)) ∷ ‵ (part 64 z.age) ∷ ‵ (closed z) ∷ ‵ (grips_left z.grips of_holds (h - 9223372036854775808 - 1)) ∷
      []) ∵
      use2 𝓛 (‵ (rest 64 z.age (h - 9223372036854775808 - 1))) (counts.gives 64 𝓛 z.age (h - 9223372036854775808) (omega arith)) $ let is : h - 9223372036854775808 - 1 ≡ h - 1 -
      9223372036854775808 = omega arith in rewrite ! 0 (λ (n : ℕ). ‵ (rest 64 z.age n)) is refl $ rewrite ! 2 (λ (n : ℕ). ‵ (grips_left z.grips of_holds n)) is refl $ fjoin ! $ nothing ! $
      fpack ! (9223372036854775808 ≤ h - 1) (λ _. ftrue) (omega arith) $ fjoin3 ! $ done !

  -- the trades of a step on the word, by who has a part of the shares' grips, or of the last share's
  module _ (w w' h : ℕ) (y : Bool) where
    pub more_by : (y ≡ false) × (out w' ≡ out w) ⊎ (y ≡ true) × (out w' ≡ out w + 1) × (out w + 1 < 4611686018427387904) → 0 < out w → ⟦ Counted true w h ⟧
        ⊢ ⟦ Counted true w' h ⟧ ∗ ⟦ parts_if y false z ⟧
    more_by (inl x) any_out = qed 𝓛 (‵ (Counted true w h) ∷ []) ∵ use1 𝓛 (‵ (Counted true w' h)) (same w w' h x.1) $ frame ! $ nothing ! $
        rewrite ! 0 (λ (b : Bool). ‵ (parts_if b false z)) (sym x.0) refl $ done !
    more_by (inr x) any_out = let e = x.1 in let is : suc (out w) ≡ out w' = omega arith in qed 𝓛 (‵ (Counted true w h) ∷ []) ∵
        use1 𝓛 (‵ (On (suc (out w)) h) ⊛ ‵ (parts z)) (more_on (out w) h any_out x.2) $ split ! $ rewrite ! 0 (λ (n : ℕ). ‵ (On n h)) is refl $ frame ! $
        rewrite ! 0 (λ (b : Bool). ‵ (parts_if b false z)) (sym x.0) refl $ done !

    pub less_by : (last : Bool) → (y ≡ false) × (out w' ≡ out w) ⊎ (y ≡ true) × (out w' + 1 ≡ out w) × (last ≡ eqb (out w') 0) → ⟦ Counted true w h ⟧ ∗ ⟦ parts z ⟧
        ⊢ ⟦ Counted true w' h ⟧ ∗ ⟦ parts_if (not y) last z ⟧
    less_by last (inl x) = qed 𝓛 (‵ (Counted true w h) ∷ ‵ (parts z) ∷ []) ∵ use1 𝓛 (‵ (Counted true w' h)) (same w w' h x.1) $ frame ! $
        rewrite ! 0 (λ (b : Bool). ‵ (parts_if (not b) last z)) (sym x.0) refl $ done !
    less_by last (inr x) = let e = x.1 in let is : out w ≡ suc (out w') = omega arith in qed 𝓛 (‵ (Counted true w h) ∷ ‵ (parts z) ∷ []) ∵
        rewrite ! 0 (λ (n : ℕ). ‵ (On n h)) is refl $
        use2 𝓛 (‵ (On (out w') h) ⊛ ‵ (parts_if false (eqb (out w') 0) z)) (less_on (out w') h) $ split ! $ frame ! $
        rewrite ! 0 (λ (b : Bool). ‵ (parts_if false b z)) (sym x.2) refl $ rewrite ! 0 (λ (b : Bool). ‵ (parts_if (not b) last z)) (sym x.0) refl $ done !
