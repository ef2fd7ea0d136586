-- The invariant of a block is had by all; a share, a hold, the last share and a ledger are lent. Assumes `Logic`.
use Rattle.std.proofs.Common.{ℕ, [], ◌∷◌}
use seplogic.Ra.Ura.{Ura}
use base.FractionLaws.{Counts}
use base.Stored.{Gv}
use base.Logic.{ent, sep, wand, upd_i, id⊢, apply∗, snd∗}
use base.Fml.{Lft, Share, Fml, ftrue, fsep, fex, fseps, fwand, fupd, fdead, fbor, flft}
use contract.BorrowLft.{meet_⊑_left}
use ghost.Rules.{span, thinned}
use types.Logic.{Logic, sem, lfts}
use types.Kit.{‵, raw, ◌⊛◌, some, later, ◌$◌, ◌∵◌, !, qed, by, move, keep, drop, use1, use2, split, split3, fsplit, fsplit3, fjoin, fjoin3, fpick, fpack, pick, assume, now}
use types.Kit.{suffices, await, updating, done}
use types.Tokens.{bor_open, obor_alter, obor_close, bor_fracture, one_token}
use types.RcWeak.{part, part_in}
use denote.RattleType.{RattleType}
use denote.Param.Laws.{Laws}
use denote.Param.Shared.{Sharables, copy_shared}
use denote.RawPtr.{Ptr, ◌+ₚ◌}
use denote.Sharing.{ShrLaws, one, held, beside, said}
use denote.SharingLaws.{said_shr_laws, contraction, beside_shr_laws, one_shr_laws, held_shr_laws}
use denote.Moves.{moves_from}
use denote.Steps.{nothing}
use denote.Struct.Field.{RawPtr-field}
use denote.Struct.Laws.{RawPtr-copy, field_copy}
use denote.Struct.Lending.{Law, Lends, Lends-both, Lends-said, of_Lends, lent_at_shr_laws}
use denote.Struct.Owning.{Codes, lending, row}
use denote.Struct.Record.{Record}
use denote.Struct.Tuple.{Tuple}
use Rattle.std.specs.contracts.marker.PhantomData as phantom
use Rattle.std.specs.declared.alloc.Allocator as Alloc
use Rattle.counted_block.specs.declared.rule.BlockRule.{Ghosts}
use Rattle.counted_block.specs.declared.share.Share as declared
use Rattle.counted_block.specs.Layout.{at_value}
use Rattle.counted_block.specs.Held.{content, looked_at, kept_of, lies_in, owner_of, owner_shown}
use Rattle.atomic_table.specs.Table.{State}
use Rattle.counted_block.specs.declared.place.Place.{Place}
use Rattle.counted_block.specs.Blocks.{BlockId, life, place, gripped, kept, owner_owns, owner_shares, block}
use Rattle.counted_block.proofs.Signs.{Signs, signs}

module _ {M : Type 1} {𝓤 : Ura M} (𝓛 : Logic 𝓤) (F : Fml) (G : Lft → Fml) (l : Lft)
    (by_token : (κ : Lft) (q : Share) → ent 𝓤 (sep 𝓤 (𝓛.A.bor κ F) (𝓛.A.lft κ q)) (𝓛.H.⇛ (sep 𝓤 (sem 𝓛 (G κ)) (𝓛.A.lft κ q)))) where
  open 𝓛 use {A}

  lends_by : Lends 𝓛 F G l
  lends_by κ ts inc sp = qed 𝓛 (‵ (fbor κ F) ∷ raw (lfts 𝓛 ts) ∷ []) ∵ updating ! $ move ! (1 ∷ []) $
      use1 𝓛 (some (λ (q : Share). ‵ (flft (span ts) q) ⊛ raw (wand 𝓤 (A.lft (span ts) q) (lfts 𝓛 ts)))) (one_token 𝓛 ts) $ pick ! (λ q. split ! $
      use1 𝓛 (‵ (flft κ (thinned κ q)) ⊛ raw (wand 𝓤 (A.lft κ (thinned κ q)) (A.lft (span ts) q))) (𝓛.lfts.lft-incl (span ts) κ q sp) $ split ! $ move ! (3 ∷ 0 ∷ []) $
      use2 𝓛 (later (‵ (G κ) ⊛ ‵ (flft κ (thinned κ q)))) (by_token κ (thinned κ q)) $ await ! tt $ split ! $ move ! (1 ∷ 2 ∷ []) $
      use2 𝓛 (‵ (flft (span ts) q)) (apply∗ 𝓤 (A.lft κ (thinned κ q)) (A.lft (span ts) q)) $ move ! (0 ∷ 2 ∷ []) $ use2 𝓛 (raw (lfts 𝓛 ts)) (apply∗ 𝓤 (A.lft (span ts) q)
      (lfts 𝓛 ts)) $ now ! $ move ! (1 ∷ 0 ∷ []) $ done !)

module _ (R Q : RattleType) {V : Type 0} (c : V → Gv) (holds : State (Place R.Denot Q.Denot) V → Type 0) (out : ℕ → ℕ) (P : Fml) (z : BlockId) where
  abbrev J : Fml
  J = block R Q c holds out P z

  abbrev K : Fml
  K = kept R Q c holds out P z

  module _ {M : Type 1} {𝓤 : Ura M} (𝓛 : Logic 𝓤) where
    pub kept_twice : ent 𝓤 (sem 𝓛 K) (sep 𝓤 (sem 𝓛 K) (sem 𝓛 K))
    kept_twice = 𝓛.invs.inv_dup J

    pub kept_inv : ent 𝓤 (sem 𝓛 K) (𝓛.A.inv J)
    kept_inv = id⊢ 𝓤 (sem 𝓛 K)

    -- the invariant, and what has it still
    pub kept_shows : ent 𝓤 (sem 𝓛 K) (sep 𝓤 (𝓛.A.inv J) (sem 𝓛 K))
    kept_shows = 𝓛.invs.inv_dup J

    pub keeps_new : ent 𝓤 (sem 𝓛 J) (𝓛.H.⇛ (sem 𝓛 K))
    keeps_new = 𝓛.invs.inv_new J

  pub kept_laws : ShrLaws (λ _. K)
  kept_laws = record { contraction = λ M 𝓤 𝓛 κ. kept_twice 𝓛; mono = λ M 𝓤 𝓛 κ' κ. snd∗ 𝓤 (sem 𝓛 (base.Before.before κ' κ)) (sem 𝓛 K) }

  module _ (t : Lft → Fml) (L : ShrLaws t) where
    module _ (much : Share → Type 0) (k : ℕ) where
      abbrev owns : Fml
      owns = owner_owns K t much k z

      abbrev shows : Lft → Fml
      shows = owner_shares K t much k z

      pub shows_laws : ShrLaws shows
      shows_laws = beside_shr_laws (beside (one (λ q. flft (life z) q)) (one (λ q. gripped z.grips k q))) (beside (λ _. K) (held (life z) t))
          (beside_shr_laws (one (λ q. flft (life z) q)) (one (λ q. gripped z.grips k q)) (one_shr_laws (λ q. flft (life z) q)) (one_shr_laws (λ q. gripped z.grips k q)))
          (beside_shr_laws (λ _. K) (held (life z) t) kept_laws (held_shr_laws (life z) t L))

    module _ {M : Type 1} {𝓤 : Ura M} (𝓛 : Logic 𝓤) where
      open 𝓛 use {H, A}

      abbrev 𝓝 : Signs 𝓛
      𝓝 = signs 𝓛

      open 𝓝 use {⟦◌⟧, ◌⊢◌, ◌∗◌}

      kept_by_token : (κ : Lft) (q : Share) → A.bor κ K ∗ A.lft κ q ⊢ H.⇛ (⟦ K ⟧ ∗ A.lft κ q)
      kept_by_token κ q = qed 𝓛 (‵ (fbor κ K) ∷ ‵ (flft κ q) ∷ []) ∵ updating ! $ bor_open ! tt $ move ! (1 ∷ []) $ use1 𝓛 (‵ K ⊛ ‵ K) (kept_twice 𝓛) $ split ! $
          move ! (2 ∷ 0 ∷ []) $ obor_close ! tt $ now ! $ keep ! (2 ∷ 1 ∷ []) $ done !

      pub lends_kept : (l : Lft) → Lends 𝓛 K (λ _. K) l
      lends_kept l = lends_by 𝓛 K (λ _. K) l kept_by_token

      module _ (much : Share → Type 0) (k : ℕ) where
        owner_back : (κ : Lft) (e d : Share) → Counts 64 e 1 → much d → ⟦ K ⟧ ∗ ⟦ t (life z) ⟧ ⊢ ⟦ fwand (fsep (fdead κ) (fseps (flft (life z) e ∷ gripped z.grips k d ∷ [])))
            (fupd (owns much k)) ⟧
        unfolding fseps
        owner_back κ e d ce cd = qed 𝓛 (‵ K ∷ ‵ (t (life z)) ∷ []) ∵ assume ! (‵ (fsep (fdead κ) (fsep (flft (life z) e) (fsep (gripped z.grips k d) ftrue)))) $
            suffices ! ⟦ owns much k ⟧ (upd_i 𝓤 ⟦ owns much k ⟧) $
            fsplit ! $ drop ! $ fsplit3 ! $ use1 𝓛 (‵ (part 64 z.age)) (part_in 64 𝓛 z.age e ce) $ move ! (1 ∷ []) $ fpack ! (much d) (λ _. gripped z.grips k d) cd $
            fpack ! Share (λ q. fex (much q) (λ _. gripped z.grips k q)) d $
            move ! (1 ∷ 0 ∷ []) $ fjoin ! $ keep ! (0 ∷ 2 ∷ 3 ∷ []) $ fjoin3 ! $ done !

        owner_by_token : (κ : Lft) (q : Share) → A.bor κ (owns much k) ∗ A.lft κ q ⊢ H.⇛ (⟦ shows much k κ ⟧ ∗ A.lft κ q)
        unfolding fseps
        owner_by_token κ q = qed 𝓛 (‵ (fbor κ (owns much k)) ∷ ‵ (flft κ q) ∷ []) ∵ updating ! $ bor_open ! tt $ move ! (1 ∷ []) $ fsplit3 ! $ fsplit ! $
            fpick ! (λ e. fpick ! (λ ce. move ! (1 ∷ []) $ fpick ! (λ d. fpick ! (λ cd. move ! (2 ∷ []) $
            -- [what is kept; the grip; the age's token; the value; the open borrow]
            use1 𝓛 (‵ K ⊛ ‵ K) (kept_twice 𝓛) $ split ! $ move ! (4 ∷ []) $ use1 𝓛 (‵ (t (life z)) ⊛ ‵ (t (life z))) (contraction 𝓛 t L (life z)) $
            split ! $ move ! (2 ∷ 0 ∷ []) $ use2 𝓛 (‵ (fwand (fsep (fdead κ) (fseps (flft (life z) e ∷ gripped z.grips k d ∷ []))) (fupd (owns much k)))) (owner_back κ e d ce cd) $
            -- [the way back; the value; what is kept; the grip; the age's token; the open borrow]
            nothing ! $ move ! (4 ∷ 0 ∷ []) $ fjoin ! $ move ! (4 ∷ 0 ∷ []) $ fjoin ! $ move ! (4 ∷ 0 ∷ 1 ∷ []) $ obor_alter ! tt (flft (life z) e ∷ gripped z.grips k d ∷ []) $
            use1 𝓛 (‵ (fbor κ (flft (life z) e)) ⊛ ‵ (fbor κ (gripped z.grips k d)) ⊛ ‵ ftrue) (id⊢ 𝓤 _) $ split3 ! $ bor_fracture ! tt (λ r. flft (life z) r) e $
            move ! (1 ∷ []) $
            bor_fracture ! tt (λ r. gripped z.grips k r) d $
            -- [the grip; the age; nothing; the token; the value; what is kept]
            move ! (1 ∷ 0 ∷ []) $ fjoin ! $ move ! (0 ∷ 4 ∷ 3 ∷ []) $ fjoin3 ! $ now ! $ keep ! (0 ∷ 2 ∷ []) $ done !))))

        pub lends_owner : (l : Lft) → Lends 𝓛 (owns much k) (shows much k) l
        lends_owner l = lends_by 𝓛 (owns much k) (shows much k) l owner_by_token

        pub owner_sees : (κ : Lft) → ⟦ shows much k κ ⟧ ⊢ ⟦ t κ ⟧
        owner_sees κ = qed 𝓛 (‵ (shows much k κ) ∷ []) ∵ fsplit ! $ fsplit ! $ move ! (2 ∷ []) $ fsplit ! $ keep ! (2 ∷ 1 ∷ []) $
            by ! (moves_from 𝓛 t L κ (life z) (life z) (meet_⊑_left (life z) κ))

module _ (S W V K Y T A : RattleType) (g : Ghosts Y.Denot S.Denot W.Denot V.Denot K.Denot) (h : Alloc.Ghosts A.Denot) (LT : Laws T) where
  abbrev pub marked : RattleType
  marked = Tuple (V ∷ K ∷ Y ∷ A ∷ [])

  pub pair_shared : Sharables (RawPtr-field ∷ phantom.the_field marked ∷ [])
  pair_shared = (copy_shared RawPtr-field RawPtr-copy, (copy_shared (phantom.the_field marked) (field_copy (phantom.the_type marked) tt), tt))

  -- a `&` to an owner has a part of the token and of its grip, the invariant, and the value as it is lent
  pub owner_law : (N : Record) (cs : Codes N) (see : N.D → declared.Share S.Denot W.Denot V.Denot K.Denot Y.Denot T.Denot A.Denot) (much : Share → Type 0) (k : ℕ) → Sharables N.parts
      → Law (row (lending N cs (λ d. let s = see d in owner_of S W T V.coded.code (g.holds s.key) g.out (h.dealloc_token s.heap) s.id s.value s.at much k)
      (λ d _. let s = see d in owner_shown S W T V.coded.code (g.holds s.key) g.out (h.dealloc_token s.heap) s.id s.value s.at much k)))
  owner_law N cs see much k shared =
      let own : N.D → Fml = λ d. let s = see d in owner_of S W T V.coded.code (g.holds s.key) g.out (h.dealloc_token s.heap) s.id s.value s.at much k in
      let lent : N.D → Ptr → Lft → Fml = λ d _. let s = see d in owner_shown S W T V.coded.code (g.holds s.key) g.out (h.dealloc_token s.heap) s.id s.value s.at much k in
      let lies : N.D → Fml = λ d. let s = see d in lies_in S W T V.coded.code (g.holds s.key) g.out (h.dealloc_token s.heap) s.id s.value s.at in
      let t : N.D → Lft → Fml = λ d. let s = see d in looked_at S W T (h.dealloc_token s.heap) s.id s.value in
      let kept : N.D → Fml = λ d. let s = see d in kept_of S W T V.coded.code (g.holds s.key) g.out (h.dealloc_token s.heap) s.id s.value in
      let laws : (d : N.D) → ShrLaws (t d) = λ d. let s = see d in lent_at_shr_laws T LT.shr_laws (place s.id +ₚ at_value S W T) s.value in
      of_Lends N cs own lent (λ d p. let s = see d in beside_shr_laws (said (lies d)) (owner_shares (kept d) (t d) much k s.id) (said_shr_laws (lies d) (λ _. tt))
      (shows_laws S W V.coded.code (g.holds s.key) g.out (content S W T (h.dealloc_token s.heap) s.id s.value) s.id (t d) (laws d) much k)) shared
      (λ M 𝓤 𝓛 d p. let s = see d in let l : Lft = (row (lending N cs own lent)).lives in
      Lends-both 𝓛 (lies d) (owner_owns (kept d) (t d) much k s.id) (said (lies d)) (owner_shares (kept d) (t d) much k s.id) l (Lends-said 𝓛 (lies d) (λ _. tt) l)
      (lends_owner S W V.coded.code (g.holds s.key) g.out (content S W T (h.dealloc_token s.heap) s.id s.value) s.id (t d) (laws d) 𝓛 much k l))
