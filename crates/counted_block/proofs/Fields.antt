-- The machine values of the structs: a pointer and a marker, or a marker alone. Assumes `Logic`.
use Rattle.std.proofs.Common.{◌<◌, ◌^◌, w64, ◌≡◌, ℕ, T, List, [], ◌∷◌, ◌++◌, refl, ap, ◌∙◌, sym, subst}
use seplogic.Ra.Ura.{Ura}
use mir.Syntax.{Sym, ty_ptr, ty_struct, tcons, tnil}
use mir.Val.{Val, vint, vstruct, vcons, vnil, of_list, has_ty, WT}
use base.Logic.{ent, sep, emp, id⊢}
use base.Fml.{Lft, Fml, Share, ftrue, feq, fex, fsep, fhide, flft}
use base.Stored.{Coded}
use types.Logic.{Logic, sem}
use types.Kit.{‵, ◌⊛◌, ◌$◌, Goal, Item, Soaks, Seq, Step, step, move, drop, split, fsplit, fjoin, fjoin3, fpick, fpack, feq_i, flt_i, rewrite, use0, use1}
use denote.Exit.{hidden, under}
use denote.Builtin.{u64}
use denote.RattleType.{RattleType, Valss, owns}
use denote.Sharing.{beside}
use denote.Laws.{Is, shows}
use denote.Opens.{Opens, Shut, unhide}
use denote.Steps.{nothing, looks, peeks, shuts}
use denote.Copied.{Struct-Copied}
use denote.Memory.{cell_at, hidden_shr, part_at}
use denote.RawPtr.{RawPtr, Ptr, InBlock, block_ptr, null_ptr, ptr_val}
use denote.Shadow.{makes_shadow}
use denote.Struct.Laws.{RawPtr-copy, field_copy}
use denote.Struct.Struct.{Shape, Struct}
use denote.Struct.Owning.{Owning, shape}
use denote.Struct.Tuple.{Tuple}
use Rattle.std.specs.contracts.marker.PhantomData as phantom
use Rattle.std.specs.declared.alloc.Allocator as Alloc
use Rattle.counted_block.specs.declared.rule.BlockRule.{Ghosts}
use Rattle.counted_block.specs.declared.share.Share as declared
use Rattle.counted_block.specs.Blocks.{BlockId, place, is_one, is_all, of_holds, of_shares, of_last, owner_shares}
use Rattle.counted_block.specs.Held.{kept_of, looked_at, owner_of, owner_shown}
use Rattle.counted_block.specs.contracts.share.Share as share
use Rattle.counted_block.specs.contracts.hold.Hold as hold
use Rattle.counted_block.specs.contracts.last.LastShare as last
use Rattle.counted_block.specs.contracts.seat.Ledger as ledger

abbrev pub nil_val : Val
nil_val = vstruct vnil

abbrev pub ptr_and_marker : Ptr → Val
ptr_and_marker p = vstruct (vcons (ptr_val p) (vcons nil_val vnil))

abbrev pub marker_val : Val
marker_val = vstruct (vcons nil_val vnil)

pub in_place : (p : Ptr) (z : BlockId) → p ≡ place z → InBlock p
in_place p z at = subst InBlock (sym at) tt

pub ptr_typed : (p : Ptr) → InBlock p → T (has_ty ty_ptr (ptr_val p)) × WT (ptr_val p)
ptr_typed (block_ptr b o) i = (tt, tt)
ptr_typed null_ptr i = absurd i

pub pair_typed : (p : Ptr) → InBlock p → T (has_ty (ty_struct [] (tcons ty_ptr (tcons (ty_struct [] tnil) tnil))) (ptr_and_marker p)) × WT (ptr_and_marker p)
pair_typed (block_ptr b o) i = (tt, (tt, (tt, tt)))
pair_typed null_ptr i = absurd i

-- what a pointer and a marker make, and a marker alone, in whatever struct
abbrev pub PairData : RattleType
PairData = Struct record { name = []; args = []; types = []; fields = RawPtr ∷ (phantom.the_field (Tuple [])).row ∷ [] }

abbrev pub MarkerData : RattleType
MarkerData = Struct record { name = []; args = []; types = []; fields = (phantom.the_field (Tuple [])).row ∷ [] }

pub pair_told : (p : Ptr) (vs : List Val) → Is PairData (p, (tt, tt)) vs → vs ≡ ptr_and_marker p ∷ []
pair_told p vs is = is.1.0 ∙ ap (λ (ws : List Val). vstruct (of_list (ws ++ (is.0.1.0 ++ []))) ∷ []) is.1.1.0
    ∙ ap (λ (ws : List Val). vstruct (of_list (ptr_val p ∷ (ws ++ []))) ∷ []) is.1.1.1.0.1.0

module _ {M : Type 1} {𝓤 : Ura M} (𝓛 : Logic 𝓤) where
  pub pair_made : (p : Ptr) → ent 𝓤 (emp 𝓤) (sem 𝓛 (PairData.own_val (p, (tt, tt)) (ptr_and_marker p ∷ [])))
  pair_made p = makes_shadow 𝓛 (PairData.own_val (p, (tt, tt)) (ptr_and_marker p ∷ [])) (λ vss. (tt, (tt, ((λ uss. (tt, tt)), tt))))
      ((ptr_val p ∷ [], (nil_val ∷ [], tt)), (refl, (refl, ((tt, (refl, tt)), tt))))

  pub marker_made : ent 𝓤 (emp 𝓤) (sem 𝓛 (MarkerData.own_val (tt, tt) (marker_val ∷ [])))
  marker_made = makes_shadow 𝓛 (MarkerData.own_val (tt, tt) (marker_val ∷ [])) (λ vss. (tt, ((λ uss. (tt, tt)), tt))) ((nil_val ∷ [], tt), (refl, ((tt, (refl, tt)), tt)))

module _ {M : Type 1} {𝓤 : Ura M} {𝓛 : Logic 𝓤} {C : Type 0} {Γ : List (Item 𝓤)} {G : Goal 𝓤 𝓛.H} where
  -- what an owner has lies at its block, and its pointer and marker come to it
  pub located : C → (p : Ptr) (z : BlockId) → p ≡ place z → {F : Fml}
      → Step C 𝓛 (‵ (fsep (PairData.own_val (p, (tt, tt)) (ptr_and_marker p ∷ [])) (fsep (fex (p ≡ place z) (λ _. ftrue)) F)) ∷ Γ) G (‵ F ∷ Γ) G
  located t p z at = step (λ s. nothing t $ fpack t (p ≡ place z) (λ _. ftrue) at $ fjoin t $ use0 𝓛 (‵ (PairData.own_val (p, (tt, tt)) (ptr_and_marker p ∷ []))) (pair_made 𝓛 p) $
      fjoin t $ s)

  -- a number that was found, beside what a step left
  pub numbered : C → (X : RattleType) (x : X.Denot) (v : Val) (n : ℕ) → n < 2 ^ 64 → let u : Val = vstruct (vcons (vint w64 n) (vcons v vnil)) in Step C 𝓛
      (‵ (fex (Valss (u64 ∷ X ∷ [])) (λ uss. fsep (feq (List Val) (u ∷ []) (vstruct (of_list (uss.0 ++ (uss.1.0 ++ []))) ∷ [])) (owns (u64 ∷ X ∷ []) (n, (x, tt)) uss))) ∷ Γ) G
      (‵ (X.own_val x (v ∷ [])) ∷ Γ) G
  numbered t X x v n fits = let u : Val = vstruct (vcons (vint w64 n) (vcons v vnil)) in step (λ s. nothing t $ flt_i t n (2 ^ 64) fits $
      feq_i t (List Val) (vint w64 n ∷ []) (vint w64 n ∷ []) refl $ fjoin t $ move t (0 ∷ 2 ∷ 1 ∷ []) $ fjoin3 t $ feq_i t (List Val) (u ∷ []) (u ∷ []) refl $ fjoin t $
      fpack t (Valss (u64 ∷ X ∷ [])) (λ uss. fsep (feq (List Val) (u ∷ []) (vstruct (of_list (uss.0 ++ (uss.1.0 ++ []))) ∷ [])) (owns (u64 ∷ X ∷ []) (n, (x, tt)) uss))
      (vint w64 n ∷ [], (v ∷ [], tt)) $ s)

-- what a share, a hold and the last share differ in: the name, the values, each with what a share has of it, and the grip
pub record Kind (S W V K Y T' A : RattleType) : Type 1 where
  pub name : Sym
  pub D : Type 0
  pub see : D → declared.Share S.Denot W.Denot V.Denot K.Denot Y.Denot T'.Denot A.Denot
  pub coded : Coded D
  pub much : Share → Type 0
  pub grip : ℕ

module _ (S W V K Y T' A : RattleType) (g : Ghosts Y.Denot S.Denot W.Denot V.Denot K.Denot) (h : Alloc.Ghosts A.Denot) where
  abbrev kind_of : (τ : Owning) → (τ.D → declared.Share S.Denot W.Denot V.Denot K.Denot Y.Denot T'.Denot A.Denot) → (Share → Type 0) → ℕ → Kind S W V K Y T' A
  kind_of τ see much grip = record { name = τ.name; D = τ.D; see = see; coded = τ.coded; much = much; grip = grip }

  abbrev pub share_kind : Kind S W V K Y T' A
  share_kind = kind_of (share.the_type S W V K Y T' A g h) (λ d. d) is_one of_shares

  abbrev pub hold_kind : Kind S W V K Y T' A
  hold_kind = kind_of (hold.the_type S W V K Y T' A g h)
      (λ d. record { at = d.at; marker = d.marker; id = d.id; key = d.key; value = d.value; heap = d.heap }) is_one of_holds

  abbrev pub last_kind : Kind S W V K Y T' A
  last_kind = kind_of (last.the_type S W V K Y T' A g h)
      (λ d. record { at = d.at; marker = d.marker; id = d.id; key = d.key; value = d.value; heap = d.heap }) is_all of_last

  abbrev pub LedgerData : RattleType
  LedgerData = Struct (shape (ledger.the_type S W V K Y T' A g h))

  module _ (kind : Kind S W V K Y T' A) where
    abbrev data_shape : Shape
    data_shape = record { name = kind.name; args = []; types = S ∷ W ∷ V ∷ K ∷ Y ∷ T' ∷ A ∷ []; fields = RawPtr ∷ (phantom.the_field (Tuple (V ∷ K ∷ Y ∷ A ∷ []))).row ∷ [] }

    abbrev pub Data : RattleType
    Data = Struct data_shape

    -- what a `&` to an owner of this kind shows
    abbrev pub shown : kind.D → Lft → Fml
    shown d = let s = kind.see d in owner_shown S W T' V.coded.code (g.holds s.key) g.out (h.dealloc_token s.heap) s.id s.value s.at kind.much kind.grip

    -- its type
    abbrev pub owner_row : RattleType
    owner_row = record {
      Denot = kind.D;
      mir = Data.mir;
      written = Data.written;
      reaches = Data.reaches;
      lives = Data.lives;
      own_val = λ d vs. let s = kind.see d in fsep (Data.own_val (s.at, (tt, tt)) vs)
          (owner_of S W T' V.coded.code (g.holds s.key) g.out (h.dealloc_token s.heap) s.id s.value s.at kind.much kind.grip);
      exit = λ k. hidden (under (λ d. ((kind.see d).at, (tt, tt))) (Data.exit k));
      coded = kind.coded;
      shr_at = λ d b o. beside (Data.shr_at ((kind.see d).at, (tt, tt)) b o) (shown d);
    }

    owner_opens : {M : Type 1} {𝓤 : Ura M} (𝓛 : Logic 𝓤) → Opens 𝓛 Data
    owner_opens {M} {𝓤} 𝓛 = (Struct-Copied 𝓛 data_shape (refl, (refl, tt))
        (RawPtr-copy.copied M 𝓤 𝓛, ((field_copy (phantom.the_type (Tuple (V ∷ K ∷ Y ∷ A ∷ []))) tt).copied M 𝓤 𝓛, tt))).opens

    module _ {M : Type 1} {𝓤 : Ura M} {𝓛 : Logic 𝓤} {C : Type 0} {Γ : List (Item 𝓤)} {G : Goal 𝓤 𝓛.H} where
      -- what a `&` to an owner has: its fields, and what it shows
      pub lent_self : C → {κ : Lft} (d : kind.D) (b o : ℕ) → let s = kind.see d in Step C 𝓛 (‵ (owner_shares (kept_of S W T' V.coded.code (g.holds s.key) g.out
          (h.dealloc_token s.heap) s.id s.value) (looked_at S W T' (h.dealloc_token s.heap) s.id s.value) kind.much kind.grip s.id κ) ∷ ‵ (hidden_shr Data κ (place s.id, (tt, tt)) b o) ∷ Γ) G
          (‵ (hidden_shr owner_row κ d b o) ∷ Γ) G
      lent_self t {κ} d b o = let p : Ptr = (kind.see d).at in step (λ s. use1 𝓛 (‵ (hidden_shr Data κ (p, (tt, tt)) b o) ⊛ ‵ (fhide (shown d κ))) (id⊢ 𝓤 _) $ split t $
          move t (1 ∷ []) $
          unhide t $ fsplit t $ fpick t (λ at. drop t $ rewrite t 1 (λ (r : Ptr). ‵ (hidden_shr Data κ (r, (tt, tt)) b o)) at refl $ s))

      -- the fields of one that lies at r are read, and closed again
      pub opens_self : C → Soaks G → {κ : Lft} {q : Share} (r : Ptr) (b o : ℕ) → ((q' : Share) → Seq C 𝓛 (‵ (cell_at q' Data.mir (ptr_and_marker r ∷ []) b o) ∷
          ‵ (Data.own_val (r, (tt, tt)) (ptr_and_marker r ∷ [])) ∷ Shut 𝓛 κ q (part_at Data q' (r, (tt, tt)) b o) ∷ ‵ (hidden_shr Data κ (r, (tt, tt)) b o) ∷ Γ) G)
          → Seq C 𝓛 (‵ (hidden_shr Data κ (r, (tt, tt)) b o) ∷ ‵ (flft κ q) ∷ Γ) G
      opens_self t z {κ} {q} r b o k = looks t z Data (owner_opens 𝓛) (r, (tt, tt)) b o (λ q' vs. move t (1 ∷ []) $ peeks t Data (Is Data) (shows 𝓛 Data) (r, (tt, tt)) vs (λ is.
          let e = pair_told r vs is in rewrite t 0 (λ (ws : List Val). ‵ (Data.own_val (r, (tt, tt)) ws)) e refl $ rewrite t 1 (λ (ws : List Val). ‵ (cell_at q' Data.mir ws b o)) e refl $
          move t (1 ∷ 0 ∷ []) $ k q'))

      abbrev pub closes_self : C → Soaks G → {κ : Lft} {q : Share} (q' : Share) (r : Ptr) (b o : ℕ) → Step C 𝓛 (‵ (flft κ q) ∷
          Γ) G (‵ (cell_at q' Data.mir (ptr_and_marker r ∷ []) b o) ∷
          ‵ (Data.own_val (r, (tt, tt)) (ptr_and_marker r ∷ [])) ∷ Shut 𝓛 κ q (part_at Data q' (r, (tt, tt)) b o) ∷ Γ) G
      closes_self t z q' r b o = shuts t z Data q' (r, (tt, tt)) (ptr_and_marker r ∷ []) b o

  module _ {M : Type 1} {𝓤 : Ura M} (𝓛 : Logic 𝓤) where
    pub ledger_lent : (κ : Lft) (s : (ledger.the_row S W V K Y T' A g h).Denot) (b o : ℕ) → ent 𝓤 (sem 𝓛 (hidden_shr (ledger.the_row S W V K Y T' A g h) κ s b o))
        (sep 𝓤 (sem 𝓛 (hidden_shr LedgerData κ (tt, tt) b o)) (sem 𝓛 (fhide (kept_of S W T' V.coded.code (g.holds s.key) g.out (h.dealloc_token s.heap) s.id s.value))))
    ledger_lent κ s b o = id⊢ 𝓤 _
