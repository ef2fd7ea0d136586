-- Room for a pointer is room for a share, whose one field with bytes is a pointer. What lies there is lent as a `&` to a share that its owner lends.
use Rattle.task_exports.proofs.Walks.{ !, List, [], ◌∷◌, refl, full_share, ftrue, fat, froom, fleft, Fml, Ty, ty_ptr, ty_struct, tcons, tnil, Val, vstruct, vcons, vnil, ent, sep, Logic, Ura, ‵, ◌⊛◌, ◌$◌, ◌∵◌, qed, by, move, keep, use1, use2, split, split3, join, nothing, done, ℕ, Item, mean, fjoin, feq_i, fpack, Ptr, ptr_val, cell_at}
use Rattle.task_exports.proofs.Filled.{nil_val}
use base.Fml.{Lft, Share, fsep, fex, feq, flent, fdead, fshr_bor}
use types.Kit.{Goal, Soaks, Step, step, await, later, now, updating, use3}
use types.Logic.{sem}
use types.Tokens.{bor_new, bor_fracture, lent_back}

-- the value of a share, by that of its pointer
abbrev pub share_val : Val → Val
share_val v = vstruct (vcons (vstruct (vcons (vstruct (vcons v (vcons nil_val vnil))) vnil)) vnil)

-- the types of a share, of its block's part and of its marker, without their names
abbrev marker : Ty
marker = ty_struct [] tnil

abbrev block : Ty
block = ty_struct [] (tcons ty_ptr (tcons marker tnil))

abbrev share : Ty
share = ty_struct [] (tcons block tnil)

abbrev pub lent : Ty
lent = ty_struct [] (tcons share tnil)

module _ {M : Type 1} {𝓤 : Ura M} (𝓛 : Logic 𝓤) (b : ℕ) where
  open 𝓛 use {H}

  -- what each struct has beside its fields
  abbrev of_marker : Share → Fml
  of_marker q = fleft q marker tnil b 8

  abbrev of_block : Share → Fml
  of_block q = fleft q block (tcons ty_ptr (tcons marker tnil)) b 0

  abbrev of_share : Share → Fml
  of_share q = fleft q share (tcons block tnil) b 0

  abbrev of_lent : Share → Fml
  of_lent q = fleft q lent (tcons share tnil) b 0

  -- what room for a share has beside that for its pointer
  abbrev pub beside : Item 𝓤
  beside = ‵ (of_marker full_share) ⊛ ‵ (of_block full_share) ⊛ ‵ (of_share full_share) ⊛ ‵ (of_lent full_share)

  -- room for a share taken apart
  pub apart : ent 𝓤 (H.room lent b 0) (mean 𝓛 (‵ (froom ty_ptr b 0) ⊛ beside))
  apart =
      qed 𝓛 (‵ (froom lent b 0) ∷ []) ∵
      use1 𝓛 ((‵ (froom share b 0) ⊛ ‵ ftrue) ⊛ ‵ (of_lent full_share)) (𝓛.laws.room_apart [] (tcons share tnil) b 0 (refl, refl)) $ split ! $ split ! $
      use1 𝓛 ((‵ (froom block b 0) ⊛ ‵ ftrue) ⊛ ‵ (of_share full_share)) (𝓛.laws.room_apart [] (tcons block tnil) b 0 (refl, refl)) $ split ! $ split ! $
      use1 𝓛 ((‵ (froom ty_ptr b 0) ⊛ ‵ (froom marker b 8) ⊛ ‵ ftrue) ⊛ ‵ (of_block full_share)) (𝓛.laws.room_apart [] (tcons ty_ptr (tcons marker tnil)) b 0 (refl, (refl, refl))) $ split ! $ split3 ! $
      -- [the pointer; the marker; nothing; the block's rest; nothing; the share's rest; nothing; the rest]
      move ! (1 ∷ []) $ use1 𝓛 (‵ ftrue ⊛ ‵ (of_marker full_share)) (𝓛.laws.room_apart [] tnil b 8 refl) $ split ! $
      keep ! (2 ∷ 1 ∷ 4 ∷ 6 ∷ 8 ∷ []) $ done !

  -- the same parts put together, where the pointer was written
  pub whole : (v : Val) → ent 𝓤 (sep 𝓤 (mean 𝓛 beside) (H.at full_share ty_ptr b 0 v)) (H.room lent b 0)
  whole v =
      qed 𝓛 (beside ∷ ‵ (fat full_share ty_ptr b 0 v) ∷ []) ∵ split3 ! $ move ! (2 ∷ []) $ split ! $
      -- [the share's rest; the rest; the marker's; the block's; the pointer]
      move ! (2 ∷ []) $ nothing ! $ move ! (1 ∷ 0 ∷ []) $ use2 𝓛 (‵ (fat full_share marker b 8 nil_val)) (𝓛.laws.struct_back full_share [] tnil b 8 vnil) $
      -- [the marker; the share's rest; the rest; the block's; the pointer]
      nothing ! $ move ! (1 ∷ 0 ∷ []) $ join ! $ move ! (4 ∷ 0 ∷ []) $ join ! $ move ! (3 ∷ 0 ∷ []) $
      use2 𝓛 (‵ (fat full_share block b 0 (vstruct (vcons v (vcons nil_val vnil))))) (𝓛.laws.struct_back full_share [] (tcons ty_ptr (tcons marker tnil)) b 0 (vcons v (vcons nil_val vnil))) $
      nothing ! $ move ! (1 ∷ 0 ∷ []) $ join ! $ move ! (1 ∷ 0 ∷ []) $
      use2 𝓛 (‵ (fat full_share share b 0 (vstruct (vcons (vstruct (vcons v (vcons nil_val vnil))) vnil)))) (𝓛.laws.struct_back full_share [] (tcons block tnil) b 0 (vcons (vstruct (vcons v (vcons nil_val vnil))) vnil)) $
      nothing ! $ move ! (1 ∷ 0 ∷ []) $ join ! $ move ! (1 ∷ 0 ∷ []) $
      use2 𝓛 (‵ (fat full_share lent b 0 (share_val v))) (𝓛.laws.struct_back full_share [] (tcons share tnil) b 0 (vcons (vstruct (vcons (vstruct (vcons v (vcons nil_val vnil))) vnil)) vnil)) $
      by ! (𝓛.laws.at_room lent b 0 (share_val v))

  module _ (κ : Lft) (p : Ptr) where
    abbrev cell : Share → Fml
    cell q = fat q ty_ptr b 0 (ptr_val p)

    abbrev shown_ptr : List Val → Fml
    shown_ptr vs = fsep (feq (List Val) vs (ptr_val p ∷ [])) (fshr_bor κ (λ q. cell_at q (ty_ptr ∷ []) vs b 0))

    abbrev shown_data : Fml
    shown_data = fsep (fsep (fex (List Val) shown_ptr) (fsep (fsep ftrue (fshr_bor κ of_marker)) ftrue)) (fshr_bor κ of_block)

    -- what a `&` to the share at this place has, where S is what it has of the cell
    abbrev pub shown : Fml → Fml
    shown S = fsep (fsep (fsep (fsep (fsep shown_data S) ftrue) (fshr_bor κ of_share)) ftrue) (fshr_bor κ of_lent)

    -- the right to have the place again
    abbrev pub owed : Item 𝓤
    owed = ‵ (flent κ (cell full_share)) ⊛ ‵ (flent κ (of_marker full_share)) ⊛ ‵ (flent κ (of_block full_share)) ⊛ ‵ (flent κ (of_share full_share)) ⊛ ‵ (flent κ (of_lent full_share))

    -- the place is lent
    lends : (S : Fml) → ent 𝓤 (sep 𝓤 (sem 𝓛 S) (sep 𝓤 (H.at full_share ty_ptr b 0 (ptr_val p)) (mean 𝓛 beside))) (H.⇛ (sep 𝓤 (sem 𝓛 (shown S)) (mean 𝓛 owed)))
    lends S = qed 𝓛 (‵ S ∷ ‵ (cell full_share) ∷ beside ∷ []) {P = H.⇛ (sep 𝓤 (sem 𝓛 (shown S)) (mean 𝓛 owed))} (updating ! $
        move ! (1 ∷ []) $ bor_new ! tt κ $ bor_fracture ! tt (λ q. cell_at q (ty_ptr ∷ []) (ptr_val p ∷ []) b 0) full_share $
        feq_i ! (List Val) (ptr_val p ∷ []) (ptr_val p ∷ []) refl $ fjoin ! $ fpack ! (List Val) shown_ptr (ptr_val p ∷ []) $
        -- [the pointer; its right; S; the rest]
        move ! (3 ∷ []) $ split3 ! $ bor_new ! tt κ $ bor_fracture ! tt of_marker full_share $ nothing ! $ fjoin ! $ nothing ! $ move ! (1 ∷ 0 ∷ []) $ fjoin ! $
        move ! (4 ∷ 0 ∷ []) $ fjoin ! $
        -- [the fields; the marker's right; the block's rest; the two others; the pointer's right; S]
        move ! (2 ∷ []) $ bor_new ! tt κ $ bor_fracture ! tt of_block full_share $ move ! (2 ∷ 0 ∷ []) $ fjoin ! $
        -- [the data; the block's right; the marker's; the two others; the pointer's; S]
        move ! (0 ∷ 5 ∷ []) $ fjoin ! $ nothing ! $ move ! (1 ∷ 0 ∷ []) $ fjoin ! $ move ! (3 ∷ []) $ split ! $
        bor_new ! tt κ $ bor_fracture ! tt of_share full_share $ move ! (3 ∷ 0 ∷ []) $ fjoin ! $ nothing ! $ move ! (1 ∷ 0 ∷ []) $ fjoin ! $
        move ! (2 ∷ []) $ bor_new ! tt κ $ bor_fracture ! tt of_lent full_share $ move ! (2 ∷ 0 ∷ []) $ fjoin ! $
        keep ! (0 ∷ 5 ∷ 4 ∷ 3 ∷ 2 ∷ 1 ∷ []) $ now ! $ done !)

    -- what was lent comes back
    pub comes_back : ent 𝓤 (sep 𝓤 (sem 𝓛 (fdead κ)) (mean 𝓛 owed)) (H.⇛ (sep 𝓤 (H.at full_share ty_ptr b 0 (ptr_val p)) (mean 𝓛 beside)))
    comes_back = qed 𝓛 (‵ (fdead κ) ∷ owed ∷ []) {P = H.⇛ (sep 𝓤 (H.at full_share ty_ptr b 0 (ptr_val p)) (mean 𝓛 beside))} (updating ! $
        use1 𝓛 (‵ (fdead κ) ⊛ ‵ (fdead κ)) (𝓛.lfts.dead_dup κ) $ split ! $ use1 𝓛 (‵ (fdead κ) ⊛ ‵ (fdead κ)) (𝓛.lfts.dead_dup κ) $ split ! $
        use1 𝓛 (‵ (fdead κ) ⊛ ‵ (fdead κ)) (𝓛.lfts.dead_dup κ) $ split ! $ use1 𝓛 (‵ (fdead κ) ⊛ ‵ (fdead κ)) (𝓛.lfts.dead_dup κ) $ split ! $
        move ! (5 ∷ []) $ split3 ! $ move ! (2 ∷ []) $ split3 ! $
        -- [the rights to the block's rest, the share's and the last; to the pointer and the marker's; five times that the lifetime is dead]
        move ! (5 ∷ 3 ∷ []) $ lent_back ! tt $ move ! (5 ∷ 4 ∷ []) $ lent_back ! tt $ move ! (5 ∷ 2 ∷ []) $ lent_back ! tt $
        move ! (5 ∷ 3 ∷ []) $ lent_back ! tt $ move ! (5 ∷ 4 ∷ []) $ lent_back ! tt $
        keep ! (4 ∷ 3 ∷ 2 ∷ 1 ∷ 0 ∷ []) $ now ! $ done !)

-- the same as a step of a walk
module _ {M : Type 1} {𝓤 : Ura M} {𝓛 : Logic 𝓤} {K : Type 0} {Γ : List (Item 𝓤)} {G : Goal 𝓤 𝓛.H} where
  pub lends_here : K → Soaks G → (b : ℕ) (κ : Lft) (p : Ptr) → {S : Fml} → Step K 𝓛 (‵ (shown 𝓛 b κ p S) ∷ owed 𝓛 b κ p ∷ Γ) G (‵ S ∷ ‵ (fat full_share ty_ptr b 0 (ptr_val p)) ∷ beside 𝓛 b ∷ Γ) G
  lends_here t a b κ p {S} = step (λ s. use3 𝓛 (later (‵ (shown 𝓛 b κ p S) ⊛ owed 𝓛 b κ p)) (lends 𝓛 b κ p S) $ await t a $ split t $ s)
