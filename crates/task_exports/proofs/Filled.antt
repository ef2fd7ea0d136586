-- Room for a pointer is room for a hand, whose one field with bytes is a pointer.
use Rattle.task_exports.proofs.Walks.{ !, [], ◌∷◌, refl, full_share, ftrue, fat, froom, fleft, Ty, Sym, ty_ptr, ty_struct, tcons, tnil, Val, vstruct, vcons, vnil, ent, sep, Logic, Ura, ‵, ◌⊛◌, ◌$◌, ◌∵◌, qed, by, move, keep, use1, use2, split, split3, join, nothing, done, ℕ, Item, mean, Fml}

-- a value of no bytes
abbrev pub nil_val : Val
nil_val = vstruct vnil

-- the value of a hand, by that of its pointer
abbrev pub bits : Val → Val
bits v = vstruct (vcons (vstruct (vcons (vstruct (vcons v (vcons nil_val vnil))) vnil)) (vcons (vstruct (vcons (vstruct (vcons nil_val vnil)) vnil)) vnil))

module _ {M : Type 1} {𝓤 : Ura M} (𝓛 : Logic 𝓤) (ν₁ ν₂ ν₃ ν₄ ν₅ ν₆ ν₇ : Sym) (b : ℕ) where
  open 𝓛 use {H}

  abbrev marker : Sym → Ty
  marker ν = ty_struct ν tnil

  abbrev maybe : Ty
  maybe = ty_struct ν₃ (tcons ty_ptr (tcons (marker ν₄) tnil))

  abbrev share : Ty
  share = ty_struct ν₂ (tcons maybe tnil)

  abbrev seat : Ty
  seat = ty_struct ν₆ (tcons (marker ν₇) tnil)

  abbrev party : Ty
  party = ty_struct ν₅ (tcons seat tnil)

  abbrev pub hand : Ty
  hand = ty_struct ν₁ (tcons share (tcons party tnil))

  -- room for a value of no bytes has it
  marked : (ν : Sym) (o : ℕ) → ent 𝓤 (H.room (marker ν) b o) (H.at full_share (marker ν) b o nil_val)
  marked ν o =
      qed 𝓛 (‵ (froom (marker ν) b o) ∷ []) ∵
      use1 𝓛 (‵ ftrue ⊛ ‵ (fleft full_share (marker ν) tnil b o)) (𝓛.laws.room_apart ν tnil b o refl) $ split ! $
      move ! (1 ∷ 0 ∷ []) $ by ! (𝓛.laws.struct_back full_share ν tnil b o vnil)

  -- the values of a seat and of a party
  abbrev seated_val : Val
  seated_val = vstruct (vcons nil_val vnil)

  abbrev party_val : Val
  party_val = vstruct (vcons seated_val vnil)

  -- room for a party has it
  seated : ent 𝓤 (H.room party b 8) (H.at full_share party b 8 party_val)
  seated =
      qed 𝓛 (‵ (froom party b 8) ∷ []) ∵
      use1 𝓛 ((‵ (froom seat b 8) ⊛ ‵ ftrue) ⊛ ‵ (fleft full_share party (tcons seat tnil) b 8)) (𝓛.laws.room_apart ν₅ (tcons seat tnil) b 8 (refl, refl)) $ split ! $ split ! $
      use1 𝓛 ((‵ (froom (marker ν₇) b 8) ⊛ ‵ ftrue) ⊛ ‵ (fleft full_share seat (tcons (marker ν₇) tnil) b 8)) (𝓛.laws.room_apart ν₆ (tcons (marker ν₇) tnil) b 8 (refl, refl)) $ split ! $ split ! $
      use1 𝓛 (‵ (fat full_share (marker ν₇) b 8 nil_val)) (marked ν₇ 8) $
      -- [the marker; nothing; the seat's rest; nothing; the party's rest]
      join ! $ move ! (1 ∷ 0 ∷ []) $ use2 𝓛 (‵ (fat full_share seat b 8 seated_val)) (𝓛.laws.struct_back full_share ν₆ (tcons (marker ν₇) tnil) b 8 (vcons nil_val vnil)) $
      join ! $ move ! (1 ∷ 0 ∷ []) $ by ! (𝓛.laws.struct_back full_share ν₅ (tcons seat tnil) b 8 (vcons seated_val vnil))

  -- what a struct's room has beside that of its fields
  abbrev of_maybe : Fml
  of_maybe = fleft full_share maybe (tcons ty_ptr (tcons (marker ν₄) tnil)) b 0

  abbrev of_share : Fml
  of_share = fleft full_share share (tcons maybe tnil) b 0

  abbrev of_hand : Fml
  of_hand = fleft full_share hand (tcons share (tcons party tnil)) b 0

  -- what room for a hand has beside that for its pointer
  abbrev pub beside : Item 𝓤
  beside = ‵ (fat full_share (marker ν₄) b 8 nil_val) ⊛ ‵ of_maybe ⊛ ‵ of_share ⊛ ‵ (fat full_share party b 8 party_val) ⊛ ‵ of_hand

  -- room for a hand taken apart, and its value once the pointer was written
  pub apart : ent 𝓤 (H.room hand b 0) (mean 𝓛 (‵ (froom ty_ptr b 0) ⊛ beside))
  apart =
      qed 𝓛 (‵ (froom hand b 0) ∷ []) ∵
      use1 𝓛 ((‵ (froom share b 0) ⊛ ‵ (froom party b 8) ⊛ ‵ ftrue) ⊛ ‵ of_hand) (𝓛.laws.room_apart ν₁ (tcons share (tcons party tnil)) b 0 (refl, (refl, refl))) $ split ! $ split3 ! $
      use1 𝓛 ((‵ (froom maybe b 0) ⊛ ‵ ftrue) ⊛ ‵ of_share) (𝓛.laws.room_apart ν₂ (tcons maybe tnil) b 0 (refl, refl)) $ split ! $ split ! $
      use1 𝓛 ((‵ (froom ty_ptr b 0) ⊛ ‵ (froom (marker ν₄) b 8) ⊛ ‵ ftrue) ⊛ ‵ of_maybe) (𝓛.laws.room_apart ν₃ (tcons ty_ptr (tcons (marker ν₄) tnil)) b 0 (refl, (refl, refl))) $ split ! $ split3 ! $
      -- [the pointer; the marker; nothing; the maybe's rest; nothing; the share's rest; the party; nothing; the hand's rest]
      move ! (6 ∷ []) $ use1 𝓛 (‵ (fat full_share party b 8 party_val)) seated $ move ! (2 ∷ []) $ use1 𝓛 (‵ (fat full_share (marker ν₄) b 8 nil_val)) (marked ν₄ 8) $
      keep ! (2 ∷ 0 ∷ 4 ∷ 6 ∷ 1 ∷ 8 ∷ []) $ done !

  pub back : (v : Val) → ent 𝓤 (sep 𝓤 (mean 𝓛 beside) (H.at full_share ty_ptr b 0 v)) (H.at full_share hand b 0 (bits v))
  back v =
      qed 𝓛 (beside ∷ ‵ (fat full_share ty_ptr b 0 v) ∷ []) ∵ split3 ! $ move ! (2 ∷ []) $ split3 ! $
      -- [the share's rest; the party; the hand's rest; the marker; the maybe's rest; the pointer]
      nothing ! $ move ! (4 ∷ 0 ∷ []) $ join ! $ move ! (5 ∷ 0 ∷ []) $ join ! $ move ! (4 ∷ 0 ∷ []) $
      use2 𝓛 (‵ (fat full_share maybe b 0 (vstruct (vcons v (vcons nil_val vnil))))) (𝓛.laws.struct_back full_share ν₃ (tcons ty_ptr (tcons (marker ν₄) tnil)) b 0 (vcons v (vcons nil_val vnil))) $
      nothing ! $ move ! (1 ∷ 0 ∷ []) $ join ! $ move ! (1 ∷ 0 ∷ []) $
      use2 𝓛 (‵ (fat full_share share b 0 (vstruct (vcons (vstruct (vcons v (vcons nil_val vnil))) vnil)))) (𝓛.laws.struct_back full_share ν₂ (tcons maybe tnil) b 0 (vcons (vstruct (vcons v (vcons nil_val vnil))) vnil)) $
      nothing ! $ move ! (2 ∷ 0 ∷ []) $ join ! $ move ! (1 ∷ 0 ∷ []) $ join ! $ move ! (1 ∷ 0 ∷ []) $
      by ! (𝓛.laws.struct_back full_share ν₁ (tcons share (tcons party tnil)) b 0 (vcons (vstruct (vcons (vstruct (vcons v (vcons nil_val vnil))) vnil)) (vcons party_val vnil)))

  -- what lies there as a hand is taken apart again
  pub front : (v : Val) → ent 𝓤 (H.at full_share hand b 0 (bits v)) (mean 𝓛 (‵ (fat full_share ty_ptr b 0 v) ⊛ beside))
  front v =
      qed 𝓛 (‵ (fat full_share hand b 0 (bits v)) ∷ []) ∵
      use1 𝓛 ((‵ (fat full_share share b 0 (vstruct (vcons (vstruct (vcons v (vcons nil_val vnil))) vnil))) ⊛ ‵ (fat full_share party b 8 party_val) ⊛ ‵ ftrue) ⊛ ‵ of_hand)
      (𝓛.laws.struct_apart full_share ν₁ (tcons share (tcons party tnil)) b 0 (vcons (vstruct (vcons (vstruct (vcons v (vcons nil_val vnil))) vnil)) (vcons party_val vnil))) $ split ! $ split3 ! $
      use1 𝓛 ((‵ (fat full_share maybe b 0 (vstruct (vcons v (vcons nil_val vnil)))) ⊛ ‵ ftrue) ⊛ ‵ of_share) (𝓛.laws.struct_apart full_share ν₂ (tcons maybe tnil) b 0 (vcons (vstruct (vcons v (vcons nil_val vnil))) vnil)) $ split ! $ split ! $
      use1 𝓛 ((‵ (fat full_share ty_ptr b 0 v) ⊛ ‵ (fat full_share (marker ν₄) b 8 nil_val) ⊛ ‵ ftrue) ⊛ ‵ of_maybe) (𝓛.laws.struct_apart full_share ν₃ (tcons ty_ptr (tcons (marker ν₄) tnil)) b 0 (vcons v (vcons nil_val vnil))) $ split ! $ split3 ! $
      -- [the pointer; the marker; nothing; the maybe's rest; nothing; the share's rest; the party; nothing; the hand's rest]
      keep ! (0 ∷ 1 ∷ 3 ∷ 5 ∷ 6 ∷ 8 ∷ []) $ done !
