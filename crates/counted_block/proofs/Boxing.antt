-- A box of an `Inner` is its words, its slots, its value, and the way back to the box. Assumes `Logic`.
use Rattle.std.proofs.Common.{ℕ, ◌+◌, List, [], ◌∷◌, w64}
use seplogic.Ra.Ura.{Ura}
use mir.Syntax.{Ty, ty_int}
use base.Fraction.{full_share}
use base.Logic.{SProp, wand, all, all_e, all_i, via, apply∗, mono_r}
use base.Fml.{Fml, fsep}
use types.Logic.{Logic}
use types.Kit.{‵, raw, ◌⊛◌, ◌$◌, ◌∵◌, !, qed, move, drop, use1, use2, split, frame, fsplit, fsplit3, fjoin, fjoin3, each, assume, done}
use denote.RattleType.{RattleType, Denots}
use denote.RawPtr.{Ptr}
use denote.Memory.{part_at, part_of}
use denote.Builtin.{u64}
use denote.Param.{param, layout}
use denote.Param.Laws.{Laws, param_laws}
use denote.Plain.{uint_in, uint_out}
use denote.Steps.{nothing}
use denote.Struct.Laws.{u64-laws}
use denote.Struct.Struct.{Struct}
use denote.Struct.Members.{Member, rows_of, parts_at}
use denote.Struct.Parts.{shape_of, PartsBack, Struct-parts}
use Rattle.std.specs.Box.Ownership.{box_owns}
use Rattle.atomic_table.specs.Seated.{word}
use Rattle.counted_block.specs.Blocks.{BlockId, place, words_in}
use Rattle.counted_block.specs.Held.{value_there, slots_there, boxed, content}
use Rattle.counted_block.specs.contracts.inner.Inner as inner
use Rattle.counted_block.proofs.Signs.{Signs, signs}

module _ (i l j : ℕ) (S W T : RattleType) (LS : Laws S) (LW : Laws W) (LT : Laws T) {M : Type 1} {𝓤 : Ura M} (𝓛 : Logic 𝓤) (z : BlockId) (x : T.Denot) where
  abbrev Pr : Type 2
  Pr = SProp 𝓤

  abbrev 𝓝 : Signs 𝓛
  𝓝 = signs 𝓛

  open 𝓝 use {⟦◌⟧, ◌⊢◌, ◌∗◌}

  abbrev R : RattleType
  R = param i S

  abbrev Q : RattleType
  Q = param l W

  abbrev V : RattleType
  V = param j T

  abbrev number : Member
  number = record { row = u64; ty = ty_int w64 }

  abbrev ks : List Member
  ks = number ∷ number ∷ record { row = R; ty = layout S } ∷ record { row = Q; ty = layout W } ∷ record { row = V; ty = layout T } ∷ []

  abbrev Row : RattleType
  Row = inner.the_row R Q V

  abbrev Model : Type 0
  Model = (ℕ × ℕ) × (S.Denot × W.Denot)

  abbrev whole : Model → Row.Denot
  whole m = record { word = m.0.0; holds = m.0.1; first = m.1.0; second = m.1.1; value = x }

  abbrev b : ℕ
  b = z.block

  abbrev o : ℕ
  o = z.offset

  abbrev Parts : Model → Fml
  Parts m = parts_at full_share ks 0 (m.0.0, (m.0.1, (m.1.0, (m.1.1, (x, tt))))) b o

  abbrev Back : Model → Pr
  Back m = wand 𝓤 ⟦ Parts m ⟧ ⟦ part_at Row full_share (whole m) b o ⟧

  apart : (m : Model) → ⟦ part_at Row full_share (whole m) b o ⟧ ⊢ ⟦ Parts m ⟧ ∗ all 𝓤 Back
  unfolding part_of
  apart m = via 𝓤 (⟦ Parts m ⟧ ∗ PartsBack 𝓛 full_share (inner.struct R Q V).name ks b o)
      (Struct-parts 𝓛 full_share (inner.struct R Q V).name ks
      (u64-laws.lawful 𝓛, (u64-laws.lawful 𝓛, ((param_laws i S LS).lawful 𝓛, ((param_laws l W LW).lawful 𝓛, ((param_laws j T LT).lawful 𝓛, tt)))))
      (m.0.0, (m.0.1, (m.1.0, (m.1.1, (x, tt))))) b o) (mono_r 𝓤 ⟦ Parts m ⟧ (all_i 𝓤 Back (λ n. all_e 𝓤 (λ (a : Denots (rows_of ks)). wand 𝓤 ⟦ parts_at full_share ks 0 a b o ⟧
      ⟦ part_at (Struct (shape_of (inner.struct R Q V).name ks)) full_share a b o ⟧) (n.0.0, (n.0.1, (n.1.0, (n.1.1, (x, tt))))))))

  pub unboxes : (t : Ty → Ptr → Fml) (m : Model) → ⟦ box_owns t Row (place z) (whole m) ⟧ ⊢ ⟦ words_in z m.0.0 m.0.1 ⟧ ∗ ⟦ slots_there R Q V t z x m.1 ⟧ ∗ ⟦ content R Q V t z
      x ⟧
  unboxes t m = qed 𝓛 (‵ (box_owns t Row (place z) (whole m)) ∷ []) ∵ fsplit ! $ use1 𝓛 (‵ (Parts m) ⊛ raw (all 𝓤 Back)) (apart m) $ split ! $
      fsplit3 ! $ use1 𝓛 (‵ (word b (o + 0) m.0.0)) (uint_out 𝓛 full_share w64 m.0.0 b (o + 0)) $ move ! (1 ∷ []) $ use1 𝓛 (‵ (word b (o + 8) m.0.1)) (uint_out 𝓛 full_share w64 m.0.1
      b (o + 8)) $ move ! (1 ∷ 0 ∷ []) $ fjoin ! $ frame ! $ fsplit3 ! $ move ! (2 ∷ []) $ fsplit ! $ move ! (1 ∷ []) $ drop ! $
      -- [the value; the first; the second; the way back; the right to free]
      move ! (1 ∷ 2 ∷ []) $ fjoin ! $ frame ! $ frame ! $ each ! (λ (n : Model). ⟦ boxed R Q V t z x n ⟧) (λ n. assume ! (‵ (fsep (words_in z n.0.0 n.0.1) (fsep (slots_there R Q V t z x
      n.1) (value_there R Q V t z x)))) $ fsplit3 ! $ fsplit ! $ use1 𝓛 (‵ (part_at u64 full_share n.0.0 b (o + 0))) (uint_in 𝓛 full_share w64 n.0.0 b (o + 0)) $ move ! (1 ∷ []) $
      use1 𝓛 (‵ (part_at u64 full_share n.0.1 b (o + 8))) (uint_in 𝓛 full_share w64 n.0.1 b (o + 8)) $
      -- [the holds; the word; the slots; the value; the way back; the right to free]
      move ! (2 ∷ []) $ fsplit ! $ nothing ! $ move ! (5 ∷ 0 ∷ []) $ fjoin ! $ move ! (2 ∷ 0 ∷ []) $ fjoin ! $ move ! (1 ∷ 0 ∷ []) $ fjoin ! $ move ! (1 ∷ 0 ∷ []) $ fjoin ! $
      move ! (1 ∷ 0 ∷ []) $ fjoin ! $ move ! (1 ∷ []) $ use1 𝓛 (raw (Back n)) (all_e 𝓤 Back n) $ move ! (1 ∷ 0 ∷ []) $ use2 𝓛 (‵ (part_at Row full_share (whole n) b o))
      (apply∗ 𝓤 ⟦ Parts n ⟧ ⟦ part_at Row full_share (whole n) b o ⟧) $ fjoin ! $ done !)

  pub reboxes : (t : Ty → Ptr → Fml) (m : Model) → ⟦ words_in z m.0.0 m.0.1 ⟧ ∗ ⟦ slots_there R Q V t z x m.1 ⟧ ∗ ⟦ content R Q V t z x ⟧ ⊢ ⟦ box_owns t Row (place z)
      (whole m) ⟧
  reboxes t m = let W : Fml = fsep (words_in z m.0.0 m.0.1) (fsep (slots_there R Q V t z x m.1) (value_there R Q V t z x)) in let B : Fml = box_owns t Row (place z) (whole m) in
      qed 𝓛 (‵ (words_in z m.0.0 m.0.1) ∷ ‵ (slots_there R Q V t z x m.1) ∷ ‵ (content R Q V t z x) ∷ []) ∵ move ! (2 ∷ []) $ fsplit ! $ move ! (2 ∷ 3 ∷ 0 ∷ []) $ fjoin3 ! $
      move ! (1 ∷ []) $ use1 𝓛 (‵ (boxed R Q V t z x m)) (all_e 𝓤 (λ (n : Model). ⟦ boxed R Q V t z x n ⟧) m) $ move ! (1 ∷ 0 ∷ []) $
      use2 𝓛 (‵ B) (apply∗ 𝓤 ⟦ W ⟧ ⟦ B ⟧) $ done !
