-- The bits of a share are read through a `&` to it.
use Rattle.task_exports.proofs.LentWalks.{ !, List, [], ◌∷◌, refl, ◌≡◌, id⊢, fat, flft, ty_ptr, Val, ent, sep, Logic, Ura, ‵, ◌⊛◌, ◌$◌, ◌∵◌, qed, done, move, keep, drop, use1, split, rewrite, fsplit, feq_i, feq_l, ℕ, Item, Fml, Lft, Share, sem, Ptr, RawPtr, ptr_val, shared_of}
use Rattle.std.proofs.Common.{◌+◌, arith}
use denote.Copied.{plain_Copied}
use denote.Memory.{cell_at, hidden_shr, part_at}
use denote.Opens.{Shut, hide}
use denote.RawPtr.{coded_ptr, ptr_own, rawptr_pure}
use denote.SharingLaws.{contraction}
use denote.Steps.{looks, shuts}
use denote.Struct.Laws.{RawPtr-laws}
use types.Kit.{Goal, Seq, Soaks, Step, step}
use Rattle.task_exports.specs.declared.hand.Lent.{Lent}
use Rattle.task_exports.specs.contracts.hand.Lent.{the_row as Row}
use Rattle.task_exports.proofs.hand.Lent.TheLaws.{the_row_laws as laws}

module _ {M : Type 1} {𝓤 : Ura M} (𝓛 : Logic 𝓤) (κ : Lft) (x : Lent) (b o : ℕ) where
  -- what a `&` to a share has
  abbrev pub shown : Fml
  shown = shared_of Row x b o κ

  -- it shows what a `&` to the pointer has
  pub shows_bits : ent 𝓤 (sem 𝓛 shown) (sep 𝓤 (sem 𝓛 (hidden_shr RawPtr κ x.share.block.at b o)) (sem 𝓛 shown))
  shows_bits =
      qed 𝓛 (‵ shown ∷ []) ∵ use1 𝓛 (‵ shown ⊛ ‵ shown) (contraction 𝓛 (shared_of Row x b o) (laws.shr_laws x b o) κ) $ split ! $
      fsplit ! $ fsplit ! $ fsplit ! $ fsplit ! $ fsplit ! $ fsplit ! $ fsplit ! $ hide ! $ use1 𝓛 (‵ (hidden_shr RawPtr κ x.share.block.at b (((o + 0) + 0) + 0))) (id⊢ 𝓤 _) $ let e : ((o + 0) + 0) + 0 ≡ o = omega arith in
      rewrite ! 0 (λ (n : ℕ). ‵ (hidden_shr RawPtr κ x.share.block.at b n)) e refl $ keep ! (0 ∷ 8 ∷ []) $ done !

module _ {M : Type 1} {𝓤 : Ura M} {𝓛 : Logic 𝓤} {K : Type 0} {Γ : List (Item 𝓤)} {G : Goal 𝓤 𝓛.H} where
  -- a pointer is opened, from what shows a `&` to it
  pub bits_in : K → Soaks G → {κ : Lft} {q : Share} {S : Fml} (p : Ptr) (b o : ℕ) → ent 𝓤 (sem 𝓛 S) (sep 𝓤 (sem 𝓛 (hidden_shr RawPtr κ p b o)) (sem 𝓛 S))
      → ((s : Share) → Seq K 𝓛 (‵ (fat s ty_ptr b o (ptr_val p)) ∷ Shut 𝓛 κ q (part_at RawPtr s p b o) ∷ ‵ S ∷ Γ) G) → Seq K 𝓛 (‵ S ∷ ‵ (flft κ q) ∷ Γ) G
  bits_in t z {κ} {q} {S} p b o shows k =
      use1 𝓛 (‵ (hidden_shr RawPtr κ p b o) ⊛ ‵ S) shows $ split t $ move t (0 ∷ 2 ∷ []) $
      looks t z RawPtr (plain_Copied 𝓛 Ptr coded_ptr (ty_ptr ∷ []) ptr_own rawptr_pure ptr_val RawPtr-laws.tells).opens p b o (λ s vs. move t (1 ∷ []) $ feq_l t (λ e.
      rewrite t 0 (λ (us : List Val). ‵ (cell_at s RawPtr.mir us b o)) e refl $ move t (2 ∷ []) $ drop t $ k s))

  -- the pointer is shut again
  pub bits_out : K → Soaks G → {κ : Lft} {q s : Share} (p : Ptr) (b o : ℕ) → Step K 𝓛 (‵ (flft κ q) ∷ Γ) G (‵ (fat s ty_ptr b o (ptr_val p)) ∷ Shut 𝓛 κ q (part_at RawPtr s p b o) ∷ Γ) G
  bits_out t z {s = s} p b o = step (λ k. feq_i t (List Val) (ptr_val p ∷ []) (ptr_val p ∷ []) refl $ move t (1 ∷ 0 ∷ []) $ shuts t z RawPtr s p (ptr_val p ∷ []) b o $ k)
