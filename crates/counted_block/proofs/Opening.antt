-- A step on a word that an invariant has outright, which may end lifetimes. Assumes `Logic`.
use Rattle.std.proofs.Common.{ℕ, List, [], ◌∷◌}
use mathlib.Core.List.{Mem, not-mem-nil}
use seplogic.Ra.Ura.{Ura}
use base.Fraction.{full_share}
use base.Logic.{SProp, ent, ex, guard, upd, apply∗, ex_i, ex_e, upd_i, upd_mono, via, mono_r}
use base.Fml.{Fml, fdead, finv, fnamed}
use types.Logic.{Logic}
use types.Kit.{‵, raw, ◌⊛◌, some, ◌$◌, ◌∵◌, !, qed, by, split, pick, show, check, frame, each, assume, suffices, settle, use1, use2}
use denote.RawPtr.{block_ptr}
use Rattle.std.specs.Sync.RawAtomic.{Shift, rests, ends, enters, leaves, word, if_none, along, back, found, asks, always}
use Rattle.counted_block.proofs.Signs.{Signs, signs}

module _ {M : Type 1} {𝓤 : Ura M} (𝓛 : Logic 𝓤) (I : Fml) (b o : ℕ) (f : ℕ → ℕ) (after : ℕ → Fml) where
  open 𝓛 use {A}

  abbrev Pr : Type 2
  Pr = SProp 𝓤

  abbrev 𝓝 : Signs 𝓛
  𝓝 = signs 𝓛

  open 𝓝 use {⟦◌⟧, ◌∗◌, ◌-∗◌}

  -- what is there after the step, once these lifetimes have ended
  abbrev pub Ends : List ℕ → ℕ → Pr
  Ends [] n = upd 𝓤 (⟦ I ⟧ ∗ ⟦ after n ⟧)
  Ends (a ∷ ls) n = upd 𝓤 (A.lft (a ∷ []) full_share ∗ (A.dead (a ∷ []) -∗ Ends ls n))

  abbrev pub Ended : ℕ → Pr
  Ended n = ex 𝓤 (λ (ls : List ℕ). Ends ls n)

  abbrev pub Lies : ℕ → Pr
  Lies n = ⟦ word b o n ⟧ ∗ (⟦ word b o (f n) ⟧ -∗ Ended n)

  shift : List ℕ → Shift
  shift [] = leaves rests
  shift (a ∷ ls) = ends a (shift ls)

  shifts : (j : ℕ) (ls : List ℕ) (n : ℕ) → ent 𝓤 (Ends ls n) (along 𝓛 (shift ls) (if_none 𝓛 ⟦ after n ⟧) ((j, I) ∷ []))
  unfolding shift
  shifts j [] n = let T : Pr = ⟦ after n ⟧ in let N : Pr = ⟦ I ⟧ ∗ upd 𝓤 T in upd_mono 𝓤 {P = ⟦ I ⟧ ∗ T} {Q = N} (mono_r 𝓤 ⟦ I ⟧ (upd_i 𝓤 T))
  shifts j (a ∷ ls) n = let D : Pr = A.dead (a ∷ []) in let L : Pr = A.lft (a ∷ []) full_share in let N : Pr = along 𝓛 (shift ls) (if_none 𝓛 ⟦ after n ⟧) ((j, I) ∷ []) in
      upd_mono 𝓤 {P = L ∗ (D -∗ Ends ls n)} {Q = L ∗ (D -∗ N)} (mono_r 𝓤 L (qed 𝓛 (raw (D -∗ Ends ls n) ∷ []) ∵ assume ! (‵ (fdead (a ∷ []))) $
      use2 𝓛 (raw (Ends ls n)) (apply∗ 𝓤 D (Ends ls n)) $ by ! (shifts j ls n)))

  pub entered : (X : Pr) → ent 𝓤 (⟦ I ⟧ ∗ X) (upd 𝓤 (ex 𝓤 Lies)) → ent 𝓤 (A.inv I ∗ X) (asks 𝓛 (block_ptr b o) f always after)
  entered X h = let K : List (ℕ × Fml) → Pr = λ l. ex 𝓤 (found 𝓛 l b o f always after) in
      qed 𝓛 (‵ (finv I) ∷ raw X ∷ []) ∵ use1 𝓛 (some (λ (j : ℕ). ‵ (fnamed j I))) (𝓛.invs.inv_named I) $ pick ! (λ j. let L : List (ℕ × Fml) = (j, I) ∷ [] in
      let F : Pr = K L in suffices ! _ (ex_i 𝓤 (λ (s : Shift). along 𝓛 s K []) (enters j I rests)) $
      suffices ! _ (upd_i 𝓤 (guard 𝓤 (¬ Mem j []) (A.named j I ∗ (⟦ I ⟧ -∗ upd 𝓤 F)))) $ check ! (λ m. not-mem-nil m) $ frame ! $ assume ! (‵ I) $
      use2 𝓛 (raw (upd 𝓤 (ex 𝓤 Lies))) h $ settle 𝓛 F (some (λ (n : ℕ). ‵ (word b o n) ⊛ raw (⟦ word b o (f n) ⟧ -∗ Ended n))) $ suffices ! _ (upd_i 𝓤 F) $
      pick ! (λ n. split ! $ show ! (found 𝓛 L b o f always after) n $ frame ! $ each ! (λ (_ : always n). back 𝓛 L b o f after n) (λ y. assume ! (‵ (word b o (f n))) $
      use2 𝓛 (raw (Ended n)) (apply∗ 𝓤 ⟦ word b o (f n) ⟧ (Ended n)) $ by ! (let E : List ℕ → Pr = λ ls. Ends ls n in let G : Shift → Pr = λ s. along 𝓛 s (if_none 𝓛 ⟦ after
      n ⟧) L in ex_e 𝓤 E (λ ls. via 𝓤 (G (shift ls)) (shifts j ls n) (ex_i 𝓤 G (shift ls)))))))
