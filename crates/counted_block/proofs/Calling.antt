-- A call of the step that adds one unless the word is full, and what the closer adds as an operand. Assumes `Logic`.
use Rattle.std.proofs.Common.{lit<, w64, ◌≡◌, ℕ, ◌^◌, ◌<◌, List, [], ◌∷◌, sym, refl, ap}
use seplogic.Ra.Ura.{Ura}
use mir.Syntax.{int_big, Callee, Dict, ty_struct, tnil, dnil, impl}
use mir.Val.{Val, Fits, vint}
use base.Fraction.{full_share}
use base.Logic.{SProp, ent, sep, emp, guard_i, via, fst∗}
use base.Fml.{Fml, ftrue, fsep, flft}
use prog.Atomic.{bump}
use prog.Model.{Model}
use prog.Wired.{Wired}
use prog.Wp.{Env}
use types.Logic.{Logic}
use types.Run.{Opd}
use types.Kit.{Item, mean, ‵, raw, ◌⊛◌, some, given, later, ◌$◌, ◌∵◌, !, qed, move, drop, split, join, fsplit, fjoin, feq_i, feq_l, flt_l, pick, show, check, frame, use0, use2}
use types.Kit.{updating, await, now, done}
use contract.Monad.{fact, fact_i}
use contract.BorrowLft.{◌⊑◌, ⊑_static}
use contract.Running.{Running, MachineTables, tables}
use denote.RattleType.{RattleType}
use denote.Builtin.{u64}
use denote.Exit.{no}
use denote.Param.{arg}
use denote.Param.Laws.{Laws, arg_laws}
use denote.RawPtr.{Ptr, ptr_val}
use denote.Steps.{nothing, only}
use denote.Triple.Spec.{triple_of}
use Rattle.core.specs.Sync.RawAtomic.{asks, always}
use Rattle.core.specs.declared.atomic.Ordering.TheVariants.{SeqCst}
use Rattle.core.specs.contracts.atomic.Ordering as Order
use Rattle.core.proofs.raw_atomic.Ordered.{order_made}
use Rattle.core.specs.declared.raw_atomic.Outcome as Outcome
use Rattle.core.specs.contracts.marker.Brand as Brand
use Rattle.core.proofs.marker.Brand.TheLaws.{the_row_laws}
use Rattle.core.specs.contracts.raw_atomic.saturating_increment as bump_one
use Rattle.core.proofs.raw_atomic.saturating_increment.Symbol as bump_is
use Rattle.core.proofs.raw_atomic.saturating_increment.Met as bump_met
use Rattle.atomic_table.proofs.Calls.{picked, seq_cst, found, fm}

abbrev mark : RattleType
mark = arg (ty_struct [] tnil) no Brand.the_row

mark_laws : Laws mark
mark_laws = arg_laws (ty_struct [] tnil) no Brand.the_row the_row_laws refl

abbrev no_methods : Dict
no_methods = impl [] tnil dnil

module _ {M : Type 1} {𝓤 : Ura M} (𝓛 : Logic 𝓤) (𝓜 : Model 𝓤 𝓛.H) (𝓡 : Running 𝓤 𝓛.H 𝓜) where
  open 𝓛 use {H, A}

  abbrev 𝓣 : MachineTables 𝓤 H 𝓜
  𝓣 = tables 𝓤 H 𝓜 𝓡 𝓡.env

  pub bumps : Wired 𝓡.env bump_is.code → (p : Ptr) → (after : ℕ → Fml) → ent 𝓤 (asks 𝓛 p bump always after) (𝓣.C (bump_is.name picked) (ptr_val p ∷ seq_cst ∷
      []) (λ v. mean 𝓛 (found after v)))
  bumps w p after = let g : Outcome.Ghosts mark.Denot = record { after = after } in let c = triple_of 𝓛 (bump_one.ended mark g no_methods).signature (bump_one.spec mark g no_methods 𝓛 𝓜.mem
      𝓡.returns) in
      let y : c.Ghost = ((([], tt), (full_share, tt), tt, (p, (SeqCst, tt)), (ptr_val p ∷ [], (seq_cst ∷ [], tt))), tt) in let k : Callee = bump_is.name picked in let vs : List Val = ptr_val p ∷
      seq_cst ∷ [] in let X : SProp 𝓤 = asks 𝓛 p bump always after in let Q : Val → SProp 𝓤 = c.post y in let Z : Val → SProp 𝓤 = λ v. mean 𝓛 (found after v) in
      let answer : (v : Val) → ent 𝓤 (Q v) (Z v) = λ v. qed 𝓛 (later (some (λ (n : ℕ). ((‵ (flft [] full_share) ⊛ ‵ ftrue) ⊛ ‵ (u64.own_val n (v ∷ []))) ⊛
      some (λ (w : Unit {0} × (Unit {0} × Unit {0})). ‵ (fsep ftrue (fsep ftrue ftrue)) ⊛ ‵ (after n)))) ∷ []) ∵ updating ! $ await ! tt $ pick ! (λ n. split ! $ move ! (1 ∷ []) $
      pick ! (λ w. split ! $ drop ! $ move ! (1 ∷ []) $ split ! $ drop ! $ fsplit ! $ feq_l ! (λ e. flt_l ! (λ fits. now ! $
      show ! (λ (m : ℕ). mean 𝓛 (given ((vint Rattle.std.proofs.Common.w64 m ≡ v) × (m < 2 ^ 64)) (‵ (after m)))) n $ check ! (sym (ap only e), fits) $ done !)))) in
      via 𝓤 (sep 𝓤 (𝓣.C k vs Q) (emp 𝓤)) (qed 𝓛 (raw X ∷ []) ∵ use0 𝓛 (raw (fact 𝓤 (SeqCst ≡ SeqCst))) (fact_i 𝓤 (SeqCst ≡ SeqCst) (emp 𝓤) refl) $ join ! $
      use0 𝓛 (raw (fact 𝓤 ([] ⊑ []))) (fact_i 𝓤 ([] ⊑ []) (emp 𝓤) (⊑_static [])) $ join ! $ nothing ! $ use0 𝓛 (‵ (Order.the_row.own_val SeqCst (seq_cst ∷ [])))
      (order_made 𝓛) $ fjoin ! $ feq_i ! (List Val) (ptr_val p ∷ []) (ptr_val p ∷ []) refl $ fjoin ! $ nothing ! $ use0 𝓛 (‵ (flft [] full_share)) (𝓛.lfts.lft-nil full_share) $ join ! $
      join ! $ use2 𝓛 (raw (𝓣.C k vs Q)) (bump_met.met 𝓤 𝓛 𝓜 𝓡 w mark mark_laws g no_methods record {} y) $ frame ! $ done !) (fm 𝓛 𝓜 𝓡 k vs Q Z (emp 𝓤) (λ v. via 𝓤
      (Q v) (fst∗ 𝓤 (Q v) (emp 𝓤)) (answer v)))

-- a number too large for a plain literal
pub left_behind : {M : Type 1} {𝓤 : Ura M} {𝓛 : Logic 𝓤} {K : Type 0} {Γ : List (Item 𝓤)} {E : Env 𝓤 𝓛.H} → Opd K 𝓛 Γ E (int_big w64 9223372036854775808)
    (vint w64 9223372036854775808)
left_behind {M} {𝓤} =
    record { go = λ k h. via 𝓤 (k (vint w64 9223372036854775808)) h (guard_i 𝓤 (Fits w64 9223372036854775808) (k (vint w64 9223372036854775808)) (record { fits = lit< tt })) }
