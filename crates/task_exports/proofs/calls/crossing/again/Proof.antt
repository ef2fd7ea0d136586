-- `again` puts the bits that were kept beside what an export has left.
use Rattle.task_exports.proofs.Walks.{ !, [], ◌∷◌, refl, sym, ap, ◌∙◌, ◌≡◌, proved, Goes-blank, ftrue, fact, ‵, raw, ◌⊛◌, ◌$◌, ◌∵◌, qed, done, move, keep, drop, use0, split, join, fsplit, fjoin, fpick, fpack, suffices, enter, of_opd, stop, fld, no_more, and_then, agg, returns, alloc_all, pass_all, free_all, look_at, get, get_in, sets, whole, sub, yes, rest, shows, Is, ptr_val, rawptr_Lawful, RattleType, plain, nothing, heard, peeks, Stays, walk_of, says, stay_dropped, ends_at, makes_shadow, Struct, shape}
use Rattle.task_exports.specs.Hands.{SameBits}
use Rattle.task_exports.specs.contracts.bits.Bits as bits
use Rattle.task_exports.specs.contracts.bits.Left as left
use Rattle.task_exports.specs.contracts.calls.crossing.Address as address
use Rattle.task_exports.proofs.bits.Bits.TheLaws.{the_row_laws as bits_laws}
use Rattle.task_exports.proofs.bits.Left.TheLaws.{lowers as left_lowers, the_row_laws as left_laws}
use Rattle.task_exports.proofs.calls.crossing.Address.TheLaws.{lowers as address_lowers, the_row_laws as address_laws}
use Rattle.task_exports.specs.declared.bits.Bits.{Bits}
use Rattle.task_exports.specs.contracts.calls.crossing.again as contract
use Rattle.counted_block.specs.Blocks.{BlockId, place}
use Rattle.task_exports.proofs.calls.crossing.again.Statement.{statement}
use Rattle.task_exports.proofs.calls.crossing.again.Code as code

abbrev Of : RattleType
Of = address.the_row

abbrev Rest : RattleType
Rest = left.the_row

abbrev Made : RattleType
Made = bits.the_row

abbrev Data : RattleType
Data = Struct (shape bits.the_type)

abbrev kept : Stays contract.ended.signature.params contract.ended.kept
kept = (stay_dropped (plain (λ _. Of)) yes, (stay_dropped (plain (λ _. Rest)) yes, tt))

pub again_spec : {M : Type 1} → statement M
again_spec 𝓤 𝓛 𝓜 𝓡 wired =
    let claims = contract.clauses 𝓛 𝓜.mem 𝓡.returns in let W = walk_of 𝓛 contract.ended kept claims in
    proved 𝓛 contract.ended kept claims 𝓜 𝓡 (Goes-blank 𝓛 0 (plain (λ _. Of)) yes (λ κs x w. tt), (Goes-blank 𝓛 0 (plain (λ _. Rest)) yes (λ κs x w. tt), tt))
    contract.Key.name code.function (code.unfolded 𝓤 𝓛.H 𝓜 𝓡 wired)
    (λ κs. ((λ d. address_lowers.lowered d ∷ []), ((λ d. left_lowers.lowered d ∷ []), tt))) (λ κs. (address_lowers.val_is, (left_lowers.val_is, tt))) (λ κs qs bounds a _ are.
    let d = a.0 in let e = a.1.0 in let p = d.at in let dv = address_lowers.lowered d in let ev = left_lowers.lowered e in
    let made : Bits = record { at = p; hand = e.hand } in
    let start : W.Ghost = ((κs, qs, bounds, a, (dv ∷ [], (ev ∷ [], tt))), tt) in
    let p_typed = ((rawptr_Lawful 𝓛).typed p (ptr_val p ∷ []) refl).0 in
    qed 𝓛 ((‵ ftrue ⊛ ‵ (Of.own_val d (dv ∷ [])) ⊛ ‵ (Rest.own_val e (ev ∷ [])) ⊛ ‵ ftrue) ∷ raw (fact 𝓤 (SameBits d.hand e.hand)) ∷ []) ∵
    move ! (1 ∷ []) $ heard ! _ (λ same. split ! $ move ! (1 ∷ []) $ split ! $ peeks ! Of (Is Of) (shows 𝓛 Of) d (dv ∷ []) (λ d_is. fsplit ! $ move ! (1 ∷ []) $
    fpick ! (λ at. drop ! $ move ! (1 ∷ []) $ split ! $ peeks ! Rest (Is Rest) (shows 𝓛 Rest) e (ev ∷ []) (λ e_is. fsplit ! $ keep ! (1 ∷ []) $
    nothing ! $ fpack ! (p ≡ place e.hand.share.maybe.id) (λ _. ftrue) (at ∙ ap (λ (z : BlockId). place z) (sym same)) $ fjoin ! $
    use0 𝓛 (‵ (Data.own_val (p, tt) (dv ∷ []))) (makes_shadow 𝓛 (Data.own_val (p, tt) (dv ∷ [])) (λ vss. (tt, (tt, tt))) ((ptr_val p ∷ [], tt), (refl, (refl, tt)))) $ fjoin ! $
    peeks ! Made (Is Made) (shows 𝓛 Made) made (dv ∷ []) (λ made_is.
    let d_typed = ((address_laws.lawful 𝓛).typed d (dv ∷ []) d_is).0 in let e_typed = ((left_laws.lawful 𝓛).typed e (ev ∷ []) e_is).0 in
    let made_typed = ((bits_laws.lawful 𝓛).typed made (dv ∷ []) made_is).0 in
    enter ! _ _ _ _ _ $ alloc_all ! (λ l. pass_all ! refl (d_typed, (e_typed, tt)) $
    sets ! (of_opd ! (get_in ! (fld ! refl (stop !)) (sub ! 0 refl (whole !)))) refl p_typed $ sets ! (agg ! (and_then ! (get ! refl) (no_more !))) refl made_typed $
    returns ! (look_at ! 0 refl) $ free_all ! refl $
    suffices ! _ (ends_at 𝓛 contract.ended kept claims start dv made (rest (Of.exit yes) d, (rest (Rest.exit yes) e, tt)) (tt, (tt, tt))) $ says ! refl $ nothing ! $ nothing ! $ join ! $ nothing ! $ join ! $ nothing ! $ done !)))))))
