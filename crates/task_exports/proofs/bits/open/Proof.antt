-- `open` takes a place of a pointer as a hand's, and reads it.
use Rattle.task_exports.proofs.Walks.{ !, List, [], ◌∷◌, refl, sym, ap, ◌∙◌, ◌≡◌, proved, after, Goes-blank, full_share, ftrue, fat, froom, Ty, Val, tables, ‵, raw, ◌⊛◌, at_ret, ◌$◌, ◌∵◌, qed, done, move, keep, drop, use1, use2, split, split3, join, fsplit, fpick, rewrite, suffices, enter, of_opd, load, look, stop, fld, first, blocks, exec, returns, init, assigns, addr, from, forget, alloc_all, pass_all, free_all, look_at, get, get_in, through, sets, sets_last, take_at, give_at, env, whole, sub, yes, rest, shows, Is, lone, Ptr, ptr_val, rawptr_Lawful, RattleType, plain, nothing, peeks, Stays, walk_of, says, stay_dropped, ends_at, apply∗, wand, ty_ptr}
use Rattle.task_exports.specs.contracts.hand.Hand as lying
use Rattle.task_exports.proofs.hand.Hand.TheLaws.{the_row_laws as lying_laws, lowers as lying_lowers}
use Rattle.task_exports.specs.contracts.bits.Bits.{the_row as Row}
use Rattle.task_exports.proofs.bits.Bits.TheLaws.{lowers, the_row_laws as laws}
use Rattle.task_exports.specs.contracts.bits.open as contract
use Rattle.counted_block.specs.Blocks.{place}
use Rattle.task_exports.proofs.bits.open.Statement.{statement}
use Rattle.task_exports.proofs.bits.open.Code as code
use Rattle.task_exports.proofs.Filled.{bits, beside, apart, back}

abbrev Lying : RattleType
Lying = lying.the_row

abbrev word_type : Ty
word_type = lone Lying.mir

abbrev kept : Stays contract.ended.signature.params contract.ended.kept
kept = (stay_dropped (plain (λ _. Row)) yes, tt)

pub open_spec : {M : Type 1} → statement M
open_spec 𝓤 𝓛 𝓜 𝓡 wired =
    let H = 𝓛.H in let claims = contract.clauses 𝓛 𝓜.mem 𝓡.returns in let machine = tables 𝓤 𝓛.H 𝓜 𝓡 𝓡.env in let W = walk_of 𝓛 contract.ended kept claims in
    proved 𝓛 contract.ended kept claims 𝓜 𝓡 (Goes-blank 𝓛 0 (plain (λ _. Row)) yes (λ κs x w. tt), tt)
    contract.Key.name code.function (code.unfolded 𝓤 𝓛.H 𝓜 𝓡 wired)
    (λ κs. ((λ h. lowers.lowered h ∷ []), tt)) (λ κs. (lowers.val_is, tt)) (λ κs qs bounds a _ are.
    let h = a.0 in let p = h.at in let x = h.hand in
    let start : W.Ghost = ((κs, qs, bounds, a, (lowers.lowered h ∷ [], tt)), tt) in
    let p_typed = ((rawptr_Lawful 𝓛).typed p (ptr_val p ∷ []) refl).0 in
    qed 𝓛 ((‵ ftrue ⊛ ‵ (Row.own_val h (lowers.lowered h ∷ [])) ⊛ ‵ ftrue) ∷ ‵ ftrue ∷ []) ∵
    split3 ! $ move ! (1 ∷ []) $ peeks ! Row (Is Row) (shows 𝓛 Row) h (lowers.lowered h ∷ []) (λ h_is. fsplit ! $ keep ! (1 ∷ []) $
    fsplit ! $ fpick ! (λ at. drop ! $ fpick ! (λ v.
    peeks ! Lying (Is Lying) (shows 𝓛 Lying) x (v ∷ []) (λ x_is.
    let lies : x.share.maybe.at ≡ place x.share.maybe.id = x_is.1.1.0.1.1.0.1.0.0 in
    let told : v ∷ [] ≡ bits (ptr_val p) ∷ [] = lying_lowers.val_is x (v ∷ []) x_is ∙ ap (λ (r : Ptr). bits (ptr_val r) ∷ []) (lies ∙ sym at) in
    rewrite ! 0 (λ (ws : List Val). ‵ (Lying.own_val x ws)) told refl $
    peeks ! Lying (Is Lying) (shows 𝓛 Lying) x (bits (ptr_val p) ∷ []) (λ now_is.
    let h_typed = ((laws.lawful 𝓛).typed h (lowers.lowered h ∷ []) h_is).0 in
    let x_typed = ((lying_laws.lawful 𝓛).typed x (bits (ptr_val p) ∷ []) now_is).0 in
    enter ! _ _ _ _ _ $ alloc_all ! (λ l. pass_all ! refl (h_typed, tt) $
    sets ! (of_opd ! (get_in ! (fld ! refl (stop !)) (sub ! 0 refl (whole !)))) refl p_typed $ sets ! (of_opd ! (get ! refl)) refl p_typed $ sets ! (addr ! (from ! (stop !))) refl (tt, tt) $
    -- the place of the pointer is room for a hand
    take_at ! 3 $ forget ! 0 refl $
    use1 𝓛 (‵ (froom word_type (l 3) 0) ⊛ raw (wand 𝓤 (H.room word_type (l 3) 0) (H.room ty_ptr (l 3) 0))) (𝓛.laws.room_as ty_ptr word_type (l 3) 0 refl tt) $ split ! $
    use1 𝓛 (‵ (froom ty_ptr (l 3) 0) ⊛ beside 𝓛 _ _ _ _ _ _ _ (l 3)) (apart 𝓛 _ _ _ _ _ _ _ (l 3)) $ split ! $
    -- [room for the pointer; what is beside it; the way back; what the hand owns]
    first ! $ blocks ! $ assigns ! (of_opd ! (get ! refl)) (through ! refl (stop !)) (init ! 0 refl p_typed) $
    move ! (1 ∷ 0 ∷ []) $ use2 𝓛 (‵ (fat full_share word_type (l 3) 0 (bits (ptr_val p)))) (back 𝓛 _ _ _ _ _ _ _ (l 3) (ptr_val p)) $
    sets ! (of_opd ! (get ! refl)) refl (tt, tt) $
    sets_last ! (of_opd ! (load ! (through ! refl (stop !)) (look ! 0 refl))) refl x_typed $
    exec ! machine.C machine.Λ (env code.Mir.locals l) (after 4 (code.function).body) (at_ret _ (W.post start)) $
    sets ! (of_opd ! (get ! refl)) refl x_typed $
    use1 𝓛 (‵ (froom word_type (l 3) 0)) (𝓛.laws.at_room word_type (l 3) 0 (bits (ptr_val p))) $ use2 𝓛 (‵ (froom ty_ptr (l 3) 0)) (apply∗ 𝓤 (H.room word_type (l 3) 0) (H.room ty_ptr (l 3) 0)) $ give_at ! 3 $
    returns ! (look_at ! 0 refl) $ free_all ! refl $
    suffices ! _ (ends_at 𝓛 contract.ended kept claims start (bits (ptr_val p)) x (rest (Row.exit yes) h, tt) (tt, tt)) $ says ! refl $ nothing ! $ nothing ! $ join ! $ nothing ! $ done !)))))))
