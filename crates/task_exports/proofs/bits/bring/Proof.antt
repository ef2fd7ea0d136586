-- `bring` lets the bits of a handle go, and keeps what it owns.
use Rattle.task_exports.proofs.Walks.{ !, [], ◌∷◌, refl, proved, after, Goes-blank, ftrue, froom, Ty, Val, tables, ‵, raw, ◌⊛◌, at_ret, ◌$◌, ◌∵◌, qed, done, move, keep, use0, use1, use2, split, split3, fjoin, fpack, suffices, enter, of_opd, first, blocks, exec, returns, init, assigns_last, addr, from, forget, lit, no_more, agg, alloc_all, pass_all, free_all, look_at, get, through, stop, sets, take_at, give_at, env, yes, rest, shows, Is, lone, RattleType, plain, nothing, join, peeks, Stays, walk_of, says, stay_dropped, ends_at, apply∗, wand, ty_int, w64, lit<, makes_shadow, Struct, shape}
use Rattle.task_exports.specs.contracts.hand.Hand as lying
use Rattle.task_exports.proofs.hand.Hand.TheLaws.{the_row_laws as lying_laws, lowers as lying_lowers}
use Rattle.task_exports.specs.contracts.bits.Brought as made
use Rattle.task_exports.specs.contracts.bits.bring as contract
use Rattle.task_exports.proofs.bits.bring.Statement.{statement}
use Rattle.task_exports.proofs.bits.bring.Code as code
use Rattle.task_exports.proofs.Filled.{nil_val}
use Rattle.std.specs.Prelude.{Some}

abbrev Lying : RattleType
Lying = lying.the_row

abbrev Data : RattleType
Data = Struct (shape made.the_type)

abbrev word_type : Ty
word_type = lone Lying.mir

abbrev kept : Stays contract.ended.signature.params contract.ended.kept
kept = (stay_dropped (plain (λ _. Lying)) yes, tt)

pub bring_spec : {M : Type 1} → statement M
bring_spec 𝓤 𝓛 𝓜 𝓡 wired =
    let H = 𝓛.H in let claims = contract.clauses 𝓛 𝓜.mem 𝓡.returns in let machine = tables 𝓤 𝓛.H 𝓜 𝓡 𝓡.env in let W = walk_of 𝓛 contract.ended kept claims in
    proved 𝓛 contract.ended kept claims 𝓜 𝓡 (Goes-blank 𝓛 0 (plain (λ _. Lying)) yes (λ κs x w. tt), tt)
    contract.Key.name code.function (code.unfolded 𝓤 𝓛.H 𝓜 𝓡 wired)
    (λ κs. ((λ x. lying_lowers.lowered x ∷ []), tt)) (λ κs. (lying_lowers.val_is, tt)) (λ κs qs bounds a _ are.
    let x = a.0 in let v = lying_lowers.lowered x in
    let start : W.Ghost = ((κs, qs, bounds, a, (v ∷ [], tt)), tt) in
    qed 𝓛 ((‵ ftrue ⊛ ‵ (Lying.own_val x (v ∷ [])) ⊛ ‵ ftrue) ∷ ‵ ftrue ∷ []) ∵
    split3 ! $ move ! (1 ∷ []) $ peeks ! Lying (Is Lying) (shows 𝓛 Lying) x (v ∷ []) (λ x_is. keep ! (0 ∷ []) $
    let typed = ((lying_laws.lawful 𝓛).typed x (v ∷ []) x_is).0 in
    enter ! _ _ _ _ _ $ alloc_all ! (λ l. pass_all ! refl (typed, tt) $
    sets ! (of_opd ! (lit ! tt)) refl (tt, record { fits = lit< tt }) $ sets ! (addr ! (from ! (stop !))) refl (tt, tt) $
    -- the place of the number is room for a hand, which is written there
    take_at ! 2 $ forget ! 0 refl $
    use1 𝓛 (‵ (froom word_type (l 2) 0) ⊛ raw (wand 𝓤 (H.room word_type (l 2) 0) (H.room (ty_int w64) (l 2) 0))) (𝓛.laws.room_as (ty_int w64) word_type (l 2) 0 refl tt) $ split ! $
    -- [room for the hand; the way back; what the hand owns]
    first ! $ blocks ! $ sets ! (of_opd ! (get ! refl)) refl typed $ assigns_last ! (of_opd ! (get ! refl)) (through ! refl (stop !)) (init ! 0 refl typed) $
    exec ! machine.C machine.Λ (env code.Mir.locals l) (after 3 (code.function).body) (at_ret _ (W.post start)) $
    sets ! (agg ! (no_more !)) refl (tt, tt) $
    use1 𝓛 (‵ (froom word_type (l 2) 0)) (𝓛.laws.at_room word_type (l 2) 0 v) $ use2 𝓛 (‵ (froom (ty_int w64) (l 2) 0)) (apply∗ 𝓤 (H.room word_type (l 2) 0) (H.room (ty_int w64) (l 2) 0)) $ give_at ! 2 $
    fpack ! Val (λ (w : Val). Lying.own_val x (w ∷ [])) v $
    use0 𝓛 (‵ (Data.own_val tt (nil_val ∷ []))) (makes_shadow 𝓛 (Data.own_val tt (nil_val ∷ [])) (λ vss. (tt, tt)) (tt, (refl, tt))) $ fjoin ! $
    returns ! (look_at ! 0 refl) $ free_all ! refl $
    suffices ! _ (ends_at 𝓛 contract.ended kept claims start nil_val (record { hand = Some x }) (rest (Lying.exit yes) x, tt) (tt, tt)) $ says ! refl $ nothing ! $ nothing ! $ join ! $ nothing ! $ done !)))
