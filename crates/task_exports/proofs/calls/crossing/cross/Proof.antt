-- `cross` writes a hand into a place, and reads its pointer there.
use Rattle.task_exports.proofs.Walks.{ !, List, [], ◌∷◌, refl, ◌≡◌, ◌++◌, proved, after, Goes-blank, full_share, ftrue, fat, froom, Ty, Val, vstruct, vcons, vnil, of_list, tables, ‵, raw, ◌⊛◌, at_ret, ◌$◌, ◌∵◌, qed, done, move, keep, use0, use1, use2, split, split3, fjoin, fpack, feq_i, fsep, feq, rewrite, suffices, enter, of_opd, load, look, first, blocks, exec, returns, init, assigns_last, addr, from, forget, lit, no_more, and_then, agg, alloc_all, pass_all, free_all, look_at, get, through, stop, sets, sets_last, take_at, give_at, env, yes, rest, shows, Is, lone, Ptr, ptr_val, RattleType, Valss, owns, plain, nothing, join, peeks, Stays, walk_of, says, stay_dropped, ends_at, apply∗, wand, ty_int, ty_ptr, w64, lit<, makes_shadow, Struct, shape}
use Rattle.task_exports.specs.contracts.hand.Hand as lying
use Rattle.task_exports.proofs.hand.Hand.TheLaws.{the_row_laws as lying_laws, lowers as lying_lowers}
use Rattle.task_exports.specs.contracts.bits.Bits as bits
use Rattle.task_exports.specs.contracts.calls.crossing.Address as address
use Rattle.task_exports.specs.declared.bits.Bits.{Bits}
use Rattle.task_exports.specs.declared.calls.crossing.Address.{Address}
use Rattle.task_exports.specs.contracts.calls.crossing.cross as contract
use Rattle.counted_block.specs.Blocks.{place}
use Rattle.task_exports.proofs.calls.crossing.cross.Statement.{statement}
use Rattle.task_exports.proofs.calls.crossing.cross.Code as code
use Rattle.task_exports.proofs.Filled as filled
use Rattle.task_exports.proofs.Filled.{beside, back, front}

abbrev Lying : RattleType
Lying = lying.the_row

abbrev Two : List RattleType
Two = bits.the_row ∷ address.the_row ∷ []

abbrev Crossed : RattleType
Crossed = Struct (shape bits.the_type)

abbrev Alone : RattleType
Alone = Struct (shape address.the_type)

abbrev word_type : Ty
word_type = lone Lying.mir

abbrev kept : Stays contract.ended.signature.params contract.ended.kept
kept = (stay_dropped (plain (λ _. Lying)) yes, tt)

pub cross_spec : {M : Type 1} → statement M
cross_spec 𝓤 𝓛 𝓜 𝓡 wired =
    let H = 𝓛.H in let claims = contract.clauses 𝓛 𝓜.mem 𝓡.returns in let machine = tables 𝓤 𝓛.H 𝓜 𝓡 𝓡.env in let W = walk_of 𝓛 contract.ended kept claims in
    proved 𝓛 contract.ended kept claims 𝓜 𝓡 (Goes-blank 𝓛 0 (plain (λ _. Lying)) yes (λ κs x w. tt), tt)
    contract.Key.name code.function (code.unfolded 𝓤 𝓛.H 𝓜 𝓡 wired)
    (λ κs. ((λ x. lying_lowers.lowered x ∷ []), tt)) (λ κs. (lying_lowers.val_is, tt)) (λ κs qs bounds a _ are.
    let x = a.0 in let v = lying_lowers.lowered x in let p : Ptr = place x.share.maybe.id in let w : Val = vstruct (vcons (ptr_val p) vnil) in let u : Val = vstruct (vcons w (vcons w vnil)) in
    let handle : Bits = record { at = p; hand = x } in let alone : Address = record { at = p; hand = x } in
    let start : W.Ghost = ((κs, qs, bounds, a, (v ∷ [], tt)), tt) in
    qed 𝓛 ((‵ ftrue ⊛ ‵ (Lying.own_val x (v ∷ [])) ⊛ ‵ ftrue) ∷ ‵ ftrue ∷ []) ∵
    split3 ! $ move ! (1 ∷ []) $ peeks ! Lying (Is Lying) (shows 𝓛 Lying) x (v ∷ []) (λ x_is. keep ! (0 ∷ []) $
    let typed = ((lying_laws.lawful 𝓛).typed x (v ∷ []) x_is).0 in let lies : x.share.maybe.at ≡ p = x_is.1.1.0.1.1.0.1.0.0 in
    enter ! _ _ _ _ _ $ alloc_all ! (λ l. pass_all ! refl (typed, tt) $
    sets ! (of_opd ! (lit ! tt)) refl (tt, record { fits = lit< tt }) $ sets ! (addr ! (from ! (stop !))) refl (tt, tt) $
    -- the place of the number is room for a hand, which is written there
    take_at ! 2 $ forget ! 0 refl $
    use1 𝓛 (‵ (froom word_type (l 2) 0) ⊛ raw (wand 𝓤 (H.room word_type (l 2) 0) (H.room (ty_int w64) (l 2) 0))) (𝓛.laws.room_as (ty_int w64) word_type (l 2) 0 refl tt) $ split ! $
    -- [room for the hand; the way back; what the hand owns]
    first ! $ blocks ! $ sets ! (of_opd ! (get ! refl)) refl typed $ assigns_last ! (of_opd ! (get ! refl)) (through ! refl (stop !)) (init ! 0 refl typed) $
    exec ! machine.C machine.Λ (env code.Mir.locals l) (after 3 (code.function).body) (at_ret (env code.Mir.locals l) (W.post start)) $
    -- its pointer is read there
    rewrite ! 0 (λ (r : Ptr). ‵ (fat full_share word_type (l 2) 0 (filled.bits (ptr_val r)))) lies refl $
    use1 𝓛 (‵ (fat full_share ty_ptr (l 2) 0 (ptr_val p)) ⊛ beside 𝓛 _ _ _ _ _ _ _ (l 2)) (front 𝓛 _ _ _ _ _ _ _ (l 2) (ptr_val p)) $ split ! $
    -- [the pointer; what is beside it; the way back; what the hand owns]
    first ! $ blocks ! $ sets ! (of_opd ! (get ! refl)) refl (tt, tt) $ sets_last ! (of_opd ! (load ! (through ! refl (stop !)) (look ! 0 refl))) refl (tt, tt) $
    exec ! machine.C machine.Λ (env code.Mir.locals l) (after 4 (code.function).body) (at_ret _ (W.post start)) $
    sets ! (of_opd ! (get ! refl)) refl (tt, tt) $
    sets ! (agg ! (and_then ! (get ! refl) (no_more !))) refl (tt, (tt, tt)) $ sets ! (agg ! (and_then ! (get ! refl) (no_more !))) refl (tt, (tt, tt)) $
    sets ! (agg ! (and_then ! (get ! refl) (and_then ! (get ! refl) (no_more !)))) refl (tt, ((tt, tt), ((tt, tt), tt))) $
    -- the place is room for the number again
    move ! (1 ∷ 0 ∷ []) $ use2 𝓛 (‵ (fat full_share word_type (l 2) 0 (filled.bits (ptr_val p)))) (back 𝓛 _ _ _ _ _ _ _ (l 2) (ptr_val p)) $
    use1 𝓛 (‵ (froom word_type (l 2) 0)) (𝓛.laws.at_room word_type (l 2) 0 (filled.bits (ptr_val p))) $ use2 𝓛 (‵ (froom (ty_int w64) (l 2) 0)) (apply∗ 𝓤 (H.room word_type (l 2) 0) (H.room (ty_int w64) (l 2) 0)) $ give_at ! 2 $
    -- what the hand owns is the handle's by its bits, and the address owns nothing
    fpack ! Val (λ (u : Val). Lying.own_val x (u ∷ [])) v $ nothing ! $ fpack ! (p ≡ p) (λ _. ftrue) refl $ fjoin ! $
    use0 𝓛 (‵ (Crossed.own_val (p, tt) (w ∷ []))) (makes_shadow 𝓛 (Crossed.own_val (p, tt) (w ∷ [])) (λ vss. (tt, (tt, tt))) ((ptr_val p ∷ [], tt), (refl, (refl, tt)))) $ fjoin ! $
    nothing ! $ fpack ! (p ≡ p) (λ _. ftrue) refl $ use0 𝓛 (‵ (Alone.own_val (p, tt) (w ∷ []))) (makes_shadow 𝓛 (Alone.own_val (p, tt) (w ∷ [])) (λ vss. (tt, (tt, tt))) ((ptr_val p ∷ [], tt), (refl, (refl, tt)))) $ fjoin ! $
    -- [the address; the handle]: the pair of them
    nothing ! $ move ! (1 ∷ 0 ∷ []) $ fjoin ! $ move ! (1 ∷ 0 ∷ []) $ fjoin ! $ feq_i ! (List Val) (u ∷ []) (u ∷ []) refl $ fjoin ! $
    fpack ! (Valss Two) (λ uss. fsep (feq (List Val) (u ∷ []) (vstruct (of_list (uss.0 ++ (uss.1.0 ++ []))) ∷ [])) (owns Two (handle, (alone, tt)) uss)) (w ∷ [], (w ∷ [], tt)) $
    returns ! (look_at ! 0 refl) $ free_all ! refl $
    suffices ! _ (ends_at 𝓛 contract.ended kept claims start u (handle, alone) (rest (Lying.exit yes) x, tt) (tt, tt)) $ says ! (refl, refl) $ nothing ! $ nothing ! $ join ! $ nothing ! $ done !)))
