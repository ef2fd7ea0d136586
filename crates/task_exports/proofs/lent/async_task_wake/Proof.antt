-- `async_task_wake` makes a `&` to the share that is lent, of a place of its own for its bits, and hands it on.
use Rattle.task_exports.proofs.LentWalks.{ !, [], ◌∷◌, ◌≡◌, refl, proved, after, full_share, ftrue, fat, flft, froom, fdead, fsep, fact, tables, ‵, raw, ◌⊛◌, some, later, await, at_ret, ◌$◌, ◌∵◌, qed, done, move, keep, drop, use0, use1, use2, split, join, fsplit, fjoin, feq_i, pick, rewrite, suffices, frame, group, enter, of_opd, stop, addr, from, forget, init, no_more, and_then, assigns, first, blocks, exec, returns, alloc_all, pass_all, free_all, look_at, get, through, sets, sets_last, take_at, give_at, lands_as, env, yes, shows, Is, Ptr, RawPtr, ptr_val, ty_ptr, rawptr_Lawful, rawptr_vals, rawptr_Tells, block_of, count_of, plain, nothing, heard, peeks, id⊢, Stays, walk_of, says, stay_dropped, Goes-dropped, ends_at, apply∗, wand, sep, snd∗, ex_e, sem, Lft, Share, Bor, shr_vals, shared_of, lent_at, calls_at, lasts, ensured, on_entry, triple_of, framed, lft_new, lft_end, lft-common, common, before, before-Incl, meet_⊑_left, meet_⊑_right}
use Rattle.task_exports.proofs.Lending.{lent, beside, apart, whole, lends_here, comes_back}
use Rattle.task_exports.specs.Answers.{Wakes}
use Rattle.task_exports.specs.Lent.{IsShareOf}
use Rattle.task_exports.specs.declared.hand.Hand.{Hand}
use Rattle.task_exports.specs.declared.hand.Lent.{Lent}
use Rattle.task_exports.specs.declared.bits.Brings.{Brings}
use Rattle.task_exports.specs.contracts.hand.Lent.{the_row as Row}
use Rattle.task_exports.proofs.hand.Lent.TheLaws.{the_row_laws as lent_laws}
use Rattle.task_exports.specs.contracts.bits.Brings.{the_row as Out}
use Rattle.task_exports.proofs.bits.Brings.TheLaws.{the_row_laws as laws}
use Rattle.task_exports.specs.contracts.lent.async_task_wake as f
use Rattle.task_exports.proofs.lent.async_task_wake.Statement.{statement}
use Rattle.task_exports.proofs.lent.async_task_wake.Code as code
use Rattle.task_exports.specs.contracts.lent.bring_woken as g
use Rattle.task_exports.proofs.lent.bring_woken.Met.{met}

abbrev stayed : Stays f.ended.signature.params f.ended.kept
stayed = (stay_dropped _ yes, tt)

abbrev Says : Lent → Brings → Type 0
Says x r = (y : Hand) → IsShareOf y x → Wakes y r.brought.hand r.number

pub async_task_wake_spec : {M : Type 1} → statement M
async_task_wake_spec {M} 𝓤 𝓛 𝓜 𝓡 wired =
    let H = 𝓛.H in let c = f.clauses 𝓛 𝓜.mem 𝓡.returns in let W = walk_of 𝓛 f.ended stayed c in let 𝓣 = tables 𝓤 𝓛.H 𝓜 𝓡 𝓡.env in
    proved 𝓛 f.ended stayed c 𝓜 𝓡 (Goes-dropped 𝓛 0 (plain (λ _. RawPtr)) yes (λ κs x w. refl), tt)
    f.Key.name code.function (code.unfolded 𝓤 𝓛.H 𝓜 𝓡 wired)
    (λ κs. (rawptr_vals, tt)) (λ κs. (rawptr_Tells, tt)) (λ κs qs bounds a loan are.
    let κ : Lft = loan.life in let q : Share = loan.part in let x : Lent = loan.lent in let p : Ptr = a.0 in let bits : Ptr = x.share.block.at in
    let y : W.Ghost = ((κs, qs, bounds, a, (rawptr_vals p, tt)), loan) in
    let p_typed = ((rawptr_Lawful 𝓛).typed p (ptr_val p ∷ []) refl).0 in
    qed 𝓛 (raw (on_entry 𝓛 f.signature κs qs a y.0.4) ∷ ‵ (fsep (lent_at Row loan.place x κ) (flft κ q)) ∷ raw (fact 𝓤 (p ≡ bits)) ∷ []) ∵
    drop ! $ move ! (1 ∷ []) $ heard ! _ (λ e. fsplit ! $ fsplit ! $ drop ! $
    -- [what a `&` has; the token]
    enter ! _ _ _ _ _ $ alloc_all ! (λ l. pass_all ! refl (p_typed, tt) $
    sets ! (of_opd ! (get ! refl)) refl p_typed $ sets ! (addr ! (from ! (stop !))) refl (tt, tt) $
    -- the place of the bits is room for a share
    take_at ! 2 $ forget ! 0 refl $
    use1 𝓛 (‵ (froom lent (l 2) 0) ⊛ raw (wand 𝓤 (H.room lent (l 2) 0) (H.room ty_ptr (l 2) 0))) (𝓛.laws.room_as ty_ptr lent (l 2) 0 refl tt) $ split ! $
    use1 𝓛 (‵ (froom ty_ptr (l 2) 0) ⊛ beside 𝓛 (l 2)) (apart 𝓛 (l 2)) $ split ! $
    -- [room for the pointer; what is beside it; the way back; what a `&` has; the token]
    first ! $ blocks ! $ assigns ! (of_opd ! (get ! refl)) (through ! refl (stop !)) (init ! 0 refl p_typed) $
    sets ! (of_opd ! (get ! refl)) refl (tt, tt) $ sets_last ! (addr ! (through ! refl (stop !))) refl (tt, tt) $
    exec ! 𝓣.C 𝓣.Λ (env code.Mir.locals l) (after 3 (code.function).body) (at_ret _ (W.post y)) $
    sets ! (of_opd ! (get ! refl)) refl (tt, tt) $
    -- a lifetime of this call, within the one for which the share is lent
    lft_new ! tt (λ α. let r : Share = (common full_share q).0 in move ! (0 ∷ 5 ∷ []) $
    use2 𝓛 (‵ (flft (α ∷ κ) r) ⊛ raw (wand 𝓤 (𝓛.A.lft (α ∷ κ) r) (sep 𝓤 (𝓛.A.lft (α ∷ []) full_share) (𝓛.A.lft κ q)))) (lft-common 𝓛 (α ∷ []) κ full_share q) $ split ! $
    move ! (5 ∷ []) $ use0 𝓛 (‵ (before (α ∷ κ) κ)) (before-Incl 𝓛 (α ∷ κ) κ (meet_⊑_right (α ∷ []) κ)) $
    use2 𝓛 (‵ (shared_of Row x (block_of loan.place) (count_of loan.place) (α ∷ κ))) ((lent_laws.shr_laws x (block_of loan.place) (count_of loan.place)).mono M 𝓤 𝓛 (α ∷ κ) κ) $
    -- the share at its owner's place is its data, and what it has of the cell, which a `&` elsewhere has too
    fsplit ! $ fsplit ! $ fsplit ! $ fsplit ! $ fsplit ! $ drop ! $ move ! (1 ∷ []) $ drop ! $ move ! (1 ∷ []) $ drop ! $ move ! (1 ∷ []) $ drop ! $ move ! (1 ∷ []) $ drop ! $
    -- [what it has of the cell; the token; its way back; the pointer; what is beside it; the way back]
    move ! (0 ∷ 3 ∷ 4 ∷ []) $ rewrite ! 1 (λ (at : Ptr). ‵ (fat full_share ty_ptr (l 2) 0 (ptr_val at))) e refl $
    lends_here ! tt (l 2) (α ∷ κ) bits $
    let s : Bor Lent = record { ref_ptr = (l 2, 0); now = x } in
    let G = triple_of 𝓛 g.signature (g.spec 𝓛 𝓜.mem 𝓡.returns) in
    let z : G.Ghost = (((α ∷ κ, tt), (r, tt), tt, (s, tt), (shr_vals s, tt)), tt) in
    feq_i ! _ (shr_vals s) _ refl $ fjoin ! $ nothing ! $ move ! (1 ∷ 0 ∷ []) $ join ! $ nothing ! $ move ! (3 ∷ 0 ∷ []) $ join ! $ join ! $
    nothing ! $ move ! (1 ∷ 0 ∷ []) $ use2 𝓛 (raw (G.pre z)) (id⊢ 𝓤 _) $
    calls_at ! (framed 𝓤 H 𝓜 𝓣) G (met 𝓤 𝓛 𝓜 𝓡 (code.calls-task_exports::lent::bring_woken 𝓡.env wired)) z
    (and_then ! (get ! refl) (no_more !)) (λ v.
    use1 𝓛 (later (some (λ (b : Brings). ((‵ (flft (α ∷ κ) r) ⊛ ‵ ftrue) ⊛ ‵ (Out.own_val b (v ∷ []))) ⊛ raw (ensured 𝓛 g.ended (g.clauses 𝓛 𝓜.mem 𝓡.returns) (α ∷ κ, tt) (s, tt) tt b)))) (id⊢ 𝓤 _) $
    await ! tt $ pick ! (λ b. split ! $ move ! (1 ∷ []) $
    use1 𝓛 (raw (fact 𝓤 (Says x b))) (ex_e 𝓤 _ (λ ws. snd∗ 𝓤 (sem 𝓛 (lasts g.ended (α ∷ κ, tt) (s, tt) ws)) (fact 𝓤 (Says x b)))) $ heard ! _ (λ says_so. split ! $ split ! $
    -- [the token; nothing; the result; the rights to the place; the token's way back; the way back]
    move ! (2 ∷ []) $ peeks ! Out (Is Out) (shows 𝓛 Out) b (v ∷ []) (λ typed. lands_as ! refl refl ((laws.lawful 𝓛).typed b _ typed).0 $
    move ! (1 ∷ 4 ∷ []) $ use2 𝓛 (‵ (flft (α ∷ []) full_share) ⊛ ‵ (flft κ q)) (apply∗ 𝓤 (𝓛.A.lft (α ∷ κ) r) (sep 𝓤 (𝓛.A.lft (α ∷ []) full_share) (𝓛.A.lft κ q))) $ split ! $
    lft_end ! tt $ use1 𝓛 (‵ (fdead (α ∷ κ))) (𝓛.lfts.dead-incl (α ∷ κ) (α ∷ []) (meet_⊑_left (α ∷ []) κ)) $
    -- [the call's lifetime is over; the token; the result; nothing; the rights to the place; the way back]
    move ! (0 ∷ 4 ∷ []) $ use2 𝓛 (later (‵ (fat full_share ty_ptr (l 2) 0 (ptr_val bits)) ⊛ beside 𝓛 (l 2))) (comes_back 𝓛 (l 2) (α ∷ κ) bits) $ await ! tt $ split ! $
    move ! (1 ∷ 0 ∷ []) $ use2 𝓛 (‵ (froom lent (l 2) 0)) (whole 𝓛 (l 2) (ptr_val bits)) $
    move ! (0 ∷ 4 ∷ []) $ use2 𝓛 (‵ (froom ty_ptr (l 2) 0)) (apply∗ 𝓤 (H.room lent (l 2) 0) (H.room ty_ptr (l 2) 0)) $ give_at ! 2 $
    -- [the token; the result; nothing]
    returns ! (look_at ! 0 refl) $ free_all ! refl $
    suffices ! _ (ends_at 𝓛 f.ended stayed c y v b (tt, tt) (tt, tt)) $ keep ! (1 ∷ 0 ∷ []) $
    nothing ! $ nothing ! $ join ! $ nothing ! $ group ! 3 $ frame ! $ says ! says_so $ done !))))))))
