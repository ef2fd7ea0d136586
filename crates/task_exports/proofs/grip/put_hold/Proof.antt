-- `put_hold` writes into room, which the place then owns as what lies there.
use Rattle.task_exports.proofs.Walks.{ !, Bool, Goes-blank, Goes-ref, Is, List, MutRef, Ptr, RattleType, Stays, Ty, Val, [], after, alloc_all, ap, assigns_last, at_ret, blocks, cell_at, closes, done, ends_at, enter, env, exec, fact, false, feq_i, first, fjoin, fld, flft, frame, free_all, froom, fsplit, fsplit3, ftrue, full_share, get, group, heard, id⊢, in_a_block, init, join, keep, lies_at, load, lone, look_at, look_in, move, mut_Tells, mut_vals, named, nothing, of_opd, opens, part_at, part_in, pass_all, peeks, plain, proved, qed, raw, refl, rest, returns, rewrite, room_at, says, sets, shows, split, stay_dropped, stay_ref, stop, sub, suffices, sym, tables, through, true, unit_lit, use1, use2, vunit, walk_of, whole, yes, ‵, ◌$◌, ◌∙◌, ◌∵◌, ◌∷◌, ◌≡◌, ◌⊛◌}
use Rattle.task_exports.specs.Places.{grip_if}
use Rattle.task_exports.specs.contracts.hand.Grip as lying
use Rattle.task_exports.proofs.hand.Grip.TheLaws.{the_row_laws as lying_laws, lowers as lying_lowers}
use Rattle.task_exports.specs.contracts.grip.Hold.{the_row as Row}
use Rattle.task_exports.proofs.grip.Hold.TheLaws.{lowers}
use Rattle.task_exports.specs.contracts.grip.put_hold as contract
use Rattle.task_exports.proofs.grip.put_hold.Statement.{statement}
use Rattle.task_exports.proofs.grip.put_hold.Code as code

abbrev Lying : RattleType
Lying = lying.the_row

abbrev word_type : Ty
word_type = lone Lying.mir

abbrev kept : Stays contract.ended.signature.params contract.ended.kept
kept = (stay_ref (0 ∷ []) tt (plain (λ _. Row)), (stay_dropped (plain (λ _. Lying)) yes, tt))

pub put_hold_spec : {M : Type 1} → statement M
put_hold_spec 𝓤 𝓛 𝓜 𝓡 wired =
    let claims = contract.clauses 𝓛 𝓜.mem 𝓡.returns in let machine = tables 𝓤 𝓛.H 𝓜 𝓡 𝓡.env in let W = walk_of 𝓛 contract.ended kept claims in
    proved 𝓛 contract.ended kept claims 𝓜 𝓡 (Goes-ref 𝓛 1 0 tt (plain (λ _. Row)), (Goes-blank 𝓛 1 (plain (λ _. Lying)) yes (λ κs x w. tt), tt))
    contract.Key.name code.function (code.unfolded 𝓤 𝓛.H 𝓜 𝓡 wired)
    (λ κs. (mut_vals, ((λ x. lying_lowers.lowered x ∷ []), tt))) (λ κs. (mut_Tells (named 0) κs.0 Row, (lying_lowers.val_is, tt))) (λ κs qs bounds a _ are.
    let place = a.0.now in let its_block = a.0.ref_ptr.0 in let its_offset = a.0.ref_ptr.1 in let bits = mut_vals a.0 in
    let x = a.1.0 in let v = lying_lowers.lowered x in let filled = record place { grip = x; there = true } in
    let start : W.Ghost = ((κs, qs, bounds, a, (bits, (v ∷ [], tt))), tt) in
    qed 𝓛 (((‵ (flft κs.0 qs.0) ⊛ ‵ ftrue) ⊛ ‵ ((MutRef (named 0) κs.0 Row).own_val a.0 bits) ⊛ ‵ (Lying.own_val x (v ∷ [])) ⊛ ‵ ftrue) ∷ raw (fact 𝓤 (place.there ≡ false)) ∷ []) ∵
    move ! (1 ∷ []) $ heard ! (place.there ≡ false) (λ is_room.
    split ! $ split ! $ move ! (2 ∷ []) $ split ! $ move ! (1 ∷ []) $ split ! $ peeks ! Lying (Is Lying) (shows 𝓛 Lying) x (v ∷ []) (λ x_is.
    let typed = ((lying_laws.lawful 𝓛).typed x (v ∷ []) x_is).0 in
    keep ! (2 ∷ 3 ∷ 0 ∷ []) $
    enter ! _ _ _ _ _ $ alloc_all ! (λ l. pass_all ! refl ((tt, tt), (typed, tt)) $
    -- [the reference, in three parts; its token; the value]: what the place owns comes to the front
    fsplit3 ! $ move ! (1 ∷ 2 ∷ 3 ∷ []) $ opens ! tt Row its_block its_offset (λ us.
    move ! (1 ∷ []) $ peeks ! Row _ (shows 𝓛 Row) place us (λ place_is. fsplit ! $ move ! (1 ∷ []) $
    rewrite ! 0 (λ (t : Bool). ‵ (grip_if t place.at place.grip)) is_room refl $
    in_a_block ! place.at (λ p. room_at Lying p) (id⊢ 𝓤 _) (λ b o at_block.
    use1 𝓛 (‵ (froom word_type b o)) (id⊢ 𝓤 _) $
    let holds = lowers.val_is place us place_is ∙ ap (λ (p : Ptr). lowers.lowered (record place { at = p }) ∷ []) at_block in
    let Cell = λ (ws : List Val). ‵ (cell_at full_share Row.mir ws its_block its_offset) in
    rewrite ! 2 Cell holds refl $
    -- [the room; what the fields own; the place's cell; the open borrow, in three parts; the reference's first part; the value]
    first ! $ blocks ! $
    sets ! (of_opd ! (load ! (through ! refl (fld ! refl (stop !))) (look_in ! 2 (sub ! 0 refl (whole !))))) refl (tt, tt) $
    sets ! (of_opd ! (get ! refl)) refl (tt, tt) $
    sets ! (of_opd ! (get ! refl)) refl typed $
    assigns_last ! (of_opd ! (get ! refl)) (through ! refl (stop !)) (init ! 0 refl typed) $
    exec ! machine.C machine.Λ (env code.Mir.locals l) (after 1 (code.function).body) (at_ret _ (W.post start)) $
    sets ! (of_opd ! (unit_lit !)) refl (tt, tt) $
    -- the cell and the value are what lies there, and the place owns that
    move ! (0 ∷ 7 ∷ []) $ use2 𝓛 (‵ (part_at Lying full_share x b o)) (part_in 𝓛 Lying refl full_share x b o v) $ rewrite ! 0 (λ (p : Ptr). ‵ (lies_at Lying full_share p x)) (sym at_block) refl $
    rewrite ! 2 Cell (sym holds) refl $ move ! (1 ∷ []) $ fjoin ! $ move ! (1 ∷ []) $
    closes ! tt Row filled us its_block its_offset $
    returns ! (look_at ! 0 refl) $ free_all ! refl $ move ! (3 ∷ []) $
    suffices ! _ (ends_at 𝓛 contract.ended kept claims start vunit tt (filled, (rest (Lying.exit yes) x, tt)) (tt, (tt, tt))) $ says ! (refl, refl) $
    group ! 3 $ nothing ! $ nothing ! $ join ! $ move ! (1 ∷ 0 ∷ []) $ join ! $ nothing ! $ move ! (2 ∷ 0 ∷ []) $ join ! $ frame ! $ frame ! $
    feq_i ! _ (vunit ∷ []) _ refl $ done !)))))))
