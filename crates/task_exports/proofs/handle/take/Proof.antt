-- `take` reads what lies at the place, which is room from then on.
use Rattle.task_exports.proofs.Walks.{ !, Bool, Goes-ref, Is, List, MutRef, Ptr, RattleType, Stays, Ty, Val, [], after, alloc_all, ap, at_ret, blocks, cell_at, closes, done, ends_at, enter, env, exec, fact, false, fat, first, fjoin, fld, flft, frame, free_all, froom, fsplit, fsplit3, ftrue, full_share, get, group, heard, id⊢, in_a_block, join, keep, lies_at, load, lone, look, look_at, look_in, move, mut_Tells, mut_vals, named, nothing, of_opd, opens, part_out, pass_all, peeks, pick, plain, proved, qed, raw, refl, returns, rewrite, room_at, says, sets, sets_last, shows, some, split, stay_ref, stop, sub, suffices, sym, tables, through, true, use1, walk_of, whole, ‵, ◌$◌, ◌∙◌, ◌∵◌, ◌∷◌, ◌≡◌, ◌⊛◌}
use Rattle.task_exports.specs.Places.{hand_if}
use Rattle.task_exports.specs.contracts.hand.Hand as lying
use Rattle.task_exports.proofs.hand.Hand.TheLaws.{the_row_laws as lying_laws}
use Rattle.task_exports.specs.contracts.handle.Handle.{the_row as Row}
use Rattle.task_exports.proofs.handle.Handle.TheLaws.{lowers}
use Rattle.task_exports.specs.contracts.handle.take as contract
use Rattle.task_exports.proofs.handle.take.Statement.{statement}
use Rattle.task_exports.proofs.handle.take.Code as code

abbrev Lying : RattleType
Lying = lying.the_row

abbrev word_type : Ty
word_type = lone Lying.mir

abbrev kept : Stays contract.ended.signature.params contract.ended.kept
kept = (stay_ref (0 ∷ []) tt (plain (λ _. Row)), tt)

pub take_spec : {M : Type 1} → statement M
take_spec 𝓤 𝓛 𝓜 𝓡 wired =
    let claims = contract.clauses 𝓛 𝓜.mem 𝓡.returns in let machine = tables 𝓤 𝓛.H 𝓜 𝓡 𝓡.env in let W = walk_of 𝓛 contract.ended kept claims in
    proved 𝓛 contract.ended kept claims 𝓜 𝓡 (Goes-ref 𝓛 1 0 tt (plain (λ _. Row)), tt)
    contract.Key.name code.function (code.unfolded 𝓤 𝓛.H 𝓜 𝓡 wired)
    (λ κs. (mut_vals, tt)) (λ κs. (mut_Tells (named 0) κs.0 Row, tt)) (λ κs qs bounds a _ are.
    let place = a.0.now in let its_block = a.0.ref_ptr.0 in let its_offset = a.0.ref_ptr.1 in let bits = mut_vals a.0 in let x = place.hand in
    let start : W.Ghost = ((κs, qs, bounds, a, (bits, tt)), tt) in
    qed 𝓛 (((‵ (flft κs.0 qs.0) ⊛ ‵ ftrue) ⊛ ‵ ((MutRef (named 0) κs.0 Row).own_val a.0 bits) ⊛ ‵ ftrue) ∷ raw (fact 𝓤 (place.there ≡ true)) ∷ []) ∵
    move ! (1 ∷ []) $ heard ! (place.there ≡ true) (λ full.
    split ! $ split ! $ move ! (2 ∷ []) $ split ! $ keep ! (0 ∷ 2 ∷ []) $
    enter ! _ _ _ _ _ $ alloc_all ! (λ l. pass_all ! refl ((tt, tt), tt) $
    -- [the reference, in three parts; its token]: what the place owns comes to the front
    fsplit3 ! $ move ! (1 ∷ 2 ∷ 3 ∷ []) $ opens ! tt Row its_block its_offset (λ us.
    move ! (1 ∷ []) $ peeks ! Row _ (shows 𝓛 Row) place us (λ place_is. fsplit ! $ move ! (1 ∷ []) $
    rewrite ! 0 (λ (t : Bool). ‵ (hand_if t place.at x)) full refl $
    in_a_block ! place.at (λ p. lies_at Lying full_share p x) (id⊢ 𝓤 _) (λ b o at_block.
    use1 𝓛 (some (λ (v : Val). ‵ (fat full_share word_type b o v) ⊛ ‵ (Lying.own_val x (v ∷ [])))) (part_out 𝓛 Lying refl full_share x b o) $ pick ! (λ v. split ! $
    move ! (1 ∷ []) $ peeks ! Lying (Is Lying) (shows 𝓛 Lying) x (v ∷ []) (λ x_is.
    let typed = ((lying_laws.lawful 𝓛).typed x (v ∷ []) x_is).0 in
    let holds = lowers.val_is place us place_is ∙ ap (λ (p : Ptr). lowers.lowered (record place { at = p }) ∷ []) at_block in
    let Cell = λ (ws : List Val). ‵ (cell_at full_share Row.mir ws its_block its_offset) in
    rewrite ! 3 Cell holds refl $
    -- [what lies there; its cell; what the fields own; the place's cell; the open borrow, in three parts]
    first ! $ blocks ! $
    sets ! (of_opd ! (load ! (through ! refl (fld ! refl (stop !))) (look_in ! 3 (sub ! 0 refl (whole !))))) refl (tt, tt) $
    sets ! (of_opd ! (get ! refl)) refl (tt, tt) $
    sets_last ! (of_opd ! (load ! (through ! refl (stop !)) (look ! 1 refl))) refl typed $
    exec ! machine.C machine.Λ (env code.Mir.locals l) (after 1 (code.function).body) (at_ret _ (W.post start)) $
    sets ! (of_opd ! (get ! refl)) refl typed $
    -- the cell is room, and the place owns that
    move ! (1 ∷ []) $ use1 𝓛 (‵ (froom word_type b o)) (𝓛.laws.at_room word_type b o v) $ rewrite ! 0 (λ (p : Ptr). ‵ (room_at Lying p)) (sym at_block) refl $
    rewrite ! 3 Cell (sym holds) refl $ move ! (2 ∷ 0 ∷ []) $ fjoin ! $ move ! (2 ∷ 0 ∷ 3 ∷ 4 ∷ 5 ∷ []) $
    closes ! tt Row (record place { there = false }) us its_block its_offset $
    returns ! (look_at ! 0 refl) $ free_all ! refl $ move ! (4 ∷ []) $
    suffices ! _ (ends_at 𝓛 contract.ended kept claims start v x (record place { there = false }, tt) (tt, tt)) $ says ! (refl, refl) $
    group ! 3 $ nothing ! $ move ! (1 ∷ 0 ∷ []) $ join ! $ nothing ! $ move ! (2 ∷ 0 ∷ []) $ join ! $ frame ! $ frame ! $ done !))))))))
