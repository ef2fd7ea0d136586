-- `first_mut` lends the first slot, and the seat follows it.
use Rattle.counted_block.proofs.Names.{◌≡◌, ℕ, ◌+◌, List, [], ◌∷◌, sym, refl, ap, named, dcons, dnil, Val, vptr, inst_fn, SProp, emp, Lft, Fml, ftrue, flft, sem, ‵, raw}
use Rattle.counted_block.proofs.Names.{◌⊛◌, given, some, later, await, at_ret, ◌$◌, ◌∵◌, !, qed, by, move, keep, drop, split, split3, join, fsplit, fsplit3, fjoin, fjoin3, no, learn}
use Rattle.counted_block.proofs.Names.{use0, use1, use2, rewrite, feq_i, stop, hop, fld, addr, of_opd, first, blocks, exec, returns, enter, alloc_all, pass_all, free_all, look_at, get, sets}
use Rattle.counted_block.proofs.Names.{through, env, sub, whole, look_in, tables, fact, fact_i, yes, group, Share, RattleType, owns, types_at, plain, nothing, param, bounded, RefOf, shr_vals}
use Rattle.counted_block.proofs.Names.{shr_Tells, mut_vals, mut_Tells, Stays, stay_dropped, walk_of, Goes-dropped, proved, leaves, fbor, fobs, ent, sep, all, all_e, apply∗, pick, done, sets_last}
use Rattle.counted_block.proofs.Names.{Body, RefMutOf, follows, mem, part_at, part_out, Goes-spent_ref, full_share, tail, Me, rest, life, hands_out, First, Second, Place, at_first, BlockId}
use Rattle.counted_block.proofs.Names.{first_body, tracked, seat_owns, seat_with, tokens, holding, Swapped, Types, seven, MarkerData, share_kind, lent_self, opens_self, closes_self, place}
use denote.Struct.OwningLaws.{part_in}
use Rattle.counted_block.specs.contracts.share.Share as share
use Rattle.counted_block.specs.contracts.seat.Seat as seat
use Rattle.counted_block.specs.contracts.seat.Seat.first_mut as promised
use Rattle.counted_block.proofs.seat.Seat.first_mut.Code as code

-- what lies in a first slot, or w
abbrev first_of : {S W : Type 0} → S → Place S W → S
first_of w (First x) = x
first_of w (Second y) = w

pub first_mut_spec : {M : Type 1} → Rattle.counted_block.proofs.seat.Seat.first_mut.Statement.statement M
first_mut_spec 𝓤 𝓛 𝓜 𝓡 wired S₀ W₀ V₀ K₀ Y₀ T₀ A₀ _ _ _ _ _ _ _ g d h dh dd _ _ _ =
    let H = 𝓛.H in let machine = tables 𝓤 H 𝓜 𝓡 𝓡.env in let S : RattleType = param 0 S₀ in let W : RattleType = param 1 W₀ in let V = param 2 V₀ in let K = param 3 K₀ in
    let Y = param 4 Y₀ in let R : RattleType = param 5 T₀ in let A = param 6 A₀ in let promise = promised.ended S₀ W₀ V₀ K₀ Y₀ T₀ A₀ g d h dh dd in
    let claims = promised.clauses S₀ W₀ V₀ K₀ Y₀ T₀ A₀ g d h dh dd 𝓛 𝓜.mem 𝓡.returns in let types : Types seven = (S₀, (W₀, (V₀, (K₀, (Y₀, (T₀, (A₀, tt))))))) in
    let at_types = bounded seven types (dcons d (dcons dh (dcons dd dnil))) in let routine = inst_fn at_types code.function in let OwnRow : RattleType = share.the_row S W V K Y R A g h in
    let Sr : RattleType = seat.the_row S W V in let I = share_kind S W V K Y R A g h in let other = RefOf (0 ∷ []) tt (plain (λ _. OwnRow)) (λ _. tt) in let n : ℕ = 0 in
    let staying : Stays promise.signature.params promise.kept = (stay_dropped (RefMutOf (0 ∷ []) tt (plain (λ _. Sr)) (λ _. tt)) no, (stay_dropped other yes, tt)) in
    proved 𝓛 promise staying claims 𝓜 𝓡 (Goes-spent_ref 𝓛 8 (0 ∷ []) tt (plain (λ _. Sr)), (Goes-dropped 𝓛 8 other yes (λ κs x f. refl), tt)) (promised.Key.name at_types) routine
    (code.unfolded 𝓤 H 𝓜 𝓡 wired types d dh dd) (λ κs. (mut_vals, (shr_vals, tt))) (λ κs. (mut_Tells (named 0) κs.0 Sr, (shr_Tells (named 0) κs.0 OwnRow, tt))) (λ κs qs bounds a gh
    are. let self_block : ℕ = a.1.0.ref_ptr.0 in let self_offset : ℕ = a.1.0.ref_ptr.1 in let κ : Lft = κs.0 in let q : Share = qs.0 in let s : OwnRow.Denot = a.1.0.now in
    let x : R.Denot = s.value in let k = h.dealloc_token s.heap in let z : BlockId = s.id in let α : Lft = life z in let seat_block : ℕ = a.0.ref_ptr.0 in let seat_offset : ℕ = a.0.ref_ptr.1 in
    let γ : ℕ = a.0.ghost_name in let t : Sr.Denot = a.0.now in let id : ℕ = t.id in let v : Me (Place S.Denot W.Denot) V.Denot = t.me in let more : List (ℕ × Place S.Denot W.Denot) = rest
    v.1 in let pb : ℕ = z.block in let e : ℕ = z.offset + at_first S in let δ : ℕ = z.first in let F : S.Denot → Sr.Denot = seat_with t in
    let Mark : Fml = part_at MarkerData full_share (tt, tt) seat_block seat_offset in let Back : Place S.Denot W.Denot → SProp 𝓤 = Swapped 𝓛 S W z V.coded.code id v.0 n more in
    let Rest : SProp 𝓤 = sep 𝓤 (all 𝓤 Back) (sem 𝓛 Mark) in let In : Fml = first_body S W z in let start : (walk_of 𝓛 promise staying claims).Ghost =
    ((κs, qs, bounds, a, (vptr seat_block seat_offset ∷ [], (vptr self_block self_offset ∷ [], tt))), gh) in let returned : Val → SProp 𝓤 = (walk_of 𝓛 promise staying claims).post start
    in let Beside : Fml = tokens 7 κs.1 qs.1 in qed 𝓛 (((‵ (flft κ q) ⊛ ‵ Beside) ⊛ ‵ (owns (types_at promise.signature.params κs) a start.0.4)) ∷ raw (fact 𝓤 _) ∷
    raw (fact 𝓤 _) ∷ raw (fact 𝓤 _) ∷ raw (fact 𝓤 _) ∷ raw (fact 𝓤 _) ∷ raw (fact 𝓤 _) ∷ raw (fact 𝓤 _) ∷ given (t.block ≡ z) (‵ ftrue) ∷
    given ((old : S.Denot) × (v.1 ≡ (n, First old) ∷ more)) (‵ ftrue) ∷ []) ∵ keep ! (8 ∷ 9 ∷ 0 ∷ []) $ learn ! (λ same. drop ! $ learn ! (λ taken. let old : S.Denot = taken.0 in
    let cut : ent 𝓤 (sem 𝓛 (part_at Sr full_share t seat_block seat_offset)) (sep 𝓤 (𝓛.A.obs δ (S.coded.code old)) (sep 𝓤 (𝓛.A.bor α In) Rest)) = qed 𝓛 (‵ (part_at Sr
    full_share t seat_block seat_offset) ∷ []) ∵ use1 𝓛 (‵ Mark ⊛ ‵ (seat_owns S W t.block V.coded.code id v)) (part_out 𝓛 (seat.the_type S W V) full_share t seat_block seat_offset)
    $ split ! $ rewrite ! 1 (λ (u : BlockId × List (ℕ × Place S.Denot W.Denot)). ‵ (seat_owns S W u.0 V.coded.code id (v.0, u.1))) (λ i. (same i, taken.1 i)) refl $ move ! (1 ∷ []) $
    use1 𝓛 (‵ (tracked S W z n (First old)) ⊛ raw (all 𝓤 Back)) (holding 𝓛 S W z V.coded.code id v.0 n (First old) more) $ split ! $ fsplit ! $ done ! in let back : (w : S.Denot) →
    ent 𝓤 (sep 𝓤 (𝓛.A.obs δ (S.coded.code w)) (sep 𝓤 (𝓛.A.bor α In) Rest)) (sem 𝓛 (part_at Sr full_share (F w) seat_block seat_offset)) = λ w. let Mine : BlockId →
    Fml = λ u. seat_owns S W u V.coded.code id (v.0, (n, First w) ∷ more) in qed 𝓛 (‵ (fobs δ (S.coded.code w)) ∷ ‵ (fbor α In) ∷ raw (all 𝓤 Back) ∷ ‵ Mark ∷ []) ∵
    fjoin ! $ move ! (1 ∷ []) $ use1 𝓛 (raw (Back (First w))) (all_e 𝓤 Back (First w)) $ move ! (1 ∷ 0 ∷ []) $ use2 𝓛 (‵ (Mine z)) (apply∗ 𝓤 (sem 𝓛 (tracked S W z n (First
    w))) (sem 𝓛 (Mine z))) $ rewrite ! 0 (λ (u : BlockId). ‵ (Mine u)) (sym same) refl $ move ! (1 ∷ 0 ∷ []) $ by ! (part_in 𝓛 (seat.the_type S W V) full_share (F w) seat_block
    seat_offset) in drop ! $ split ! $ split ! $ move ! (2 ∷ []) $ fsplit ! $ fsplit3 ! $ move ! (3 ∷ []) $ fsplit ! $ fsplit ! $ keep ! (1 ∷ 4 ∷ 5 ∷ 6 ∷ 7 ∷ []) $
    enter ! machine.C machine.Λ routine (vptr seat_block seat_offset ∷ vptr self_block self_offset ∷ []) returned $ alloc_all ! (λ l. pass_all ! refl ((tt, tt), ((tt, tt), tt)) $
    let here = env routine.locals l in lent_self S W V K Y R A g h I ! s self_block self_offset $ fsplit ! $ fsplit ! $ move ! (1 ∷ []) $ drop ! $ move ! (1 ∷ []) $ drop ! $
    -- [the age's token, lent; the fields; the seat's value; its borrow; the token; the others]
    move ! (1 ∷ 4 ∷ []) $ opens_self S W V K Y R A g h I ! tt (place z) self_block self_offset (λ q'. first ! $ blocks ! $ sets ! (addr ! (through ! refl (fld ! refl (hop ! (look_in ! 0 (sub !
    0 refl (whole !))) (fld ! refl (stop !)))))) refl (tt, tt) $ closes_self S W V K Y R A g h I ! tt q' (place z) self_block self_offset $ sets_last ! (addr ! (through ! refl (stop !))) refl
    (tt, tt) $ exec ! machine.C machine.Λ here (tail routine.body) (at_ret here returned) $ sets ! (of_opd ! (get ! refl)) refl (tt, tt) $
    -- [the token; the fields; the age's token, lent; the seat's value; its borrow; the others]
    move ! (2 ∷ 3 ∷ 4 ∷ 0 ∷ []) $ group ! 4 $ use1 𝓛 (later (some (λ (γ' : ℕ). ‵ (fobs γ' (S.coded.code old)) ⊛ ‵ (fbor κ (Body (mem S) pb e γ')) ⊛ ‵ (flft κ q) ⊛
    ‵ (follows Sr S γ γ' F)))) (hands_out 𝓛 (mem Sr) (mem S) F (λ w u same. ap (λ (r : Sr.Denot). first_of w (lib.ListN.get_or r.me.1 0 (n, First w)).1) same) seat_block seat_offset pb e γ
    α δ κ Rest back q t old cut) $ await ! tt $ pick ! (λ γ'. split3 ! $ let val : Val = vptr pb e in let Told : Type 0 = v.1 ≡ (n, First old) ∷ more in feq_i ! (List Val) (val ∷
    []) (val ∷ []) refl $ fjoin3 ! $ move ! (1 ∷ []) $ split ! $ move ! (0 ∷ 4 ∷ []) $ join ! $ use0 𝓛 (raw (fact 𝓤 Told)) (fact_i 𝓤 Told (emp 𝓤) taken.1) $ move ! (2 ∷ 0 ∷
    []) $ join ! $ nothing ! $ nothing ! $ fjoin ! $ nothing ! $ fjoin ! $ returns ! (look_at ! 0 refl) $ free_all ! refl $ keep ! (2 ∷ 0 ∷ 3 ∷ 1 ∷ []) $
    by ! (leaves 𝓛 promise staying claims start val (record { ref_ptr = (pb, e); ghost_name = γ'; now = old }) (tt, (tt, tt)) (tt, (tt, tt)))))))))
