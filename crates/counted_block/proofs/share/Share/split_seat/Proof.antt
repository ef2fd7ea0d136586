-- `split_seat` cuts a view in two beside the machine.
use Rattle.counted_block.proofs.Names.{◌≡◌, ℕ, List, [], ◌∷◌, sym, refl, named, dcons, dnil, Val, vptr, inst_fn, SProp, emp, Lft, Fml, ftrue, fex, flft, finv, ‵, raw, given}
use Rattle.counted_block.proofs.Names.{◌⊛◌, later, await, ◌$◌, ◌∵◌, !, qed, by, move, keep, drop, split, split3, join, fsplit, fsplit3, fjoin, fjoin3, fpick, learn, use0, use1, use2}
use Rattle.counted_block.proofs.Names.{rewrite, feq_i, no_more, and_then, returns, enter, alloc_all, pass_all, free_all, look_at, get, sets, agg, tables, fact, fact_i, yes, RattleType, owns, plain}
use Rattle.counted_block.proofs.Names.{types_at, nothing, opens, closes, param, bounded, RefOf, shr_vals, shr_Tells, mut_vals, mut_Tells, Stays, stay_dropped, stay_ref, Me, walk_of, Goes-dropped}
use Rattle.counted_block.proofs.Names.{Goes-ref, proved, leaves, Splits, Place, BlockId, seat_owns, block, content, tokens, marker_val, kept_inv, Types, eight, MarkerData, marker_made, share_kind}
use Rattle.counted_block.proofs.Names.{lent_self}
use Rattle.counted_block.specs.contracts.share.Share as share
use Rattle.counted_block.specs.contracts.seat.Seat as seat
use Rattle.counted_block.proofs.Moving as moving
use Rattle.counted_block.specs.contracts.share.Share.split_seat as promised
use Rattle.counted_block.proofs.share.Share.split_seat.Code as code

pub split_seat_spec : {M : Type 1} → Rattle.counted_block.proofs.share.Share.split_seat.Statement.statement M
split_seat_spec 𝓤 𝓛 𝓜 𝓡 wired S₀ W₀ V₀ K₀ Y₀ T₀ A₀ M₀ _ _ _ _ _ _ _ _ g d h dh dd m dm _ _ _ _ =
    let H = 𝓛.H in let machine = tables 𝓤 H 𝓜 𝓡 𝓡.env in let S : RattleType = param 0 S₀ in let W : RattleType = param 1 W₀ in let V = param 2 V₀ in let K = param 3 K₀ in
    let Y = param 4 Y₀ in let R : RattleType = param 5 T₀ in let A = param 6 A₀ in let promise = promised.ended S₀ W₀ V₀ K₀ Y₀ T₀ A₀ M₀ g d h dh dd m dm in
    let claims = promised.clauses S₀ W₀ V₀ K₀ Y₀ T₀ A₀ M₀ g d h dh dd m dm 𝓛 𝓜.mem 𝓡.returns in let types : Types eight =
    (S₀, (W₀, (V₀, (K₀, (Y₀, (T₀, (A₀, (M₀, tt)))))))) in let at_types = bounded eight types (dcons d (dcons dh (dcons dd (dcons dm dnil)))) in
    let routine = inst_fn at_types code.function in let OwnRow : RattleType = share.the_row S W V K Y R A g h in let SeatRow : RattleType = seat.the_row S W V in
    let I = share_kind S W V K Y R A g h in let self = RefOf (0 ∷ []) tt (plain (λ _. OwnRow)) (λ _. tt) in let by_mut = plain (λ _. SeatRow) in
    let staying : Stays promise.signature.params promise.kept = (stay_dropped self yes, (stay_ref (1 ∷ []) tt by_mut, tt)) in proved 𝓛 promise staying claims 𝓜 𝓡
    (Goes-dropped 𝓛 10 self yes (λ κs x f. refl), (Goes-ref 𝓛 10 1 tt by_mut, tt)) (promised.Key.name at_types) routine (code.unfolded 𝓤 H 𝓜 𝓡 wired types d dh dd dm) (λ κs.
    (shr_vals, (mut_vals, tt))) (λ κs. (shr_Tells (named 0) κs.0 OwnRow, (mut_Tells (named 1) κs.1.0 SeatRow, tt))) (λ κs qs bounds a gh are. let self_block : ℕ = a.0.ref_ptr.0 in
    let self_offset : ℕ = a.0.ref_ptr.1 in let κ : Lft = κs.0 in let s : OwnRow.Denot = a.0.now in let x : R.Denot = s.value in let k = h.dealloc_token s.heap in let z : BlockId = s.id in
    let seat_block : ℕ = a.1.0.ref_ptr.0 in let seat_offset : ℕ = a.1.0.ref_ptr.1 in let t : SeatRow.Denot = a.1.0.now in let id : ℕ = t.id in
    let v : Me (Place S.Denot W.Denot) V.Denot = t.me in let Beside : Fml = tokens 8 κs.1.1 qs.1.1 in let holds = g.holds s.key in let P : Fml = content S W R k z x in
    let J : Fml = block S W V.coded.code holds g.out P z in let start : (walk_of 𝓛 promise staying claims).Ghost =
    ((κs, qs, bounds, a, (vptr self_block self_offset ∷ [], (vptr seat_block seat_offset ∷ [], tt))), gh) in let returned : Val → SProp 𝓤 = (walk_of 𝓛 promise staying claims).post start
    in let lv : V.Denot = m.left v.0 in let rv : V.Denot = m.right v.0 in qed 𝓛 (((‵ (flft κ qs.0) ⊛ ‵ (flft κs.1.0 qs.1.0) ⊛ ‵ Beside) ⊛
    ‵ (owns (types_at promise.signature.params κs) a start.0.4)) ∷ raw (fact 𝓤 _) ∷ raw (fact 𝓤 _) ∷ raw (fact 𝓤 _) ∷ raw (fact 𝓤 _) ∷ raw (fact 𝓤 _) ∷
    raw (fact 𝓤 _) ∷ raw (fact 𝓤 _) ∷ raw (fact 𝓤 _) ∷ given (t.block ≡ z) (‵ ftrue) ∷ given (Splits holds id v.0 lv rv) (‵ ftrue) ∷ []) ∵ keep ! (9 ∷ 10 ∷ 0 ∷ []) $
    learn ! (λ same. drop ! $ learn ! (λ allows. drop ! $ split ! $ split3 ! $ move ! (3 ∷ []) $ fsplit3 ! $ fsplit ! $ move ! (2 ∷ []) $ fsplit3 ! $ keep ! (4 ∷ 6 ∷ 1 ∷ 2 ∷ 7 ∷
    8 ∷ []) $ enter ! machine.C machine.Λ routine (vptr self_block self_offset ∷ vptr seat_block seat_offset ∷ []) returned $ alloc_all ! (λ l. pass_all ! refl ((tt, tt), ((tt, tt), tt)) $
    lent_self S W V K Y R A g h I ! s self_block self_offset $ fsplit ! $ drop ! $ fsplit ! $ use1 𝓛 (‵ (finv J)) (kept_inv S W V.coded.code holds g.out P z 𝓛) $ move ! (1 ∷ []) $ drop ! $
    move ! (1 ∷ []) $ drop ! $
    -- [the invariant; the token; the seat, in two; its token; the others]
    let Two : ℕ → Fml = moving.both 𝓛 S W V.coded holds g.out P z id v lv rv allows in move ! (2 ∷ 3 ∷ 4 ∷ []) $ opens ! tt SeatRow seat_block seat_offset (λ bits. move ! (1 ∷ []) $
    fsplit ! $ rewrite ! 1 (λ (w : BlockId). ‵ (seat_owns S W w V.coded.code id v)) same refl $ move ! (6 ∷ 1 ∷ []) $ use2 𝓛 (later (‵ (fex ℕ Two))) (moving.splits 𝓛 S W V.coded
    holds g.out P z id v lv rv allows) $ await ! tt $ fpick ! (λ j. fsplit ! $ let t' : SeatRow.Denot = record { marker = t.marker; block = z; id = id; me = (lv, v.1) } in
    let n : SeatRow.Denot = record { marker = record {}; block = z; id = j; me = (rv, []) } in let Told : Type 0 = (z ≡ t.block) × (id ≡ id) × (t'.me ≡ t'.me) × (z ≡ t.block) × (n.me ≡
    n.me) in
    -- [the seat; the new seat; its fields, its cell and three more; the token; the others]
    move ! (2 ∷ 0 ∷ []) $ fjoin ! $ move ! (2 ∷ 0 ∷ 3 ∷ 4 ∷ 5 ∷ []) $ closes ! tt SeatRow t' bits seat_block seat_offset $ feq_i ! (List Val) (vptr seat_block seat_offset ∷
    []) (vptr seat_block seat_offset ∷ []) refl $ fjoin3 ! $ nothing ! $ move ! (1 ∷ 0 ∷ []) $ fjoin ! $ nothing ! $ fjoin ! $ move ! (1 ∷ 4 ∷ []) $ join ! $ move ! (3 ∷ 0 ∷ []) $
    join ! $ move ! (2 ∷ []) $ use0 𝓛 (‵ (MarkerData.own_val (tt, tt) (marker_val ∷ []))) (marker_made 𝓛) $ fjoin ! $ use0 𝓛 (raw (fact 𝓤 Told)) (fact_i 𝓤 Told (emp 𝓤)
    (sym same, refl, refl, sym same, refl)) $ sets ! (agg ! (no_more !)) refl (tt, tt) $ sets ! (agg ! (and_then ! (get ! refl) (no_more !))) refl (tt, (tt, tt)) $ returns ! (look_at ! 0 refl) $
    free_all ! refl $ keep ! (2 ∷ 3 ∷ 1 ∷ 0 ∷ []) $ by ! (leaves 𝓛 promise staying claims start marker_val n (tt, (t', tt)) (tt, (tt, tt)))))))))
