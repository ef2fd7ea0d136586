-- `load_new_seat` is a load that makes a new seat.
use Rattle.counted_block.proofs.Names.{◌≡◌, ℕ, ◌+◌, ◌^◌, List, [], ◌∷◌, ◌++◌, refl, lit<, w64, named, dcons, dnil, Val, vint, vptr, vstruct, vcons, vnil, of_list, emp}
use Rattle.counted_block.proofs.Names.{inst_fn, SProp, Lft, Fml, ftrue, fsep, feq, flft, finv, ‵, raw, ◌⊛◌, given, mean, at_ret, ◌$◌, ◌∵◌, !, qed, by, move, keep, drop, via, split}
use Rattle.counted_block.proofs.Names.{join, fsplit, fjoin, fpick, fpack, learn, use0, use1, use2, feq_i, flt_i, stop, hop, fld, addr, lit, of_opd, no_more, and_then, first, blocks, exec}
use Rattle.counted_block.proofs.Names.{Calls-last, returns, enter, alloc_all, pass_all, free_all, look_at, get, through, sets, lands_last, env, agg, sub, whole, look_in, tables, fact, fact_i, yes}
use Rattle.counted_block.proofs.Names.{RattleType, Valss, owns, types_at, plain, block_ptr, nothing, u64, param, bounded, fm, RefOf, shr_vals, shr_Tells, shr_bor-open, obor_close, Stays}
use Rattle.counted_block.proofs.Names.{stay_dropped, walk_of, Goes-dropped, after, proved, leaves, seq_cst, found, finds, loads, step, Enters, BlockId, block, content, tokens, marker_val, kept_inv}
use Rattle.counted_block.proofs.Names.{Types, eight, MarkerData, marker_made, halve, of_shares, ◌<◌, share_kind, lent_self, opens_self, closes_self, place}
use mathlib.Core.Option as maybe
use Rattle.counted_block.specs.contracts.share.Share as share
use Rattle.counted_block.specs.contracts.seat.Seat as seat
use Rattle.counted_block.proofs.Moving as moving
use Rattle.counted_block.specs.contracts.share.Share.load_new_seat as promised
use Rattle.counted_block.proofs.share.Share.load_new_seat.Code as code

pub load_new_seat_spec : {M : Type 1} → Rattle.counted_block.proofs.share.Share.load_new_seat.Statement.statement M
load_new_seat_spec 𝓤 𝓛 𝓜 𝓡 wired S₀ W₀ V₀ K₀ Y₀ T₀ A₀ M₀ _ _ _ _ _ _ _ _ g d h dh dd m dm _ _ _ _ =
    let H = 𝓛.H in let machine = tables 𝓤 H 𝓜 𝓡 𝓡.env in let S : RattleType = param 0 S₀ in let W : RattleType = param 1 W₀ in let V = param 2 V₀ in let K = param 3 K₀ in
    let Y = param 4 Y₀ in let R : RattleType = param 5 T₀ in let A = param 6 A₀ in let promise = promised.ended S₀ W₀ V₀ K₀ Y₀ T₀ A₀ M₀ g d h dh dd m dm in
    let claims = promised.clauses S₀ W₀ V₀ K₀ Y₀ T₀ A₀ M₀ g d h dh dd m dm 𝓛 𝓜.mem 𝓡.returns in let types : Types eight =
    (S₀, (W₀, (V₀, (K₀, (Y₀, (T₀, (A₀, (M₀, tt)))))))) in let at_types = bounded eight types (dcons d (dcons dh (dcons dd (dcons dm dnil)))) in
    let routine = inst_fn at_types code.function in let OwnRow : RattleType = share.the_row S W V K Y R A g h in let SeatRow : RattleType = seat.the_row S W V in
    let I = share_kind S W V K Y R A g h in let self = RefOf (0 ∷ []) tt (plain (λ _. OwnRow)) (λ _. tt) in let staying : Stays promise.signature.params promise.kept =
    (stay_dropped self yes, tt) in proved 𝓛 promise staying claims 𝓜 𝓡 (Goes-dropped 𝓛 9 self yes (λ κs x f. refl), tt) (promised.Key.name at_types) routine (code.unfolded 𝓤 H 𝓜
    𝓡 wired types d dh dd dm) (λ κs. (shr_vals, tt)) (λ κs. (shr_Tells (named 0) κs.0 OwnRow, tt)) (λ κs qs bounds a gh are. let self_block : ℕ = a.0.ref_ptr.0 in
    let self_offset : ℕ = a.0.ref_ptr.1 in let κ : Lft = κs.0 in let s : OwnRow.Denot = a.0.now in let x : R.Denot = s.value in let k = h.dealloc_token s.heap in let z : BlockId = s.id in
    let pb : ℕ = z.block in let e : ℕ = z.offset + 0 in let Beside : Fml = tokens 8 κs.1 qs.1 in let holds = g.holds s.key in let P : Fml = content S W R k z x in
    let J : Fml = block S W V.coded.code holds g.out P z in let start : (walk_of 𝓛 promise staying claims).Ghost = ((κs, qs, bounds, a, (vptr self_block self_offset ∷ [], tt)), gh) in
    let returned : Val → SProp 𝓤 = (walk_of 𝓛 promise staying claims).post start in let then : ℕ → V.Denot → Type 0 = λ n w. m.then s.key (step 2 0 0 0 maybe.none) (g.first s.key, [])
    n (w, []) in qed 𝓛 (((‵ (flft κ qs.0) ⊛ ‵ Beside) ⊛ ‵ (owns (types_at promise.signature.params κs) a start.0.4)) ∷ raw (fact 𝓤 _) ∷ raw (fact 𝓤 _) ∷
    raw (fact 𝓤 _) ∷ raw (fact 𝓤 _) ∷ raw (fact 𝓤 _) ∷ raw (fact 𝓤 _) ∷ raw (fact 𝓤 _) ∷ raw (fact 𝓤 _) ∷ given (Enters holds 2 0 then) (‵ ftrue) ∷ []) ∵
    keep ! (9 ∷ 0 ∷ []) $ learn ! (λ asked. drop ! $ split ! $ split ! $ move ! (2 ∷ []) $ fsplit ! $ fsplit ! $ keep ! (1 ∷ 3 ∷ 4 ∷ []) $
    enter ! machine.C machine.Λ routine (vptr self_block self_offset ∷ []) returned $ alloc_all ! (λ l. pass_all ! refl ((tt, tt), tt) $ let here = env routine.locals l in
    lent_self S W V K Y R A g h I ! s self_block self_offset $ fsplit ! $ fsplit ! $ move ! (2 ∷ []) $ fsplit ! $ use1 𝓛 (‵ (finv J)) (kept_inv S W V.coded.code holds g.out P z 𝓛) $
    move ! (1 ∷ []) $ drop ! $ move ! (1 ∷ []) $ drop ! $ move ! (2 ∷ 3 ∷ 1 ∷ []) $ opens_self S W V K Y R A g h I ! tt (place z) self_block self_offset (λ q. first ! $ blocks ! $
    sets ! (addr ! (through ! refl (fld ! refl (hop ! (look_in ! 0 (sub ! 0 refl (whole !))) (fld ! refl (stop !)))))) refl (tt, tt) $ closes_self S W V K Y R A g h I ! tt q (place z) self_block
    self_offset $
    -- [the token; the fields; the grips, lent; the invariant; the others]
    move ! (2 ∷ 0 ∷ []) $ shr_bor-open ! tt (halve 𝓛 z.grips of_shares) (λ r. let out : ℕ → Fml = moving.seated_after 𝓛 S W V.coded holds g.out P z r then asked in move ! (3 ∷ 1 ∷
    []) $ use2 𝓛 (raw (machine.C _ (vptr pb e ∷ seq_cst ∷ []) (λ u. mean 𝓛 (found out u)))) (via 𝓤 _ (moving.enters 𝓛 S W V.coded holds g.out P z r then asked) (loads 𝓛 𝓜 𝓡
    (code.calls-std::sync::atomic::raw::load 𝓡.env wired) (block_ptr pb e) out)) $ sets ! (agg ! (and_then ! (lit ! tt) (no_more !))) refl (tt, (record { fits = lit< tt }, tt)) $
    Calls-last ! (fm 𝓛 𝓜 𝓡) (found out) (and_then ! (get ! refl) (and_then ! (get ! refl) (no_more !))) (λ u. finds ! out (λ n fits. lands_last ! refl (tt, record { fits = fits }) $
    exec ! machine.C machine.Λ here (after 1 routine.body) (at_ret here returned) $ sets ! (of_opd ! (get ! refl)) refl (tt, record { fits = fits }) $ sets ! (agg ! (no_more !)) refl (tt, tt) $
    sets ! (agg ! (and_then ! (get ! refl) (no_more !))) refl (tt, (tt, tt)) $ sets ! (agg ! (and_then ! (get ! refl) (and_then ! (get ! refl) (no_more !)))) refl
    (tt, (record { fits = fits }, ((tt, tt), tt))) $ fsplit ! $ fsplit ! $ fpick ! (λ live. drop ! $ move ! (2 ∷ 0 ∷ []) $ obor_close ! tt $ drop ! $
    -- [the token; where the seat comes; the fields; the others]
    move ! (1 ∷ []) $ fpick ! (λ t. fsplit ! $ fpick ! (λ so. drop ! $ use0 𝓛 (‵ (MarkerData.own_val (tt, tt) (marker_val ∷ []))) (marker_made 𝓛) $ fjoin ! $ nothing ! $ move ! (1 ∷
    0 ∷ []) $ fjoin ! $ let u : Val = vstruct (vcons (vint w64 n) (vcons marker_val vnil)) in let st : SeatRow.Denot = record { marker = record {}; block = z; id = t.0; me = (t.1, []) } in
    flt_i ! n (2 ^ 64) fits $ feq_i ! (List Val) (vint w64 n ∷ []) (vint w64 n ∷ []) refl $ fjoin ! $ fjoin ! $ feq_i ! (List Val) (u ∷ []) (u ∷ []) refl $ fjoin ! $ fpack ! (Valss (u64 ∷
    SeatRow ∷ [])) (λ uss. fsep (feq (List Val) (u ∷ []) (vstruct (of_list (uss.0 ++ (uss.1.0 ++ []))) ∷ [])) (owns (u64 ∷ SeatRow ∷
    []) (n, (st, tt)) uss)) (vint w64 n ∷ [], (marker_val ∷ [], tt)) $
    -- [the result; the token; the fields; the others]
    nothing ! $ nothing ! $ fjoin ! $ move ! (2 ∷ 4 ∷ []) $ join ! $ let Told : Type 0 = (z ≡ z) × ((st.me).1 ≡ []) × then n t.1 in use0 𝓛 (raw (fact 𝓤 (0 < g.out n))) (fact_i 𝓤
    (0 < g.out n) (emp 𝓤) live) $ use0 𝓛 (raw (fact 𝓤 Told)) (fact_i 𝓤 Told (emp 𝓤) (refl, refl, so)) $ join ! $ returns ! (look_at ! 0 refl) $ free_all ! refl $ keep ! (1 ∷ 2 ∷
    3 ∷ 0 ∷ []) $ by ! (leaves 𝓛 promise staying claims start u (n, st) (tt, tt) (tt, tt))))))))))))
