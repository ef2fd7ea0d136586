-- `part_exchange` is one compare-exchange, by which the share may end.
use Rattle.counted_block.proofs.Names.{◌≡◌, ℕ, ◌+◌, eqb, either, List, [], ◌∷◌, sym, refl, ap, w64, named, dcons, dnil, Val, vint, vptr, vstruct, vcons, vnil, !, inst_fn, SProp}
use Rattle.counted_block.proofs.Names.{emp, Fml, ftrue, flft, finv, ‵, raw, ◌⊛◌, given, mean, at_ret, ◌$◌, ◌∵◌, qed, by, move, keep, drop, join, split, fsplit, fsplit3, fjoin}
use Rattle.counted_block.proofs.Names.{fjoin3, fpick, learn, use0, use1, use3, via, rewrite, feq_i, stop, fld, addr, of_opd, no_more, and_then, first, blocks, exec, Calls-last, returns, enter}
use Rattle.counted_block.proofs.Names.{alloc_all, pass_all, free_all, look_at, get, get_in, through, sets, is, lands_last, env, agg, sub, whole, tables, no, fact, fact_i, yes, RattleType, owns}
use Rattle.counted_block.proofs.Names.{types_at, plain, Ptr, block_ptr, ptr_val, nothing, opens, closes, u64, param, bounded, mut_vals, mut_Tells, Stays, uint_vals, uint_Tells, stay_dropped}
use Rattle.counted_block.proofs.Names.{stay_ref, walk_of, Goes-dropped, Goes-ref, after, proved, leaves, fm, found, finds, exchanges, not, Me, step, Allows, Place, BlockId, place, seat_owns, block}
use Rattle.counted_block.proofs.Names.{Less, content, kept_of, tokens, ptr_and_marker, pair_typed, in_place, kept_shows, Types, eight, pair_told, ◌<◌, located, numbered}
use mathlib.Core.Option as maybe
use Rattle.counted_block.specs.contracts.share.Share as share
use Rattle.counted_block.specs.contracts.share.MaybeShare as maybe_share
use Rattle.counted_block.specs.contracts.remains.Remains as remains
use Rattle.counted_block.specs.contracts.seat.Seat as seat
use Rattle.counted_block.proofs.Moving as moving
use Rattle.counted_block.specs.contracts.share.Share.part_exchange as promised
use Rattle.counted_block.proofs.share.Share.part_exchange.Code as code

pub part_exchange_spec : {M : Type 1} → Rattle.counted_block.proofs.share.Share.part_exchange.Statement.statement M
part_exchange_spec 𝓤 𝓛 𝓜 𝓡 wired S₀ W₀ V₀ K₀ Y₀ T₀ A₀ M₀ _ _ _ _ _ _ _ _ g d h dh dd m dm m' dm' _ _ _ _ _ =
    let H = 𝓛.H in let machine = tables 𝓤 H 𝓜 𝓡 𝓡.env in let S : RattleType = param 0 S₀ in let W : RattleType = param 1 W₀ in let V = param 2 V₀ in let K = param 3 K₀ in
    let Y = param 4 Y₀ in let R : RattleType = param 5 T₀ in let A = param 6 A₀ in let promise = promised.ended S₀ W₀ V₀ K₀ Y₀ T₀ A₀ M₀ g d h dh dd m dm m' dm' in
    let claims = promised.clauses S₀ W₀ V₀ K₀ Y₀ T₀ A₀ M₀ g d h dh dd m dm m' dm' 𝓛 𝓜.mem 𝓡.returns in let types : Types eight =
    (S₀, (W₀, (V₀, (K₀, (Y₀, (T₀, (A₀, (M₀, tt)))))))) in let at_types = bounded eight types (dcons d (dcons dh (dcons dd (dcons dm (dcons dm' dnil))))) in
    let routine = inst_fn at_types code.function in let OwnRow : RattleType = share.the_row S W V K Y R A g h in let MaybeRow : RattleType = maybe_share.the_row S W V K Y R A g h in
    let Er : RattleType = remains.the_row S W V K Y R A g h in let SeatRow : RattleType = seat.the_row S W V in let self = plain (λ _. OwnRow) in let by_mut = plain (λ _. SeatRow) in
    let number = plain (λ _. u64) in let staying : Stays promise.signature.params promise.kept =
    (stay_dropped self no, (stay_ref (0 ∷ []) tt by_mut, (stay_dropped number yes, (stay_dropped number yes, tt)))) in proved 𝓛 promise staying claims 𝓜 𝓡
    (Goes-dropped 𝓛 9 self no (λ κs x f. refl), (Goes-ref 𝓛 9 0 tt by_mut, (Goes-dropped 𝓛 9 number yes (λ κs x f. refl), (Goes-dropped 𝓛 9 number yes (λ κs x f. refl), tt))))
    (promised.Key.name at_types) routine (code.unfolded 𝓤 H 𝓜 𝓡 wired types d dh dd dm dm') (λ κs. ((λ w. ptr_and_marker w.at ∷ []), (mut_vals, (uint_vals w64, (uint_vals w64, tt)))))
    (λ κs. ((λ w vs so. pair_told w.at vs so.0), (mut_Tells (named 0) κs.0 SeatRow, (uint_Tells w64, (uint_Tells w64, tt))))) (λ κs qs bounds a gh are. let s : OwnRow.Denot = a.0 in
    let p : Ptr = s.at in let x : R.Denot = s.value in let k = h.dealloc_token s.heap in let z : BlockId = s.id in let old : ℕ = a.1.1.0 in let new : ℕ = a.1.1.1.0 in
    let seat_block : ℕ = a.1.0.ref_ptr.0 in let seat_offset : ℕ = a.1.0.ref_ptr.1 in let t : SeatRow.Denot = a.1.0.now in let id : ℕ = t.id in
    let v : Me (Place S.Denot W.Denot) V.Denot = t.me in let f : ℕ → ℕ = λ n. either (eqb n old) new n in let then : ℕ → Me (Place S.Denot W.Denot) V.Denot →
    Type 0 = m'.then s.key (step 2 0 old new maybe.none) v in let counts = m.counts (step 2 0 old new maybe.none) in let lasts = m.lasts (step 2 0 old new maybe.none) in
    let e : ℕ = z.offset + 0 in let Beside : Fml = tokens 8 κs.1 qs.1 in let pb : ℕ = z.block in let P : Fml = content S W R k z x in let holds = g.holds s.key in
    let J : Fml = block S W V.coded.code holds g.out P z in let Kp : Fml = kept_of S W R V.coded.code holds g.out k z x in let start : (walk_of 𝓛 promise staying claims).Ghost =
    ((κs, qs, bounds, a, (ptr_and_marker p ∷ [], (vptr seat_block seat_offset ∷ [], (vint w64 old ∷ [], (vint w64 new ∷ [], tt))))), gh) in let returned : Val →
    SProp 𝓤 = (walk_of 𝓛 promise staying claims).post start in qed 𝓛 (((‵ (flft κs.0 qs.0) ⊛ ‵ Beside) ⊛ ‵ (owns (types_at promise.signature.params κs) a start.0.4)) ∷
    raw (fact 𝓤 _) ∷ raw (fact 𝓤 _) ∷ raw (fact 𝓤 _) ∷ raw (fact 𝓤 _) ∷ raw (fact 𝓤 _) ∷ raw (fact 𝓤 _) ∷ raw (fact 𝓤 _) ∷ raw (fact 𝓤 _) ∷
    given (t.block ≡ z) (‵ ftrue) ∷ given (Allows holds 2 id v 0 f then) (‵ ftrue) ∷ given (Less holds g.out id v.0 f counts lasts) (‵ ftrue) ∷ []) ∵ keep ! (9 ∷ 10 ∷ 11 ∷
    0 ∷ []) $ learn ! (λ same. drop ! $ learn ! (λ allows. drop ! $ learn ! (λ counted. drop ! $ split ! $ split ! $ move ! (2 ∷ []) $ fsplit3 ! $ fsplit ! $ move ! (2 ∷ []) $ fsplit3 ! $
    keep ! (4 ∷ 1 ∷ 2 ∷ 6 ∷ 7 ∷ []) $ fsplit ! $ fpick ! (λ at. drop ! $ fsplit3 ! $ move ! (1 ∷ []) $ use1 𝓛 (‵ (finv J) ⊛
    ‵ Kp) (kept_shows S W V.coded.code holds g.out P z 𝓛) $ split ! $
    -- [the invariant; what is kept; the parts; the value; the seat, in two; its token; the others]
    enter ! machine.C machine.Λ routine (ptr_and_marker p ∷ vptr seat_block seat_offset ∷ vint w64 old ∷ vint w64 new ∷ []) returned $
    alloc_all ! (λ l. pass_all ! refl (pair_typed p (in_place p z at), ((tt, tt), ((tt, record { fits = are.1.1.0.1 }), ((tt, record { fits = are.1.1.1.0.1 }), tt)))) $
    let here = env routine.locals l in sets ! (is ! (of_opd ! (get_in ! (fld ! refl (stop !)) (sub ! 0 refl (whole !)))) (ap ptr_val at)) refl (tt, tt) $ first ! $ blocks ! $
    sets ! (addr ! (through ! refl (fld ! refl (stop !)))) refl (tt, tt) $ let out : ℕ → Fml = moving.after 𝓛 S W V.coded holds g.out P z id v f then allows (moving.kept_where 𝓛 S W
    V.coded holds g.out P z id v f then allows counts lasts) in move ! (4 ∷ 5 ∷ 6 ∷ []) $ opens ! tt SeatRow seat_block seat_offset (λ bits. move ! (1 ∷ []) $ fsplit ! $
    rewrite ! 1 (λ (u : BlockId). ‵ (seat_owns S W u V.coded.code id v)) same refl $ move ! (6 ∷ 8 ∷ 1 ∷ []) $ use3 𝓛 (raw (machine.C _ (vptr pb e ∷ vint w64 old ∷ vint w64 new ∷
    []) (λ u. mean 𝓛 (found out u)))) (via 𝓤 _ (moving.ends_one 𝓛 S W V.coded holds g.out P z id v f then allows counts lasts counted) (exchanges 𝓛 𝓜 𝓡
    (code.calls-atomic_table::exchange 𝓡.env wired) (block_ptr pb e) old new are.1.1.0.1 are.1.1.1.0.1 out)) $ Calls-last ! (fm 𝓛 𝓜 𝓡) (found out) (and_then ! (get ! refl) (and_then !
    (get ! refl) (and_then ! (get ! refl) (no_more !)))) (λ u. finds ! out (λ n fits. lands_last ! refl (tt, record { fits = fits }) $ exec ! machine.C machine.Λ here (after 2 routine.body)
    (at_ret here returned) $ sets ! (of_opd ! (get ! refl)) refl (tt, record { fits = fits }) $ sets ! (agg ! (no_more !)) refl (tt, tt) $ sets ! (agg ! (and_then ! (get ! refl) (and_then ! (get !
    refl) (no_more !)))) refl (tt, (tt, (tt, tt))) $ sets ! (of_opd ! (get ! refl)) refl (tt, (tt, (tt, tt))) $ sets ! (agg ! (and_then ! (get ! refl) (and_then ! (get ! refl) (no_more !)))) refl
    (tt, (record { fits = fits }, ((tt, (tt, tt)), tt))) $
    -- [what the step gives; the seat's fields, its cell and three more; what is kept; the value; the others]
    fsplit ! $ fsplit ! $ fpick ! (λ live. drop ! $ move ! (0 ∷ 7 ∷ 8 ∷ []) $ fjoin3 ! $ let r : Val = vstruct (vcons (vint w64 n) (vcons (ptr_and_marker (place z)) vnil)) in
    let mh : MaybeRow.Denot = record { at = place z; marker = s.marker; id = z; key = s.key; value = x; heap = s.heap; there = not (counts n); last = lasts n } in located ! (place z) z refl $
    numbered ! MaybeRow mh (ptr_and_marker (place z)) n fits $ move ! (1 ∷ []) $ fpick ! (λ v'. fsplit ! $ fpick ! (λ so. drop ! $ let t' : SeatRow.Denot = record
    { marker = t.marker; block = z; id = id; me = v' } in move ! (2 ∷ 0 ∷ []) $ fjoin ! $ move ! (2 ∷ 0 ∷ 3 ∷ 4 ∷ 5 ∷ []) $ closes ! tt SeatRow t' bits seat_block seat_offset $
    feq_i ! (List Val) (vptr seat_block seat_offset ∷ []) (vptr seat_block seat_offset ∷ []) refl $ fjoin3 ! $ nothing ! $ nothing ! $ fjoin ! $ nothing ! $ fjoin ! $ move ! (1 ∷ 0 ∷ []) $
    fjoin ! $ nothing ! $ fjoin ! $ move ! (1 ∷ 3 ∷ []) $ join ! $ let A₁ : Type 0 = (z ≡ t.block) × (id ≡ id) × then n v' in let A₂ : Type 0 = (z ≡ z) × (s.key ≡ s.key) × (x ≡
    x) × (s.heap ≡ s.heap) × (not (counts n) ≡ not (counts n)) × (lasts n ≡ lasts n) in use0 𝓛 (raw (fact 𝓤 (0 < g.out n))) (fact_i 𝓤 (0 < g.out n) (emp 𝓤) live) $
    use0 𝓛 (raw (fact 𝓤 A₂)) (fact_i 𝓤 A₂ (emp 𝓤) (refl, refl, refl, refl, refl, refl)) $ join ! $ use0 𝓛 (raw (fact 𝓤 A₁)) (fact_i 𝓤 A₁ (emp 𝓤) (sym same, refl, so))
    $ join ! $ returns ! (look_at ! 0 refl) $ free_all ! refl $ keep ! (1 ∷ 2 ∷ 3 ∷ 0 ∷ []) $ by ! (leaves 𝓛 promise staying claims start r (n, mh) (tt, (t', (tt, (tt, tt))))
    (tt, (tt, (tt, (tt, tt)))))))))))))))))
