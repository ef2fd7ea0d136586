-- `gain` is one compare-exchange, by which there may be one share more.
use Rattle.counted_block.proofs.Names.{◌≡◌, ℕ, ◌+◌, List, [], ◌∷◌, sym, refl, w64, named, dcons, dnil, Val, vint, vptr, vstruct, vcons, vnil, emp, inst_fn, SProp, Lft, Fml, ftrue}
use Rattle.counted_block.proofs.Names.{flft, finv, ‵, raw, ◌⊛◌, given, mean, at_ret, ◌$◌, ◌∵◌, !, qed, by, move, keep, drop, split, split3, join, fsplit, fsplit3, fjoin, fjoin3}
use Rattle.counted_block.proofs.Names.{fpick, learn, use0, use1, use3, via, rewrite, feq_i, stop, hop, fld, addr, load, of_opd, no_more, and_then, first, blocks, exec, Calls-last, returns, enter}
use Rattle.counted_block.proofs.Names.{alloc_all, pass_all, free_all, look_at, get, through, sets, lands_last, env, agg, sub, yes, whole, look_in, tables, fact, fact_i, RattleType, owns, types_at}
use Rattle.counted_block.proofs.Names.{plain, block_ptr, nothing, opens, closes, param, bounded, RefOf, shr_vals, shr_Tells, mut_vals, mut_Tells, shr_bor-open, obor_close, Stays, stay_dropped}
use Rattle.counted_block.proofs.Names.{stay_ref, walk_of, Goes-dropped, Goes-ref, after, proved, leaves, fm, found, finds, u64, uint_vals, uint_Tells, either, eqb, exchanges, Me, step, Allows}
use Rattle.counted_block.proofs.Names.{Place, BlockId, place, seat_owns, block, More, content, kept_of, tokens, ptr_and_marker, kept_shows, Types, eight, halve, of_shares, ◌<◌, false}
use Rattle.counted_block.proofs.Names.{share_kind, lent_self, opens_self, closes_self, located, numbered}
use mathlib.Core.Option as maybe
use Rattle.counted_block.specs.contracts.share.Share as share
use Rattle.counted_block.specs.contracts.share.MaybeShare as maybe_share
use Rattle.counted_block.specs.contracts.seat.Seat as seat
use Rattle.counted_block.proofs.Moving as moving
use Rattle.counted_block.specs.contracts.share.Share.gain as promised
use Rattle.counted_block.proofs.share.Share.gain.Code as code

pub gain_spec : {M : Type 1} → Rattle.counted_block.proofs.share.Share.gain.Statement.statement M
gain_spec 𝓤 𝓛 𝓜 𝓡 wired S₀ W₀ V₀ K₀ Y₀ T₀ A₀ M₀ _ _ _ _ _ _ _ _ g d h dh dd m dm m' dm' _ _ _ _ _ =
    let H = 𝓛.H in let machine = tables 𝓤 H 𝓜 𝓡 𝓡.env in let S : RattleType = param 0 S₀ in let W : RattleType = param 1 W₀ in let V = param 2 V₀ in let K = param 3 K₀ in
    let Y = param 4 Y₀ in let R : RattleType = param 5 T₀ in let A = param 6 A₀ in let promise = promised.ended S₀ W₀ V₀ K₀ Y₀ T₀ A₀ M₀ g d h dh dd m dm m' dm' in
    let claims = promised.clauses S₀ W₀ V₀ K₀ Y₀ T₀ A₀ M₀ g d h dh dd m dm m' dm' 𝓛 𝓜.mem 𝓡.returns in let types : Types eight =
    (S₀, (W₀, (V₀, (K₀, (Y₀, (T₀, (A₀, (M₀, tt)))))))) in let at_types = bounded eight types (dcons d (dcons dh (dcons dd (dcons dm (dcons dm' dnil))))) in
    let routine = inst_fn at_types code.function in let OwnRow : RattleType = share.the_row S W V K Y R A g h in let MaybeRow : RattleType = maybe_share.the_row S W V K Y R A g h in
    let SeatRow : RattleType = seat.the_row S W V in let I = share_kind S W V K Y R A g h in let self = RefOf (0 ∷ []) tt (plain (λ _. OwnRow)) (λ _. tt) in let by_mut = plain (λ _. SeatRow) in
    let number = plain (λ _. u64) in let staying : Stays promise.signature.params promise.kept =
    (stay_dropped self yes, (stay_ref (1 ∷ []) tt by_mut, (stay_dropped number yes, (stay_dropped number yes, tt)))) in proved 𝓛 promise staying claims 𝓜 𝓡
    (Goes-dropped 𝓛 10 self yes (λ κs x f. refl), (Goes-ref 𝓛 10 1 tt by_mut, (Goes-dropped 𝓛 10 number yes (λ κs x f. refl), (Goes-dropped 𝓛 10 number yes (λ κs x f. refl), tt))))
    (promised.Key.name at_types) routine (code.unfolded 𝓤 H 𝓜 𝓡 wired types d dh dd dm dm') (λ κs. (shr_vals, (mut_vals, (uint_vals w64, (uint_vals w64, tt))))) (λ κs.
    (shr_Tells (named 0) κs.0 OwnRow, (mut_Tells (named 1) κs.1.0 SeatRow, (uint_Tells w64, (uint_Tells w64, tt))))) (λ κs qs bounds a gh are. let self_block : ℕ = a.0.ref_ptr.0 in
    let self_offset : ℕ = a.0.ref_ptr.1 in let κ : Lft = κs.0 in let s : OwnRow.Denot = a.0.now in let x : R.Denot = s.value in let k = h.dealloc_token s.heap in let z : BlockId = s.id in
    let seat_block : ℕ = a.1.0.ref_ptr.0 in let seat_offset : ℕ = a.1.0.ref_ptr.1 in let t : SeatRow.Denot = a.1.0.now in let id : ℕ = t.id in
    let v : Me (Place S.Denot W.Denot) V.Denot = t.me in let old : ℕ = a.1.1.0 in let new : ℕ = a.1.1.1.0 in let f : ℕ → ℕ = λ n. either (eqb n old) new n in let then : ℕ →
    Me (Place S.Denot W.Denot) V.Denot → Type 0 = m'.then s.key (step 2 0 old new maybe.none) v in let counts = m.counts (step 2 0 old new maybe.none) in
    let Beside : Fml = tokens 8 κs.1.1 qs.1.1 in let pb : ℕ = z.block in let e : ℕ = z.offset + 0 in let P : Fml = content S W R k z x in let holds = g.holds s.key in
    let J : Fml = block S W V.coded.code holds g.out P z in let start : (walk_of 𝓛 promise staying claims).Ghost =
    ((κs, qs, bounds, a, (vptr self_block self_offset ∷ [], (vptr seat_block seat_offset ∷ [], (vint w64 old ∷ [], (vint w64 new ∷ [], tt))))), gh) in let returned : Val →
    SProp 𝓤 = (walk_of 𝓛 promise staying claims).post start in qed 𝓛 (((‵ (flft κ qs.0) ⊛ ‵ (flft κs.1.0 qs.1.0) ⊛ ‵ Beside) ⊛
    ‵ (owns (types_at promise.signature.params κs) a start.0.4)) ∷ raw (fact 𝓤 _) ∷ raw (fact 𝓤 _) ∷ raw (fact 𝓤 _) ∷ raw (fact 𝓤 _) ∷ raw (fact 𝓤 _) ∷
    raw (fact 𝓤 _) ∷ raw (fact 𝓤 _) ∷ raw (fact 𝓤 _) ∷ given (t.block ≡ z) (‵ ftrue) ∷ given (Allows holds 2 id v 0 f then) (‵ ftrue) ∷
    given (More holds g.out id v.0 f counts) (‵ ftrue) ∷ []) ∵ keep ! (9 ∷ 10 ∷ 11 ∷ 0 ∷ []) $ learn ! (λ same. drop ! $ learn ! (λ allows. drop ! $ learn ! (λ counted. drop ! $
    split ! $ split3 ! $ move ! (3 ∷ []) $ fsplit3 ! $ fsplit ! $ move ! (2 ∷ []) $ fsplit3 ! $ keep ! (4 ∷ 6 ∷ 1 ∷ 2 ∷ 7 ∷ 8 ∷ []) $
    enter ! machine.C machine.Λ routine (vptr self_block self_offset ∷ vptr seat_block seat_offset ∷ vint w64 old ∷ vint w64 new ∷ []) returned $
    alloc_all ! (λ l. pass_all ! refl ((tt, tt), ((tt, tt), ((tt, record { fits = are.1.1.0.1 }), ((tt, record { fits = are.1.1.1.0.1 }), tt)))) $ let here = env routine.locals l in
    lent_self S W V K Y R A g h I ! s self_block self_offset $ fsplit ! $ fsplit ! $ move ! (2 ∷ []) $ fsplit ! $ let Kp : Fml = kept_of S W R V.coded.code holds g.out k z x in
    use1 𝓛 (‵ (finv J) ⊛ ‵ Kp) (kept_shows S W V.coded.code holds g.out P z 𝓛) $ split ! $
    -- [the invariant; what is kept; the value; the two tokens, lent; the fields; the token; the seat, in two; its token; the others]
    move ! (3 ∷ []) $ drop ! $ move ! (4 ∷ 5 ∷ 3 ∷ []) $ opens_self S W V K Y R A g h I ! tt (place z) self_block self_offset (λ q. first ! $ blocks ! $
    sets ! (addr ! (through ! refl (fld ! refl (hop ! (look_in ! 0 (sub ! 0 refl (whole !))) (fld ! refl (stop !)))))) refl (tt, tt) $ closes_self S W V K Y R A g h I ! tt q (place z) self_block
    self_offset $
    -- [the token; the fields; the grips, lent; the invariant; what is kept; the value; the seat, in two; its token; the others]
    move ! (2 ∷ 0 ∷ []) $ shr_bor-open ! tt (halve 𝓛 z.grips of_shares) (λ r. let out : ℕ → Fml = moving.after 𝓛 S W V.coded holds g.out P z id v f then allows (moving.with_more 𝓛
    S W V.coded holds g.out P z id v f then allows r counts) in move ! (6 ∷ 7 ∷ 8 ∷ []) $ opens ! tt SeatRow seat_block seat_offset (λ bits. move ! (1 ∷ []) $ fsplit ! $
    rewrite ! 1 (λ (w : BlockId). ‵ (seat_owns S W w V.coded.code id v)) same refl $ move ! (9 ∷ 7 ∷ 1 ∷ []) $ use3 𝓛 (raw (machine.C _ (vptr pb e ∷ vint w64 old ∷ vint w64 new ∷
    []) (λ u. mean 𝓛 (found out u)))) (via 𝓤 _ (moving.gains 𝓛 S W V.coded holds g.out P z id v f then allows r counts counted) (exchanges 𝓛 𝓜 𝓡 (code.calls-atomic_table::exchange
    𝓡.env wired) (block_ptr pb e) old new are.1.1.0.1 are.1.1.1.0.1 out)) $ Calls-last ! (fm 𝓛 𝓜 𝓡) (found out) (and_then ! (get ! refl) (and_then ! (get ! refl) (and_then ! (get ! refl)
    (no_more !)))) (λ u. finds ! out (λ n fits. lands_last ! refl (tt, record { fits = fits }) $ exec ! machine.C machine.Λ here (after 1 routine.body) (at_ret here returned) $
    sets ! (of_opd ! (get ! refl)) refl (tt, record { fits = fits }) $ fsplit ! $ fsplit ! $ fsplit ! $ fpick ! (λ live. drop ! $ move ! (8 ∷ 0 ∷ []) $ obor_close ! tt $ drop ! $
    -- [the token; the parts, if there are; where the seat goes; its fields, its cell and three more; the fields; what is kept; the value; the others]
    move ! (8 ∷ 0 ∷ []) $ opens_self S W V K Y R A g h I ! tt (place z) self_block self_offset (λ q₂. sets ! (of_opd ! (load ! (through ! refl (fld ! refl (stop !))) (look_in ! 0 (sub ! 0
    refl (whole !))))) refl (tt, tt) $ closes_self S W V K Y R A g h I ! tt q₂ (place z) self_block self_offset $ sets ! (agg ! (no_more !)) refl (tt, tt) $
    sets ! (agg ! (and_then ! (get ! refl) (and_then ! (get ! refl) (no_more !)))) refl (tt, (tt, (tt, tt))) $ sets ! (of_opd ! (get ! refl)) refl (tt, (tt, (tt, tt))) $
    sets ! (agg ! (and_then ! (get ! refl) (and_then ! (get ! refl) (no_more !)))) refl (tt, (record { fits = fits }, ((tt, (tt, tt)), tt))) $ move ! (2 ∷ 9 ∷ 10 ∷ []) $ fjoin3 ! $
    let u : Val = vstruct (vcons (vint w64 n) (vcons (ptr_and_marker (place z)) vnil)) in let mh : MaybeRow.Denot = record
    { at = place z; marker = s.marker; id = z; key = s.key; value = x; heap = s.heap; there = counts n; last = false } in located ! (place z) z refl $
    numbered ! MaybeRow mh (ptr_and_marker (place z)) n fits $
    -- [the result; the token; the fields; where the seat goes; its fields, its cell and three more; the others]
    move ! (3 ∷ []) $ fpick ! (λ v'. fsplit ! $ fpick ! (λ so. drop ! $ let t' : SeatRow.Denot = record { marker = t.marker; block = z; id = id; me = v' } in move ! (4 ∷ 0 ∷ []) $ fjoin ! $
    move ! (4 ∷ 0 ∷ 5 ∷ 6 ∷ 7 ∷ []) $ closes ! tt SeatRow t' bits seat_block seat_offset $ feq_i ! (List Val) (vptr seat_block seat_offset ∷ []) (vptr seat_block seat_offset ∷
    []) refl $ fjoin3 ! $ nothing ! $ nothing ! $ fjoin ! $ nothing ! $ fjoin ! $ move ! (1 ∷ 0 ∷ []) $ fjoin ! $ nothing ! $ fjoin ! $ move ! (1 ∷ 5 ∷ []) $ join ! $ move ! (3 ∷ 0 ∷
    []) $ join ! $ let A₁ : Type 0 = (z ≡ t.block) × (id ≡ id) × then n v' in let A₂ : Type 0 = (z ≡ z) × (s.key ≡ s.key) × (x ≡ x) × (s.heap ≡ s.heap) × (counts n ≡ counts
    n) × (false ≡ false) in use0 𝓛 (raw (fact 𝓤 (0 < g.out n))) (fact_i 𝓤 (0 < g.out n) (emp 𝓤) live) $ use0 𝓛 (raw (fact 𝓤 A₂)) (fact_i 𝓤 A₂ (emp 𝓤)
    (refl, refl, refl, refl, refl, refl)) $ join ! $ use0 𝓛 (raw (fact 𝓤 A₁)) (fact_i 𝓤 A₁ (emp 𝓤) (sym same, refl, so)) $ join ! $ returns ! (look_at ! 0 refl) $ free_all ! refl $
    keep ! (1 ∷ 2 ∷ 3 ∷ 0 ∷ []) $ by ! (leaves 𝓛 promise staying claims start u (n, mh) (tt, (t', (tt, (tt, tt)))) (tt, (tt, (tt, (tt, tt)))))))))))))))))))
