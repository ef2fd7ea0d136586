-- `look` is one load of the holds; if there is none, the block has ended.
use Rattle.counted_block.proofs.Names.{◌≡◌, ℕ, ◌+◌, ◌^◌, eqb, List, [], ◌∷◌, ◌++◌, sym, refl, ap, lit<, w64, named, dcons, dnil, Val, vint, vptr, vstruct, vcons, vnil, emp}
use Rattle.counted_block.proofs.Names.{of_list, inst_fn, SProp, Fml, ftrue, fsep, feq, flft, finv, ‵, raw, ◌⊛◌, given, mean, at_ret, ◌$◌, ◌∵◌, !, qed, by, move, keep, drop, split}
use Rattle.counted_block.proofs.Names.{join, fsplit, fsplit3, fjoin, fjoin3, fpick, fpack, learn, use0, use1, use3, via, rewrite, feq_i, flt_i, stop, fld, addr, lit, of_opd, no_more, and_then, exec}
use Rattle.counted_block.proofs.Names.{first, blocks, Calls-last, returns, enter, alloc_all, pass_all, free_all, look_at, get, get_in, through, sets, is, lands_last, env, agg, sub, whole, tables}
use Rattle.counted_block.proofs.Names.{fact, fact_i, no, RattleType, Valss, owns, types_at, plain, Ptr, block_ptr, ptr_val, nothing, opens, closes, u64, param, bounded, mut_vals, mut_Tells, Stays}
use Rattle.counted_block.proofs.Names.{stay_dropped, stay_ref, walk_of, Goes-dropped, Goes-ref, after, proved, leaves, fm, seq_cst, found, finds, loads, not, Me, Place, BlockId, place, seat_owns}
use Rattle.counted_block.proofs.Names.{block, content, kept_of, tokens, ptr_and_marker, pair_typed, in_place, kept_shows, Types, seven, pair_told, false, located}
use mathlib.Core.Option as maybe
use Rattle.counted_block.specs.contracts.last.LastShare as last
use Rattle.counted_block.specs.contracts.share.MaybeShare as maybe_share
use Rattle.counted_block.specs.contracts.remains.Remains as remains
use Rattle.counted_block.specs.contracts.seat.Seat as seat
use Rattle.counted_block.proofs.Holds as holding
use Rattle.counted_block.specs.contracts.last.LastShare.look as promised
use Rattle.counted_block.proofs.last.LastShare.look.Code as code

pub look_spec : {M : Type 1} → Rattle.counted_block.proofs.last.LastShare.look.Statement.statement M
look_spec 𝓤 𝓛 𝓜 𝓡 wired S₀ W₀ V₀ K₀ Y₀ T₀ A₀ _ _ _ _ _ _ _ g d h dh dd _ _ _ =
    let H = 𝓛.H in let machine = tables 𝓤 H 𝓜 𝓡 𝓡.env in let S : RattleType = param 0 S₀ in let W : RattleType = param 1 W₀ in let V = param 2 V₀ in let K = param 3 K₀ in
    let Y = param 4 Y₀ in let R : RattleType = param 5 T₀ in let A = param 6 A₀ in let promise = promised.ended S₀ W₀ V₀ K₀ Y₀ T₀ A₀ g d h dh dd in
    let claims = promised.clauses S₀ W₀ V₀ K₀ Y₀ T₀ A₀ g d h dh dd 𝓛 𝓜.mem 𝓡.returns in let types : Types seven = (S₀, (W₀, (V₀, (K₀, (Y₀, (T₀, (A₀, tt))))))) in
    let at_types = bounded seven types (dcons d (dcons dh (dcons dd dnil))) in let routine = inst_fn at_types code.function in let OwnRow : RattleType = last.the_row S W V K Y R A g h in
    let MaybeRow : RattleType = maybe_share.the_row S W V K Y R A g h in let Er : RattleType = remains.the_row S W V K Y R A g h in let SeatRow : RattleType = seat.the_row S W V in
    let self = plain (λ _. OwnRow) in let by_mut = plain (λ _. SeatRow) in let staying : Stays promise.signature.params promise.kept = (stay_dropped self no, (stay_ref (0 ∷ []) tt by_mut, tt))
    in proved 𝓛 promise staying claims 𝓜 𝓡 (Goes-dropped 𝓛 8 self no (λ κs x f. refl), (Goes-ref 𝓛 8 0 tt by_mut, tt)) (promised.Key.name at_types) routine (code.unfolded 𝓤 H
    𝓜 𝓡 wired types d dh dd) (λ κs. ((λ w. ptr_and_marker w.at ∷ []), (mut_vals, tt))) (λ κs. ((λ w vs so. pair_told w.at vs so.0), (mut_Tells (named 0) κs.0 SeatRow, tt))) (λ κs qs
    bounds a gh are. let s : OwnRow.Denot = a.0 in let p : Ptr = s.at in let x : R.Denot = s.value in let k = h.dealloc_token s.heap in let z : BlockId = s.id in
    let seat_block : ℕ = a.1.0.ref_ptr.0 in let seat_offset : ℕ = a.1.0.ref_ptr.1 in let t : SeatRow.Denot = a.1.0.now in let id : ℕ = t.id in
    let v : Me (Place S.Denot W.Denot) V.Denot = t.me in let e : ℕ = z.offset + 8 in let Beside : Fml = tokens 7 κs.1 qs.1 in let pb : ℕ = z.block in let P : Fml = content S W R k z x in
    let holds = g.holds s.key in let J : Fml = block S W V.coded.code holds g.out P z in let Kp : Fml = kept_of S W R V.coded.code holds g.out k z x in
    let start : (walk_of 𝓛 promise staying claims).Ghost = ((κs, qs, bounds, a, (ptr_and_marker p ∷ [], (vptr seat_block seat_offset ∷ [], tt))), gh) in let returned : Val →
    SProp 𝓤 = (walk_of 𝓛 promise staying claims).post start in qed 𝓛 (((‵ (flft κs.0 qs.0) ⊛ ‵ Beside) ⊛ ‵ (owns (types_at promise.signature.params κs) a start.0.4)) ∷
    raw (fact 𝓤 _) ∷ raw (fact 𝓤 _) ∷ raw (fact 𝓤 _) ∷ raw (fact 𝓤 _) ∷ raw (fact 𝓤 _) ∷ raw (fact 𝓤 _) ∷ raw (fact 𝓤 _) ∷ given (t.block ≡ z) (‵ ftrue) ∷
    []) ∵ keep ! (8 ∷ 0 ∷ []) $ learn ! (λ same. drop ! $ split ! $ split ! $ move ! (2 ∷ []) $ fsplit3 ! $ fsplit ! $ move ! (2 ∷ []) $ fsplit3 ! $ keep ! (4 ∷ 1 ∷ 2 ∷ 6 ∷ 7 ∷
    []) $ fsplit ! $ fpick ! (λ at. drop ! $ fsplit3 ! $ move ! (1 ∷ []) $ use1 𝓛 (‵ (finv J) ⊛ ‵ Kp) (kept_shows S W V.coded.code holds g.out P z 𝓛) $ split ! $
    -- [the invariant; what is kept; the parts; the value; the seat, in two; its token; the others]
    enter ! machine.C machine.Λ routine (ptr_and_marker p ∷ vptr seat_block seat_offset ∷ []) returned $ alloc_all ! (λ l. pass_all ! refl (pair_typed p (in_place p z at), ((tt, tt), tt)) $
    let here = env routine.locals l in sets ! (is ! (of_opd ! (get_in ! (fld ! refl (stop !)) (sub ! 0 refl (whole !)))) (ap ptr_val at)) refl (tt, tt) $ first ! $ blocks ! $
    sets ! (addr ! (through ! refl (fld ! refl (stop !)))) refl (tt, tt) $ let out : ℕ → Fml = holding.looked 𝓛 S W V.coded holds g.out P z id v in move ! (4 ∷ 5 ∷ 6 ∷ []) $
    opens ! tt SeatRow seat_block seat_offset (λ bits. move ! (1 ∷ []) $ fsplit ! $ rewrite ! 1 (λ (u : BlockId). ‵ (seat_owns S W u V.coded.code id v)) same refl $ move ! (6 ∷ 8 ∷ 1 ∷
    []) $ use3 𝓛 (raw (machine.C _ (vptr pb e ∷ seq_cst ∷ []) (λ u. mean 𝓛 (found out u)))) (via 𝓤 _ (holding.looks_last 𝓛 S W V.coded holds g.out P z id v) (loads 𝓛 𝓜 𝓡
    (code.calls-std::sync::atomic::raw::load 𝓡.env wired) (block_ptr pb e) out)) $ sets ! (agg ! (and_then ! (lit ! tt) (no_more !))) refl (tt, (record { fits = lit< tt }, tt)) $
    Calls-last ! (fm 𝓛 𝓜 𝓡) (found out) (and_then ! (get ! refl) (and_then ! (get ! refl) (no_more !))) (λ u. finds ! out (λ n fits. lands_last ! refl (tt, record { fits = fits }) $
    exec ! machine.C machine.Λ here (after 2 routine.body) (at_ret here returned) $ sets ! (of_opd ! (get ! refl)) refl (tt, record { fits = fits }) $ sets ! (agg ! (no_more !)) refl (tt, tt) $
    sets ! (agg ! (and_then ! (get ! refl) (and_then ! (get ! refl) (no_more !)))) refl (tt, (tt, (tt, tt))) $ sets ! (agg ! (no_more !)) refl (tt, tt) $
    sets ! (agg ! (and_then ! (get ! refl) (and_then ! (get ! refl) (no_more !)))) refl (tt, (tt, (tt, tt))) $ sets ! (of_opd ! (get ! refl)) refl (tt, (tt, (tt, tt))) $
    sets ! (of_opd ! (get ! refl)) refl (tt, (tt, (tt, tt))) $ sets ! (agg ! (and_then ! (get ! refl) (and_then ! (get ! refl) (and_then ! (get ! refl) (no_more !))))) refl
    (tt, (record { fits = fits }, ((tt, (tt, tt)), ((tt, (tt, tt)), tt)))) $
    -- [what the step gives; the seat's fields, its cell and three more; what is kept; the value; the others]
    fsplit3 ! $ move ! (0 ∷ 8 ∷ 9 ∷ []) $ fjoin3 ! $ let q : Val = ptr_and_marker (place z) in let r : Val = vstruct (vcons (vint w64 n) (vcons q (vcons q vnil))) in let is : ℕ →
    maybe.Option (ℕ × V.Denot) = λ _. maybe.some (id, v.0) in let mh : MaybeRow.Denot = record
    { at = place z; marker = s.marker; id = z; key = s.key; value = x; heap = s.heap; there = false; last = not (eqb n 0) } in let rh : Er.Denot = record
    { at = place z; marker = s.marker; id = z; key = s.key; value = x; heap = s.heap; there = eqb n 0; seat = is 0 } in located ! (place z) z refl $
    -- [the share; the remains; the seat; its fields, ..; the others]
    move ! (1 ∷ []) $ located ! (place z) z refl $ nothing ! $ move ! (1 ∷ 0 ∷ []) $ fjoin ! $ move ! (1 ∷ 0 ∷ []) $ fjoin ! $ flt_i ! n (2 ^ 64) fits $ feq_i ! (List Val) (vint w64 n ∷
    []) (vint w64 n ∷ []) refl $ fjoin ! $ fjoin ! $ feq_i ! (List Val) (r ∷ []) (r ∷ []) refl $ fjoin ! $ fpack ! (Valss (u64 ∷ MaybeRow ∷ Er ∷ [])) (λ uss. fsep (feq (List Val) (r ∷
    []) (vstruct (of_list (uss.0 ++ (uss.1.0 ++ (uss.1.1.0 ++ [])))) ∷ [])) (owns (u64 ∷ MaybeRow ∷ Er ∷ []) (n, (mh, (rh, tt))) uss)) (vint w64 n ∷ [], (q ∷ [], (q ∷ [], tt))) $
    let t' : SeatRow.Denot = record { marker = t.marker; block = z; id = id; me = v } in
    -- [the result; the seat; its fields, ..; the others]
    move ! (2 ∷ 1 ∷ []) $ fjoin ! $ move ! (2 ∷ 0 ∷ 3 ∷ 4 ∷ 5 ∷ []) $ closes ! tt SeatRow t' bits seat_block seat_offset $ feq_i ! (List Val) (vptr seat_block seat_offset ∷
    []) (vptr seat_block seat_offset ∷ []) refl $ fjoin3 ! $ nothing ! $ move ! (1 ∷ 0 ∷ []) $ fjoin ! $ nothing ! $ fjoin ! $ move ! (1 ∷ 3 ∷ []) $ join ! $
    let A₁ : Type 0 = (z ≡ t.block) × (id ≡ id) × (v ≡ v) in let A₂ : Type 0 = (z ≡ z) × (s.key ≡ s.key) × (x ≡ x) × (s.heap ≡ s.heap) × (false ≡ false) × (not (eqb n 0)
    ≡ not (eqb n 0)) in let A₃ : Type 0 = (s.key ≡ s.key) × (x ≡ x) × (s.heap ≡ s.heap) × (eqb n 0 ≡ eqb n 0) × (is 0 ≡ is 0) in
    use0 𝓛 (raw (fact 𝓤 A₃)) (fact_i 𝓤 A₃ (emp 𝓤) (refl, refl, refl, refl, refl)) $ use0 𝓛 (raw (fact 𝓤 A₂)) (fact_i 𝓤 A₂ (emp 𝓤)
    (refl, refl, refl, refl, refl, refl)) $ join ! $ use0 𝓛 (raw (fact 𝓤 A₁)) (fact_i 𝓤 A₁ (emp 𝓤) (sym same, refl, refl)) $ join ! $ returns ! (look_at ! 0 refl) $ free_all ! refl $
    keep ! (1 ∷ 2 ∷ 3 ∷ 0 ∷ []) $ by ! (leaves 𝓛 promise staying claims start r (n, mh, rh) (tt, (t', tt)) (tt, (tt, tt))))))))))
