-- `leave` is one fetch on the holds, by which the share ends, and the block if there was no hold.
use Rattle.counted_block.proofs.Names.{◌≡◌, ℕ, ◌+◌, eqb, List, [], ◌∷◌, sym, refl, ap, lit<, w64, named, dcons, dnil, Val, vint, vptr, vstruct, vcons, vnil, emp, inst_fn, SProp}
use Rattle.counted_block.proofs.Names.{Fml, ftrue, flft, finv, ‵, raw, ◌⊛◌, given, mean, at_ret, ◌$◌, ◌∵◌, !, qed, by, move, keep, drop, split, join, fsplit, fsplit3, fjoin}
use Rattle.counted_block.proofs.Names.{fjoin3, fpick, learn, use0, use1, use3, via, rewrite, feq_i, stop, fld, addr, lit, of_opd, no_more, and_then, exec, first, blocks, Calls-last, returns, enter}
use Rattle.counted_block.proofs.Names.{alloc_all, pass_all, free_all, look_at, get, get_in, through, sets, is, lands_last, env, agg, sub, whole, tables, fact, fact_i, no, RattleType, owns, types_at}
use Rattle.counted_block.proofs.Names.{plain, Ptr, block_ptr, ptr_val, nothing, opens, closes, param, bounded, mut_vals, mut_Tells, Stays, stay_dropped, stay_ref, walk_of, Goes-dropped, Goes-ref}
use Rattle.counted_block.proofs.Names.{after, proved, leaves, fm, seq_cst, found, finds, adds, Me, Place, BlockId, place, seat_owns, block, content, kept_of, tokens, ptr_and_marker, pair_typed}
use Rattle.counted_block.proofs.Names.{in_place, kept_shows, left_behind, Types, seven, pair_told, located, numbered}
use mathlib.Core.Option as maybe
use Rattle.counted_block.specs.contracts.last.LastShare as last
use Rattle.counted_block.specs.contracts.share.MaybeShare as maybe_share
use Rattle.counted_block.specs.contracts.remains.Remains as remains
use Rattle.counted_block.specs.contracts.seat.Seat as seat
use Rattle.counted_block.proofs.Holds as holding
use Rattle.counted_block.specs.contracts.last.LastShare.leave as promised
use Rattle.counted_block.proofs.last.LastShare.leave.Code as code

pub leave_spec : {M : Type 1} → Rattle.counted_block.proofs.last.LastShare.leave.Statement.statement M
leave_spec 𝓤 𝓛 𝓜 𝓡 wired S₀ W₀ V₀ K₀ Y₀ T₀ A₀ _ _ _ _ _ _ _ g d h dh dd _ _ _ =
    let H = 𝓛.H in let machine = tables 𝓤 H 𝓜 𝓡 𝓡.env in let S : RattleType = param 0 S₀ in let W : RattleType = param 1 W₀ in let V = param 2 V₀ in let K = param 3 K₀ in
    let Y = param 4 Y₀ in let R : RattleType = param 5 T₀ in let A = param 6 A₀ in let promise = promised.ended S₀ W₀ V₀ K₀ Y₀ T₀ A₀ g d h dh dd in
    let claims = promised.clauses S₀ W₀ V₀ K₀ Y₀ T₀ A₀ g d h dh dd 𝓛 𝓜.mem 𝓡.returns in let types : Types seven = (S₀, (W₀, (V₀, (K₀, (Y₀, (T₀, (A₀, tt))))))) in
    let at_types = bounded seven types (dcons d (dcons dh (dcons dd dnil))) in let routine = inst_fn at_types code.function in let OwnRow : RattleType = last.the_row S W V K Y R A g h in
    let MaybeRow : RattleType = maybe_share.the_row S W V K Y R A g h in let Er : RattleType = remains.the_row S W V K Y R A g h in let SeatRow : RattleType = seat.the_row S W V in
    let self = plain (λ _. OwnRow) in let by_mut = plain (λ _. SeatRow) in let staying : Stays promise.signature.params promise.kept = (stay_dropped self no, (stay_ref (0 ∷ []) tt by_mut, tt))
    in proved 𝓛 promise staying claims 𝓜 𝓡 (Goes-dropped 𝓛 8 self no (λ κs x f. refl), (Goes-ref 𝓛 8 0 tt by_mut, tt)) (promised.Key.name at_types) routine (code.unfolded 𝓤 H
    𝓜 𝓡 wired types d dh dd) (λ κs. ((λ w. ptr_and_marker w.at ∷ []), (mut_vals, tt))) (λ κs. ((λ w vs so. pair_told w.at vs so.0), (mut_Tells (named 0) κs.0 SeatRow, tt))) (λ κs qs
    bounds a gh are. let s : OwnRow.Denot = a.0 in let p : Ptr = s.at in let x : R.Denot = s.value in let k = h.dealloc_token s.heap in let z : BlockId = s.id in
    let seat_block : ℕ = a.1.0.ref_ptr.0 in let seat_offset : ℕ = a.1.0.ref_ptr.1 in let t : SeatRow.Denot = a.1.0.now in let id : ℕ = t.id in
    let v : Me (Place S.Denot W.Denot) V.Denot = t.me in let e : ℕ = z.offset + 8 in let Beside : Fml = tokens 7 κs.1 qs.1 in let pb : ℕ = z.block in let P : Fml = content S W R k z x in
    let holds = g.holds s.key in let J : Fml = block S W V.coded.code holds g.out P z in let Kp : Fml = kept_of S W R V.coded.code holds g.out k z x in
    let start : (walk_of 𝓛 promise staying claims).Ghost = ((κs, qs, bounds, a, (ptr_and_marker p ∷ [], (vptr seat_block seat_offset ∷ [], tt))), gh) in let returned : Val →
    SProp 𝓤 = (walk_of 𝓛 promise staying claims).post start in qed 𝓛 (((‵ (flft κs.0 qs.0) ⊛ ‵ Beside) ⊛ ‵ (owns (types_at promise.signature.params κs) a start.0.4)) ∷
    raw (fact 𝓤 _) ∷ raw (fact 𝓤 _) ∷ raw (fact 𝓤 _) ∷ raw (fact 𝓤 _) ∷ raw (fact 𝓤 _) ∷ raw (fact 𝓤 _) ∷ raw (fact 𝓤 _) ∷ given (t.block ≡ z) (‵ ftrue) ∷
    []) ∵ keep ! (8 ∷ 0 ∷ []) $ learn ! (λ same. drop ! $ split ! $ split ! $ move ! (2 ∷ []) $ fsplit3 ! $ fsplit ! $ move ! (2 ∷ []) $ fsplit3 ! $ keep ! (4 ∷ 1 ∷ 2 ∷ 6 ∷ 7 ∷
    []) $ fsplit ! $ fpick ! (λ at. drop ! $ fsplit3 ! $ move ! (1 ∷ []) $ use1 𝓛 (‵ (finv J) ⊛ ‵ Kp) (kept_shows S W V.coded.code holds g.out P z 𝓛) $ split ! $
    -- [the invariant; what is kept; the parts; the value; the seat, in two; its token; the others]
    enter ! machine.C machine.Λ routine (ptr_and_marker p ∷ vptr seat_block seat_offset ∷ []) returned $ alloc_all ! (λ l. pass_all ! refl (pair_typed p (in_place p z at), ((tt, tt), tt)) $
    let here = env routine.locals l in sets ! (is ! (of_opd ! (get_in ! (fld ! refl (stop !)) (sub ! 0 refl (whole !)))) (ap ptr_val at)) refl (tt, tt) $ first ! $ blocks ! $
    sets ! (addr ! (through ! refl (fld ! refl (stop !)))) refl (tt, tt) $ let out : ℕ → Fml = holding.left 𝓛 S W V.coded holds g.out P z id v in move ! (4 ∷ 5 ∷ 6 ∷ []) $
    opens ! tt SeatRow seat_block seat_offset (λ bits. move ! (1 ∷ []) $ fsplit ! $ rewrite ! 1 (λ (u : BlockId). ‵ (seat_owns S W u V.coded.code id v)) same refl $ move ! (6 ∷ 8 ∷ 1 ∷
    []) $ use3 𝓛 (raw (machine.C _ (vptr pb e ∷ vint w64 9223372036854775808 ∷ seq_cst ∷ []) (λ u. mean 𝓛 (found out u)))) (via 𝓤 _ (holding.leaves_last 𝓛 S W V.coded holds g.out P
    z id v) (adds 𝓛 𝓜 𝓡 (code.calls-std::sync::atomic::raw::fetch_add 𝓡.env wired) (block_ptr pb e) 9223372036854775808 (lit< tt) out)) $
    sets ! (agg ! (and_then ! (lit ! tt) (no_more !))) refl (tt, (record { fits = lit< tt }, tt)) $ Calls-last ! (fm 𝓛 𝓜 𝓡) (found out) (and_then ! (get ! refl) (and_then ! left_behind
    (and_then ! (get ! refl) (no_more !)))) (λ u. finds ! out (λ n fits. lands_last ! refl (tt, record { fits = fits }) $ exec ! machine.C machine.Λ here (after 2 routine.body) (at_ret here
    returned) $ sets ! (of_opd ! (get ! refl)) refl (tt, record { fits = fits }) $ sets ! (agg ! (no_more !)) refl (tt, tt) $ sets ! (agg ! (and_then ! (get ! refl) (and_then ! (get ! refl) (no_more
    !)))) refl (tt, (tt, (tt, tt))) $ sets ! (of_opd ! (get ! refl)) refl (tt, (tt, (tt, tt))) $ sets ! (agg ! (and_then ! (get ! refl) (and_then ! (get ! refl) (no_more !)))) refl
    (tt, (record { fits = fits }, ((tt, (tt, tt)), tt))) $
    -- [what the step gives; the seat's fields, its cell and three more; what is kept; the value; the others]
    let q : Val = ptr_and_marker (place z) in let r : Val = vstruct (vcons (vint w64 n) (vcons q vnil)) in let is : ℕ → maybe.Option (ℕ × V.Denot) = λ _. maybe.some (id, v.0) in
    let rh : Er.Denot = record { at = place z; marker = s.marker; id = z; key = s.key; value = x; heap = s.heap; there = eqb n 0; seat = is 0 } in fsplit ! $ located ! (place z) z refl $
    numbered ! Er rh q n fits $ let t' : SeatRow.Denot = record { marker = t.marker; block = z; id = id; me = v } in
    -- [the result; the seat; its fields, ..; what is kept; the value; the others]
    move ! (2 ∷ 1 ∷ []) $ fjoin ! $ move ! (2 ∷ 0 ∷ 3 ∷ 4 ∷ 5 ∷ []) $ closes ! tt SeatRow t' bits seat_block seat_offset $ feq_i ! (List Val) (vptr seat_block seat_offset ∷
    []) (vptr seat_block seat_offset ∷ []) refl $ fjoin3 ! $ nothing ! $ move ! (1 ∷ 0 ∷ []) $ fjoin ! $ nothing ! $ fjoin ! $ move ! (1 ∷ 5 ∷ []) $ join ! $
    let A₁ : Type 0 = (z ≡ t.block) × (id ≡ id) × (v ≡ v) in let A₃ : Type 0 = (s.key ≡ s.key) × (x ≡ x) × (s.heap ≡ s.heap) × (eqb n 0 ≡ eqb n 0) × (is 0 ≡ is 0) in
    use0 𝓛 (raw (fact 𝓤 A₃)) (fact_i 𝓤 A₃ (emp 𝓤) (refl, refl, refl, refl, refl)) $ use0 𝓛 (raw (fact 𝓤 A₁)) (fact_i 𝓤 A₁ (emp 𝓤) (sym same, refl, refl)) $ join ! $
    returns ! (look_at ! 0 refl) $ free_all ! refl $ keep ! (1 ∷ 2 ∷ 3 ∷ 0 ∷ []) $ by ! (leaves 𝓛 promise staying claims start r (n, rh) (tt, (t', tt)) (tt, (tt, tt))))))))))
