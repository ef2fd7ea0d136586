-- `begin` lends the value and the slots, and makes one share or two, and a seat.
use Rattle.counted_block.proofs.Names.{◌≡◌, ℕ, List, [], ◌∷◌, ◌++◌, sym, refl, ap, named, dcons, dnil, Val, vptr, vstruct, vcons, vnil, of_list, inst_fn, SProp, emp, Lft, Fml, feq}
use Rattle.counted_block.proofs.Names.{ftrue, fsep, flft, sem, ‵, raw, ◌⊛◌, given, some, later, await, ◌$◌, ◌∵◌, !, qed, by, move, keep, drop, split, split3, join, fsplit, fjoin}
use Rattle.counted_block.proofs.Names.{fjoin3, fpack, learn, use0, use1, rewrite, feq_i, stop, fld, of_opd, no_more, and_then, returns, enter, alloc_all, pass_all, free_all, look_at, get, get_in}
use Rattle.counted_block.proofs.Names.{sets, is, agg, sub, whole, tables, fact, fact_i, yes, no, group, RattleType, Valss, owns, types_at, plain, Ptr, block_ptr, ptr_val, nothing, heard, param, eqb}
use Rattle.counted_block.proofs.Names.{bounded, RefOf, shr_vals, shr_Tells, Stays, stay_dropped, walk_of, Goes-dropped, proved, leaves, fst∗, never, ◌⊑◌, pick, lone, param_laws, null_ptr}
use Rattle.counted_block.proofs.Names.{in_a_block, ◌+ₚ◌, contraction, Lends-first, Lends-lies, lent_at_shr_laws, box_owns, opening, First, Second, at_value, BlockId, life, place, parts, rebox}
use Rattle.counted_block.proofs.Names.{parts_if, seat_owns, words_in, value_there, slots_there, content, looked_at, kept_of, unnamed, begun, unboxes, ptr_and_marker, pair_typed, marker_val, Types}
use Rattle.counted_block.proofs.Names.{kept_twice, seven, Bool, ◌<◌, first_counts, PairData, MarkerData, pair_told, pair_made, marker_made, false}
use mir.Raw.{raw as bare_ty}
use Rattle.counted_block.specs.contracts.bare.Bare as bare
use Rattle.counted_block.specs.contracts.inner.Inner as inner
use Rattle.counted_block.specs.contracts.share.Share as share
use Rattle.counted_block.specs.contracts.share.MaybeShare as maybe_share
use Rattle.counted_block.specs.contracts.seat.Seat as seat
use Rattle.counted_block.specs.contracts.share.Share.begin as promised
use Rattle.counted_block.proofs.share.Share.begin.Code as code

pub begin_spec : {M : Type 1} → Rattle.counted_block.proofs.share.Share.begin.Statement.statement M
begin_spec 𝓤 𝓛 𝓜 𝓡 wired S₀ W₀ V₀ K₀ Y₀ T₀ A₀ LS LW _ _ _ LT _ g d h dh dd _ _ _ =
    let H = 𝓛.H in let machine = tables 𝓤 H 𝓜 𝓡 𝓡.env in let S : RattleType = param 0 S₀ in let W : RattleType = param 1 W₀ in let V = param 2 V₀ in let K = param 3 K₀ in
    let Y = param 4 Y₀ in let R : RattleType = param 5 T₀ in let A = param 6 A₀ in let promise = promised.ended S₀ W₀ V₀ K₀ Y₀ T₀ A₀ g d h dh dd in
    let claims = promised.clauses S₀ W₀ V₀ K₀ Y₀ T₀ A₀ g d h dh dd 𝓛 𝓜.mem 𝓡.returns in let types : Types seven = (S₀, (W₀, (V₀, (K₀, (Y₀, (T₀, (A₀, tt))))))) in
    let at_types = bounded seven types (dcons d (dcons dh (dcons dd dnil))) in let routine = inst_fn at_types code.function in let OwnRow : RattleType = share.the_row S W V K Y R A g h in
    let MaybeRow : RattleType = maybe_share.the_row S W V K Y R A g h in let Ir : RattleType = inner.the_row S W R in let Br : RattleType = bare.the_row Ir A h in
    let SeatRow : RattleType = seat.the_row S W V in let box = plain (λ _. Br) in let about = RefOf (0 ∷ []) tt (plain (λ _. K)) (λ _. tt) in let LR = param_laws 5 T₀ LT in
    let staying : Stays promise.signature.params promise.kept = (stay_dropped box no, (stay_dropped about yes, tt)) in proved 𝓛 promise staying claims 𝓜 𝓡
    (Goes-dropped 𝓛 8 box no (λ κs x f. refl), (Goes-dropped 𝓛 8 about yes (λ κs x f. refl), tt)) (promised.Key.name at_types) routine (code.unfolded 𝓤 H 𝓜 𝓡 wired types d dh dd)
    (λ κs. ((λ w. ptr_and_marker w.at ∷ []), (shr_vals, tt))) (λ κs. ((λ w vs so. pair_told w.at vs so.0), (shr_Tells (named 0) κs.0 K, tt))) (λ κs qs bounds a gh are. let s : Br.Denot =
    a.0 in let y : Bool = eqb (g.out s.value.word) 2 in let p₀ : Ptr = s.at in let i : Ir.Denot = s.value in let n : ℕ = i.word in let x : R.Denot = i.value in
    let m : S.Denot × W.Denot = (i.first, i.second) in let k = h.dealloc_token s.heap in let about_at : Val = vptr a.1.0.ref_ptr.0 a.1.0.ref_ptr.1 in let key : K.Denot = a.1.0.now in
    let holds = g.holds key in let v : V.Denot = g.first key in let κ : Lft = κs.1.1.1.1.1.1.0 in let inT : Type 0 = κ ⊑ T₀.lives in let start : (walk_of 𝓛 promise staying claims).Ghost =
    ((κs, qs, bounds, a, (ptr_and_marker p₀ ∷ [], (about_at ∷ [], tt))), gh) in let returned : Val → SProp 𝓤 = (walk_of 𝓛 promise staying claims).post start in
    qed 𝓛 (((‵ (flft κs.0 qs.0) ⊛ ‵ (flft κs.1.0 qs.1.0) ⊛ ‵ (flft κs.1.1.0 qs.1.1.0) ⊛ ‵ (flft κs.1.1.1.0 qs.1.1.1.0) ⊛ ‵ (flft κs.1.1.1.1.0 qs.1.1.1.1.0) ⊛
    ‵ (flft κs.1.1.1.1.1.0 qs.1.1.1.1.1.0) ⊛ ‵ (flft κ qs.1.1.1.1.1.1.0) ⊛ ‵ (fsep (flft κs.1.1.1.1.1.1.1.0 qs.1.1.1.1.1.1.1.0) ftrue)) ⊛
    ‵ (owns (types_at promise.signature.params κs) a start.0.4)) ∷ raw (fact 𝓤 _) ∷ raw (fact 𝓤 _) ∷ raw (fact 𝓤 _) ∷ raw (fact 𝓤 _) ∷ raw (fact 𝓤 _) ∷
    raw (fact 𝓤 inT) ∷ raw (fact 𝓤 _) ∷ given ((0 < g.out n) × (g.out n < 3)) (‵ ftrue) ∷ given (i.holds ≡ 0) (‵ ftrue) ∷ given (holds (opening (n ∷ []) (First i.first ∷
    Second i.second ∷ []) v)) (‵ ftrue) ∷ []) ∵ keep ! (6 ∷ 8 ∷ 9 ∷ 10 ∷ 0 ∷ []) $ heard ! inT (λ leT. learn ! (λ few. drop ! $ learn ! (λ unheld. drop ! $
    learn ! (λ kept. drop ! $ split ! $ move ! (1 ∷ []) $ fsplit ! $ fsplit ! $ keep ! (1 ∷ 3 ∷ []) $ in_a_block ! p₀ (λ q. box_owns k Ir q i) (fst∗ 𝓤 (never 𝓤) (sem 𝓛 (k
    (bare_ty (lone Ir.mir)) null_ptr))) (λ b o at. let z₀ : BlockId = unnamed 𝓛 S W R V.coded holds g.out k x b o in let P : Fml = content S W R k z₀ x in
    let inb = denote.RawPtr.InBlock p₀ in let inb' : inb = Rattle.std.proofs.Common.subst denote.RawPtr.InBlock (sym at) tt in use1 𝓛 (‵ (words_in z₀ n i.holds) ⊛
    ‵ (slots_there S W R k z₀ x m) ⊛ ‵ P) (unboxes 0 1 5 S₀ W₀ T₀ LS LW LT 𝓛 z₀ x k ((n, i.holds), m)) $ split3 ! $ rewrite ! 0 (λ (j : ℕ). ‵ (words_in z₀ n j)) unheld refl
    $ move ! (3 ∷ []) $ split ! $ move ! (1 ∷ []) $ split ! $ move ! (1 ∷ []) $ split ! $ move ! (1 ∷ []) $ split ! $ move ! (1 ∷ []) $ split ! $ move ! (1 ∷ []) $ split ! $
    move ! (1 ∷ []) $ split ! $
    -- [the value's token; the rest of the tokens, backwards; the words; the slots; the content]
    move ! (8 ∷ 9 ∷ 10 ∷ 0 ∷ []) $ group ! 4 $ use1 𝓛 (later (some (λ (z : BlockId). given (place z ≡ block_ptr b o) (‵ (parts z) ⊛ ‵ (parts_if y false z) ⊛
    ‵ (kept_of S W R V.coded.code holds g.out k z x) ⊛ ‵ (looked_at S W R k z x (life z)) ⊛ ‵ (seat_owns S W z V.coded.code 0 (v, [])))) ⊛
    ‵ (flft κ qs.1.1.1.1.1.1.0))) (begun 𝓛 S W R V.coded holds g.out k x b o y n m v (first_counts (g.out n) y refl few.0 few.1) kept R.lives (Lends-first 𝓛 (value_there S W R k z₀ x)
    (rebox S W R k z₀ x) (looked_at S W R k z₀ x) R.lives (Lends-lies 𝓛 R R.lives (place z₀ +ₚ at_value S W R) x (LR.shares 𝓛 x))) κ qs.1.1.1.1.1.1.0 leT) $
    enter ! machine.C machine.Λ routine (ptr_and_marker p₀ ∷ about_at ∷ []) returned $ alloc_all ! (λ l. pass_all ! refl (pair_typed p₀ inb', ((tt, tt), tt)) $ await ! tt $ split ! $
    pick ! (λ z. learn ! (λ at'. split3 ! $ move ! (2 ∷ []) $ split3 ! $
    -- [what is kept; the value; the seat; the parts; more of them; the tokens, the value's first]
    move ! (12 ∷ 11 ∷ 10 ∷ 9 ∷ 8 ∷ 7 ∷ 5 ∷ 6 ∷ []) $ group ! 8 $ sets ! (is ! (of_opd ! (get_in ! (fld ! refl (stop !)) (sub ! 0 refl (whole !)))) (ap ptr_val at)) refl (tt, tt) $
    sets ! (agg ! (no_more !)) refl (tt, tt) $ sets ! (agg ! (and_then ! (get ! refl) (and_then ! (get ! refl) (no_more !)))) refl (tt, (tt, (tt, tt))) $ sets ! (agg ! (no_more !)) refl (tt, tt) $
    sets ! (agg ! (and_then ! (get ! refl) (and_then ! (get ! refl) (no_more !)))) refl (tt, (tt, (tt, tt))) $ sets ! (agg ! (no_more !)) refl (tt, tt) $
    sets ! (agg ! (and_then ! (get ! refl) (no_more !))) refl (tt, (tt, tt)) $ sets ! (agg ! (and_then ! (get ! refl) (and_then ! (get ! refl) (and_then ! (get ! refl) (no_more !))))) refl
    (tt, ((tt, (tt, tt)), ((tt, (tt, tt)), ((tt, tt), tt)))) $
    -- [the tokens; what is kept; the value; the seat; the parts, twice]
    let Kp : Fml = kept_of S W R V.coded.code holds g.out k z x in let Look : Fml = looked_at S W R k z x (life z) in move ! (1 ∷ []) $ use1 𝓛 (‵ Kp ⊛
    ‵ Kp) (kept_twice S W V.coded.code holds g.out (content S W R k z x) z 𝓛) $ split ! $ move ! (3 ∷ []) $ use1 𝓛 (‵ Look ⊛ ‵ Look) (contraction 𝓛 (looked_at S W R k z x)
    (lent_at_shr_laws R LR.shr_laws (place z +ₚ at_value S W R) x) (life z)) $ split ! $ move ! (6 ∷ 2 ∷ 0 ∷ []) $ fjoin3 ! $ nothing ! $
    fpack ! (block_ptr b o ≡ place z) (λ _. ftrue) (sym at') $ fjoin ! $ use0 𝓛 (‵ (PairData.own_val (block_ptr b o, (tt, tt)) (ptr_and_marker (block_ptr b o) ∷
    []))) (pair_made 𝓛 (block_ptr b o)) $ fjoin ! $ move ! (5 ∷ 2 ∷ 1 ∷ []) $ fjoin3 ! $ nothing ! $ fpack ! (block_ptr b o ≡ place z) (λ _. ftrue) (sym at') $ fjoin ! $
    use0 𝓛 (‵ (PairData.own_val (block_ptr b o, (tt, tt)) (ptr_and_marker (block_ptr b o) ∷ []))) (pair_made 𝓛 (block_ptr b o)) $ fjoin ! $ move ! (3 ∷ []) $
    use0 𝓛 (‵ (MarkerData.own_val (tt, tt) (marker_val ∷ []))) (marker_made 𝓛) $ fjoin ! $ nothing ! $ move ! (1 ∷ 0 ∷ []) $ fjoin ! $ move ! (2 ∷ 1 ∷ 0 ∷ []) $ fjoin3 ! $
    let q : Val = ptr_and_marker (block_ptr b o) in let sh : OwnRow.Denot = record { at = block_ptr b o; marker = record {}; id = z; key = key; value = x; heap = s.heap } in
    let mh : MaybeRow.Denot = record { at = block_ptr b o; marker = record {}; id = z; key = key; value = x; heap = s.heap; there = y; last = false } in
    let st : SeatRow.Denot = record { marker = record {}; block = z; id = 0; me = (v, []) } in let u : Val = vstruct (vcons q (vcons q (vcons marker_val vnil))) in feq_i ! (List Val) (u ∷
    []) (u ∷ []) refl $ fjoin ! $ fpack ! (Valss (OwnRow ∷ MaybeRow ∷ SeatRow ∷ [])) (λ uss. fsep (feq (List Val) (u ∷ []) (vstruct (of_list (uss.0 ++ (uss.1.0 ++ (uss.1.1.0 ++ [])))) ∷
    [])) (owns (OwnRow ∷ MaybeRow ∷ SeatRow ∷ []) (sh, (mh, (st, tt))) uss)) (q ∷ [], (q ∷ [], (marker_val ∷ [], tt))) $ let A₁ : Type 0 = (key ≡ key) × (x ≡ x) × (s.heap ≡
    s.heap) in let A₂ : Type 0 = (z ≡ z) × (key ≡ key) × (x ≡ x) × (s.heap ≡ s.heap) × (y ≡ y) × (false ≡ false) in let A₃ : Type 0 = (z ≡ z) × (0 ≡ 0) × ((v, []) ≡
    (v, [])) in use0 𝓛 (raw (fact 𝓤 A₃)) (fact_i 𝓤 A₃ (emp 𝓤) (refl, refl, refl)) $ use0 𝓛 (raw (fact 𝓤 A₂)) (fact_i 𝓤 A₂ (emp 𝓤)
    (refl, refl, refl, refl, refl, refl)) $ join ! $ use0 𝓛 (raw (fact 𝓤 A₁)) (fact_i 𝓤 A₁ (emp 𝓤) (refl, refl, refl)) $ join ! $ nothing ! $ nothing ! $ fjoin ! $ nothing ! $
    fjoin ! $ returns ! (look_at ! 0 refl) $ free_all ! refl $ keep ! (3 ∷ 0 ∷ 2 ∷ 1 ∷ []) $ by ! (leaves 𝓛 promise staying claims start u (sh, mh, st) (tt, (tt, tt))
    (tt, (tt, tt))))))))))))
