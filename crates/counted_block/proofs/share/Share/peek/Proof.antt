-- `peek` is a load that tells nothing.
use Rattle.counted_block.proofs.Names.{ℕ, ◌+◌, ◌^◌, List, [], ◌∷◌, refl, lit<, w64, named, dcons, dnil, Val, vint, vptr, inst_fn, SProp, Lft, Fml, flft, finv, ‵, raw, ◌⊛◌}
use Rattle.counted_block.proofs.Names.{mean, at_ret, ◌$◌, ◌∵◌, !, qed, by, move, keep, drop, split, join, fsplit, fjoin, use1, use2, via, feq_i, flt_i, hop, stop, fld, addr, lit, of_opd}
use Rattle.counted_block.proofs.Names.{no_more, and_then, first, blocks, exec, Calls-last, returns, enter, alloc_all, pass_all, free_all, look_at, get, through, sets, lands_last, env, agg, sub}
use Rattle.counted_block.proofs.Names.{whole, look_in, tables, yes, RattleType, owns, types_at, plain, block_ptr, nothing, fm, param, bounded, RefOf, shr_vals, shr_Tells, shr_bor-open, obor_close}
use Rattle.counted_block.proofs.Names.{Stays, stay_dropped, walk_of, Goes-dropped, after, proved, leaves, seq_cst, found, finds, loads, BlockId, block, content, tokens, kept_inv, Types, seven}
use Rattle.counted_block.proofs.Names.{halve, of_shares, gripped, share_kind, lent_self, opens_self, closes_self, place}
use Rattle.counted_block.specs.contracts.share.Share as share
use Rattle.counted_block.specs.contracts.seat.Seat as seat
use Rattle.counted_block.proofs.Moving as moving
use Rattle.counted_block.specs.contracts.share.Share.peek as promised
use Rattle.counted_block.proofs.share.Share.peek.Code as code

pub peek_spec : {M : Type 1} → Rattle.counted_block.proofs.share.Share.peek.Statement.statement M
peek_spec 𝓤 𝓛 𝓜 𝓡 wired S₀ W₀ V₀ K₀ Y₀ T₀ A₀ _ _ _ _ _ _ _ g d h dh dd _ _ _ =
    let H = 𝓛.H in let machine = tables 𝓤 H 𝓜 𝓡 𝓡.env in let S : RattleType = param 0 S₀ in let W : RattleType = param 1 W₀ in let V = param 2 V₀ in let K = param 3 K₀ in
    let Y = param 4 Y₀ in let R : RattleType = param 5 T₀ in let A = param 6 A₀ in let promise = promised.ended S₀ W₀ V₀ K₀ Y₀ T₀ A₀ g d h dh dd in
    let claims = promised.clauses S₀ W₀ V₀ K₀ Y₀ T₀ A₀ g d h dh dd 𝓛 𝓜.mem 𝓡.returns in let types : Types seven = (S₀, (W₀, (V₀, (K₀, (Y₀, (T₀, (A₀, tt))))))) in
    let at_types = bounded seven types (dcons d (dcons dh (dcons dd dnil))) in let routine = inst_fn at_types code.function in let OwnRow : RattleType = share.the_row S W V K Y R A g h in
    let SeatRow : RattleType = seat.the_row S W V in let I = share_kind S W V K Y R A g h in let self = RefOf (0 ∷ []) tt (plain (λ _. OwnRow)) (λ _. tt) in
    let staying : Stays promise.signature.params promise.kept = (stay_dropped self yes, tt) in proved 𝓛 promise staying claims 𝓜 𝓡 (Goes-dropped 𝓛 8 self yes (λ κs x f. refl), tt)
    (promised.Key.name at_types) routine (code.unfolded 𝓤 H 𝓜 𝓡 wired types d dh dd) (λ κs. (shr_vals, tt)) (λ κs. (shr_Tells (named 0) κs.0 OwnRow, tt)) (λ κs qs bounds a gh are.
    let self_block : ℕ = a.0.ref_ptr.0 in let self_offset : ℕ = a.0.ref_ptr.1 in let κ : Lft = κs.0 in let s : OwnRow.Denot = a.0.now in let x : R.Denot = s.value in
    let k = h.dealloc_token s.heap in let z : BlockId = s.id in let pb : ℕ = z.block in let e : ℕ = z.offset + 0 in let Beside : Fml = tokens 7 κs.1 qs.1 in let holds = g.holds s.key in
    let P : Fml = content S W R k z x in let J : Fml = block S W V.coded.code holds g.out P z in let start : (walk_of 𝓛 promise staying claims).Ghost =
    ((κs, qs, bounds, a, (vptr self_block self_offset ∷ [], tt)), gh) in let returned : Val → SProp 𝓤 = (walk_of 𝓛 promise staying claims).post start in qed 𝓛 (((‵ (flft κ qs.0) ⊛
    ‵ Beside) ⊛ ‵ (owns (types_at promise.signature.params κs) a start.0.4)) ∷ raw ((claims κs a).requires gh) ∷ []) ∵ keep ! (0 ∷ []) $ split ! $ split ! $ move ! (2 ∷ []) $
    fsplit ! $ fsplit ! $ keep ! (1 ∷ 3 ∷ 4 ∷ []) $ enter ! machine.C machine.Λ routine (vptr self_block self_offset ∷ []) returned $ alloc_all ! (λ l. pass_all ! refl ((tt, tt), tt) $
    let here = env routine.locals l in lent_self S W V K Y R A g h I ! s self_block self_offset $ fsplit ! $ fsplit ! $ move ! (2 ∷ []) $ fsplit ! $
    use1 𝓛 (‵ (finv J)) (kept_inv S W V.coded.code holds g.out P z 𝓛) $ move ! (1 ∷ []) $ drop ! $ move ! (1 ∷ []) $ drop ! $ move ! (2 ∷ 3 ∷ 1 ∷ []) $
    opens_self S W V K Y R A g h I ! tt (place z) self_block self_offset (λ q. first ! $ blocks ! $ sets ! (addr ! (through ! refl (fld ! refl (hop ! (look_in ! 0 (sub ! 0 refl (whole !))) (fld !
    refl (stop !)))))) refl (tt, tt) $ closes_self S W V K Y R A g h I ! tt q (place z) self_block self_offset $
    -- [the token; the fields; the grips, lent; the invariant; the others]
    move ! (2 ∷ 0 ∷ []) $ shr_bor-open ! tt (halve 𝓛 z.grips of_shares) (λ r. let out : ℕ → Fml = λ _. gripped z.grips of_shares r in move ! (3 ∷ 1 ∷ []) $
    use2 𝓛 (raw (machine.C _ (vptr pb e ∷ seq_cst ∷ []) (λ u. mean 𝓛 (found out u)))) (via 𝓤 _ (moving.glances 𝓛 S W V.coded holds g.out P z r) (loads 𝓛 𝓜 𝓡
    (code.calls-std::sync::atomic::raw::load 𝓡.env wired) (block_ptr pb e) out)) $ sets ! (agg ! (and_then ! (lit ! tt) (no_more !))) refl (tt, (record { fits = lit< tt }, tt)) $
    Calls-last ! (fm 𝓛 𝓜 𝓡) (found out) (and_then ! (get ! refl) (and_then ! (get ! refl) (no_more !))) (λ u. finds ! out (λ n fits. lands_last ! refl (tt, record { fits = fits }) $
    exec ! machine.C machine.Λ here (after 1 routine.body) (at_ret here returned) $ sets ! (of_opd ! (get ! refl)) refl (tt, record { fits = fits }) $ move ! (1 ∷ 0 ∷ []) $ obor_close ! tt $
    drop ! $ move ! (0 ∷ 2 ∷ []) $ join ! $ nothing ! $ nothing ! $ fjoin ! $ nothing ! $ flt_i ! n (2 ^ 64) fits $ feq_i ! (List Val) (vint w64 n ∷ []) (vint w64 n ∷ []) refl $ fjoin ! $
    returns ! (look_at ! 0 refl) $ free_all ! refl $ keep ! (3 ∷ 2 ∷ 0 ∷ 1 ∷ []) $ by ! (leaves 𝓛 promise staying claims start (vint w64 n) n (tt, tt) (tt, tt))))))))
